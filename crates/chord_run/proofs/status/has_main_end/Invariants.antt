use Rattle.std.proofs.Common.{◌≡◌, ◌==◌, ◌&&◌, ◌≤◌, ◌<◌, ◌+◌, ℕ, false, length, get_or}
use Rattle.chord_base.specs.Printed.{is_end}
use Rattle.chord_base.specs.declared.event.Entry.{Entry}
use Rattle.chord_run.proofs.status.has_main_end.Given as goal

-- none of the last entries, as many as the loop has seen, is the end of `Main`
abbrev pub invariant-loop-i : goal.invariant-loop-i
invariant-loop-i l = (k : ℕ) (d : Entry) → length l.fn.entries ≤ k + l.i → k < length l.fn.entries
    → (is_end (get_or l.fn.entries k d).what && ((get_or l.fn.entries k d).body == 0)) ≡ false
