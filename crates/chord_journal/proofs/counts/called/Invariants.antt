use Rattle.std.proofs.Common.{◌≡◌, count_by, take}
use Rattle.chord_base.specs.declared.event.Entry.{Entry}
use Rattle.chord_journal.specs.Counts.{is_called}
use Rattle.chord_journal.proofs.counts.called.Given as goal

abbrev pub invariant-loop-entry : goal.invariant-loop-entry
invariant-loop-entry l = l.count ≡ count_by (λ (e : Entry). is_called e.what) (take l.entry-index l.entries)
