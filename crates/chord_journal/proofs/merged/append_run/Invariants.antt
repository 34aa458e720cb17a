use Rattle.std.proofs.Common.{◌≡◌, ◌<◌, ◌++◌, length}
use Rattle.chord_journal.specs.Gathered.{in_places}
use Rattle.chord_journal.proofs.merged.append_run.Given as goal

abbrev pub invariant-loop-entries : goal.invariant-loop-entries
invariant-loop-entries l =
    (in_places 0 l.entries.items ++ l.rest.items ≡ in_places 0 l.fn.entries.items ++ l.fn.rest.items) × (length l.rest.items < length l.fn.rest.items)

abbrev pub decreases-loop-entries : goal.decreases-loop-entries
decreases-loop-entries l = length l.rest.items
