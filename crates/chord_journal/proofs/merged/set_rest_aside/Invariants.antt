-- The strays and what is left of the list.
use Rattle.std.proofs.Common.{◌≡◌, ◌++◌, length}
use Rattle.chord_journal.proofs.merged.set_rest_aside.Given as goal

abbrev pub invariant-loop-rest : goal.invariant-loop-rest
invariant-loop-rest l = l.strays.items ++ l.rest.items ≡ l.fn.strays.items ++ l.fn.rest.items

abbrev pub decreases-loop-rest : goal.decreases-loop-rest
decreases-loop-rest l = length l.rest.items
