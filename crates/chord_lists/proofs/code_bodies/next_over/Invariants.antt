use Rattle.std.proofs.Common.{length, reverse}
use Rattle.chord_lists.specs.CodeStands.{IsCut, AreOver}
use Rattle.chord_lists.proofs.code_bodies.next_over.Given as goal

abbrev pub invariant-loop-at : goal.invariant-loop-at
invariant-loop-at l = AreOver l.tasks (reverse l.over.items) × IsCut l.fn.over.items l.over.items

abbrev pub decreases-loop-at : goal.decreases-loop-at
decreases-loop-at l = length l.over.items
