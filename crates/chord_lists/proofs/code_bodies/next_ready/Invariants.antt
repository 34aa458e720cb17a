use Rattle.std.proofs.Common.{length, reverse}
use Rattle.chord_lists.specs.CodeStands.{IsCut, AreReady}
use Rattle.chord_lists.proofs.code_bodies.next_ready.Given as goal

abbrev pub invariant-loop-at : goal.invariant-loop-at
invariant-loop-at l = AreReady l.tasks (reverse l.ready.items) × IsCut l.fn.ready.items l.ready.items

abbrev pub decreases-loop-at : goal.decreases-loop-at
decreases-loop-at l = length l.ready.items
