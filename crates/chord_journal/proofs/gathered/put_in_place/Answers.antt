use Rattle.std.proofs.Common.{arith}
use Rattle.std.proofs.lemmas.List.Sorted.{IsPermutation-trans, length_permutation}
use Rattle.chord_journal.proofs.gathered.put_in_place.Goals as goal

pub loop-preserved : goal.loop-preserved
loop-preserved c =
    let was = c.loop.invariant in
    let step = c.step_at-place.ensures in
    let long = length_permutation _ _ step.moved in
    (IsPermutation-trans _ _ _ was.0 step.moved, step.placed was.1, step.inside, omega (arith, was.3, long))
