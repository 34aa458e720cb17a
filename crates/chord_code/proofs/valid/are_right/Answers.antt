use Rattle.std.proofs.Common.{refl, length}
use Rattle.chord_code.specs.Valid.{IsRight}
use Rattle.chord_code.proofs.Each.{each_more, each_all}
use Rattle.chord_code.proofs.valid.are_right.Goals as goal

pub loop-place-preserved : goal.loop-place-preserved
loop-place-preserved c =
    each_more (λ k x. IsRight c.args.parts.now c.args.number c.args.block.now.slots (length c.args.block.now.instructions) k x) c.items-instruction-items.result.now c.loop-place.place c.instruction-item.result c.loop-place.invariant c.instruction-item.is (rw (← c.items-count.ensures) (c.if-not-is_right.ensures.0 refl))

pub returns : goal.returns
returns c =
    let all = each_all (λ k x. IsRight c.args.parts.now c.args.number c.args.block.now.slots (length c.args.block.now.instructions) k x) c.items-instruction-items.result.now c.loop-place.place c.loop-place-test.false c.loop-place.invariant in
    (λ _. rw c.items-instruction-items.ensures at all, λ _. refl)
