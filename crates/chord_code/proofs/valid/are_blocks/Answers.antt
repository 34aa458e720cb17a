use Rattle.std.proofs.Common.{refl}
use Rattle.chord_code.specs.Valid.{IsBlock}
use Rattle.chord_code.proofs.Each.{each_more, each_all}
use Rattle.chord_code.proofs.valid.are_blocks.Goals as goal

pub loop-number-preserved : goal.loop-number-preserved
loop-number-preserved c =
    each_more (λ k x. IsBlock c.args.parts.now k x) c.items-block-items.result.now c.loop-number.number c.block-item.result c.loop-number.invariant c.block-item.is (c.if-not-is_block.ensures.0 refl)

pub returns : goal.returns
returns c =
    let all = each_all (λ k x. IsBlock c.args.parts.now k x) c.items-block-items.result.now c.loop-number.number c.loop-number-test.false c.loop-number.invariant in
    (λ _. rw c.items-block-items.ensures at all, λ _. refl)
