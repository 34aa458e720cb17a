use Rattle.std.proofs.Common.{refl}
use Rattle.chord_code.specs.Valid.{IsClassLine}
use Rattle.chord_code.proofs.Each.{each_more, each_all}
use Rattle.chord_code.proofs.valid.are_classes.Goals as goal

pub loop-class-preserved : goal.loop-class-preserved
loop-class-preserved c =
    each_more (λ k x. IsClassLine c.args.parts.now x) c.items-class-items.result.now c.loop-class.class-index c.class-item.result c.loop-class.invariant c.class-item.is (c.if-not-is_class.ensures.0 refl)

pub returns : goal.returns
returns c =
    let all = each_all (λ k x. IsClassLine c.args.parts.now x) c.items-class-items.result.now c.loop-class.class-index c.loop-class-test.false c.loop-class.invariant in
    (λ _. rw c.items-class-items.ensures at all, λ _. refl)
