use Rattle.std.proofs.Common.{◌∙◌, arith}
use Rattle.chord_lists.proofs.BagStacks.{items_more}
use Rattle.chord_lists.proofs.bag.lengthen.Goals as goal

pub loop-preserved : goal.loop-preserved
loop-preserved g c = (
  omega (arith, c.loop.invariant.0, c.in_ok-push.ensures.len),
  λ i. rw c.in_ok-push.ensures.items (items_more c.loop.lists.items c.new.result i c.new.ensures.items ∙ c.loop.invariant.1 i),
  omega (arith, c.loop.invariant.2, c.loop-test.true),
)
