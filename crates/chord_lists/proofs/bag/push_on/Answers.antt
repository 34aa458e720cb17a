use Rattle.std.proofs.Common.{arith}
use Rattle.chord_lists.proofs.BagStacks.{pushed_on}
use Rattle.chord_lists.proofs.bag.push_on.Goals as goal

pub returns-clause-pushed : goal.returns-clause-pushed
returns-clause-pushed c =
    pushed_on c.args.stacks.now.items c.lengthen.new.lists.items c.index_mut.result.now c.push.new.self c.args.method c.args.number
    (omega (arith, c.in_ok-lengthen.ensures.long, c.lengthen.new.lists.ok.0)) c.in_ok-lengthen.ensures.same c.index_mut.ensures.value c.in_ok-push.ensures.items
