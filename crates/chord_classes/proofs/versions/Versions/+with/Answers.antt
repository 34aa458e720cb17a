use Rattle.std.proofs.Common.{arith}
use Rattle.chord_classes.proofs.SharedForks.{made_at_zero, made_below}
use Rattle.chord_classes.proofs.versions.Versions.+with.Goals as goal

pub returns-then-number-eq0 : goal.returns-then-number-eq0
returns-then-number-eq0 t c =
    made_at_zero c.args.self.now c.push.new.self c.args.version c.args.number c.args.value c.in_ok-made.made c.fork-fork.result c.fork-fork.ensures.closed c.requires c.if-number-eq0.true c.fork-fork.ensures.fork c.in_ok-made.ensures

pub returns : goal.returns
returns t c =
    made_below c.args.self.now c.with.new.self c.push-2.new.self c.args.version c.side.result c.args.number c.args.value c.in_ok-inner.inner c.in_ok-whole.whole c.fork-fork.result c.with_side.result
    c.fork-fork.ensures.closed c.requires (let other = c.if-number-eq0.false in omega (arith, other)) c.fork-fork.ensures.fork c.side.ensures c.in_ok-inner.ensures c.with_side.ensures c.in_ok-whole.ensures
