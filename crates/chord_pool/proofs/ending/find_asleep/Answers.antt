use Rattle.std.proofs.Common.{◌∙◌, refl, arith}
use Rattle.chord_space.specs.Desks.{view}
use Rattle.chord_pool.proofs.Looking.{through_more, through_all}
use Rattle.chord_pool.proofs.Endings.{role_stays, awake_more, through_awake, come_on, stirred_since}
use Rattle.chord_pool.proofs.ending.find_asleep.Goals as goal

pub loop-i-preserved : goal.loop-i-preserved
loop-i-preserved g c =
    let was = c.loop-i.invariant in let now = c.if-not-is_awake.ensures in let look = now.seen refl in (
      now.worker,
      now.idle refl,
      role_stays (view c.args.worker.now.desk) (view c.loop-i.worker.desk) (view c.is_awake.new.worker.desk) was.2 now.role,
      look.1.count ∙ was.3,
      awake_more c.args.from c.loop-i.i (view c.loop-i.worker.desk) (view c.is_awake.new.worker.desk) look.0 was.4 look.1 look.2,
      look.1.kept ∙ was.5,
      (let within = c.loop-i-test.true in omega (arith, within)),
      through_more (view c.args.worker.now.desk) (view c.loop-i.worker.desk) (view c.is_awake.new.worker.desk) c.args.from c.loop-i.i c.loop-i.auto.i was.7 (through_awake (view c.loop-i.worker.desk) (view c.is_awake.new.worker.desk) c.loop-i.i look.0 look.1 look.2),
    )

pub returns-then-not-is_awake-clause-stirred : goal.returns-then-not-is_awake-clause-stirred
returns-then-not-is_awake-clause-stirred g c =
    stirred_since g.G.Gate.knows c.loop-i.i c.args.worker.now c.loop-i.worker c.is_awake.new.worker c.requires.idle c.loop-i.invariant.5 (c.if-not-is_awake.ensures.stirred refl)

pub returns-then-not-is_awake-clause-come : goal.returns-then-not-is_awake-clause-come
returns-then-not-is_awake-clause-come g c =
    come_on c.args.from c.loop-i.i (view c.args.worker.now.desk) (view c.loop-i.worker.desk) (view c.is_awake.new.worker.desk) c.loop-i.auto.i c.loop-i.invariant.4 c.loop-i.invariant.7 (c.if-not-is_awake.ensures.come refl)

pub returns-clause-through : goal.returns-clause-through
returns-clause-through g c = through_all (view c.args.worker.now.desk) (view c.loop-i.worker.desk) c.args.from c.loop-i.i c.args.below c.loop-i-test.false c.loop-i.invariant.6 c.loop-i.invariant.7
