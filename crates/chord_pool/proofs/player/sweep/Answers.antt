use Rattle.std.proofs.Common.{◌+◌, ◌∙◌, refl, sym, arith}
use Rattle.chord_space.specs.Desks.{view}
use Rattle.chord_pool.proofs.Endings.{role_stays}
use Rattle.chord_pool.proofs.Looking.{none_there, unready_more, through_more, through_all, plays_since, unready_stay, began_more}
use Rattle.chord_pool.proofs.player.sweep.Goals as goal

pub loop-i-preserved : goal.loop-i-preserved
loop-i-preserved g c =
    let was = c.loop-i.invariant in let now = c.if-try_start.ensures in let saw_it = now.seen refl in (
      now.worker,
      none_there c.try_start.new.worker.task (sym now.task),
      role_stays (view c.args.worker.now.desk) (view c.loop-i.worker.desk) (view c.try_start.new.worker.desk) was.2 now.role,
      saw_it.count ∙ was.3,
      unready_more c.args.from c.loop-i.i (view c.loop-i.worker.desk) (view c.try_start.new.worker.desk) was.4 saw_it,
      now.as_before refl ∙ was.5,
      ((now.card.0.0 ∙ was.6.0.0, now.card.0.1 ∙ was.6.0.1), now.card.1 ∙ was.6.1, now.card.2 ∙ was.6.2, now.card.3 ∙ was.6.3),
      now.stops ∙ was.7,
      saw_it.kept ∙ was.8,
      (let within = c.loop-i-test.true in omega (arith, within)),
      through_more (view c.args.worker.now.desk) (view c.loop-i.worker.desk) (view c.try_start.new.worker.desk) c.args.from c.loop-i.i c.loop-i.auto.i was.10 now.through,
      (λ yes. now.ended (was.5 ∙ yes) ∙ was.11 yes),
      began_more (view c.args.worker.now.desk) (view c.loop-i.worker.desk) (view c.try_start.new.worker.desk) c.args.card.now c.loop-i.card c.try_start.new.card was.5 was.12 now.began,
    )

pub returns-then-try_start-clause-started : goal.returns-then-try_start-clause-started
returns-then-try_start-clause-started g c = λ _.
    (c.loop-i.i, plays_since g.G.Gate.knows c.args.worker.now c.loop-i.worker c.try_start.new.worker c.loop-i.i c.requires.idle c.loop-i.invariant.8 (c.if-try_start.ensures.plays refl))

pub returns-then-try_start-clause-plays : goal.returns-then-try_start-clause-plays
returns-then-try_start-clause-plays g c =
    plays_since g.G.Gate.knows c.args.worker.now c.loop-i.worker c.try_start.new.worker c.loop-i.i c.requires.idle c.loop-i.invariant.8 (c.if-try_start.ensures.plays refl)

pub returns-then-try_start-clause-before : goal.returns-then-try_start-clause-before
returns-then-try_start-clause-before g c =
    unready_stay c.args.from c.loop-i.i (c.loop-i.i + 1) (view c.loop-i.worker.desk) (view c.try_start.new.worker.desk) c.loop-i.invariant.4 c.if-try_start.ensures.among

pub returns-then-try_start-clause-ended : goal.returns-then-try_start-clause-ended
returns-then-try_start-clause-ended g c = λ yes. c.if-try_start.ensures.ended (c.loop-i.invariant.5 ∙ yes) ∙ c.loop-i.invariant.11 yes

pub returns-clause-through : goal.returns-clause-through
returns-clause-through g c = through_all (view c.args.worker.now.desk) (view c.loop-i.worker.desk) c.args.from c.loop-i.i c.args.below c.loop-i-test.false c.loop-i.invariant.9 c.loop-i.invariant.10

pub returns-then-try_start-clause-began : goal.returns-then-try_start-clause-began
returns-then-try_start-clause-began g c =
    began_more (view c.args.worker.now.desk) (view c.loop-i.worker.desk) (view c.try_start.new.worker.desk) c.args.card.now c.loop-i.card c.try_start.new.card c.loop-i.invariant.5 c.loop-i.invariant.12 c.if-try_start.ensures.began

pub returns-then-try_start-clause-found : goal.returns-then-try_start-clause-found
returns-then-try_start-clause-found g c =
    through_more (view c.args.worker.now.desk) (view c.loop-i.worker.desk) (view c.try_start.new.worker.desk) c.args.from c.loop-i.i c.loop-i.auto.i c.loop-i.invariant.10 c.if-try_start.ensures.through
