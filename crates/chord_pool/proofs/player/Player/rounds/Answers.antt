use Rattle.std.proofs.Common.{arith, refl, rules, ◌∙◌}
use Rattle.chord_space.specs.Desks.{view}
use Rattle.chord_pool.proofs.Endings.{role_stays}
use Rattle.chord_pool.proofs.Rounds.{no_rounds, one_round_more}
use Rattle.chord_pool.proofs.player.Player.rounds.Goals as goal

pub loop-round-init : goal.loop-round-init
loop-round-init g c = (search rules, search rules, search rules, search rules, search rules, search rules, no_rounds g.G.Gate.knows c.args.run.now.space.now c.args.self.now _ (record { worker = refl; stands = record { place = refl; known = refl; misses = refl }; counted = record { same = search rules; throughout = search rules }; asks = search rules; told = search rules }))

pub loop-round-preserved : goal.loop-round-preserved
loop-round-preserved g c =
    let was = c.loop-round.invariant in let now = c.if-not-round.ensures in (
      now.may,
      ((now.on.0.0 ∙ was.1.0.0, now.on.0.1 ∙ was.1.0.1), λ sane. role_stays (view c.args.self.now.worker.desk) (view c.loop-round.self.worker.desk) (view c.round.new.self.worker.desk) (was.1.1 was.2) (now.on.1 sane)),
      now.sane refl,
      now.counts refl,
      (λ _. now.untold refl),
      (λ _. (c.loop-round.self, record { on = was.1; sane = was.2; settled = was.0 was.2; counts_so = was.3; told_nothing = (now.went refl).told_nothing }, now.went refl)),
      one_round_more g.G.Gate.knows c.args.run.now.space.now c.args.self.now c.loop-round.self c.round.new.self was.6 (now.went refl),
    )

pub returns-clause-went : goal.returns-clause-went
returns-clause-went g c = λ _. c.loop-round.invariant.5 (omega arith)

pub returns-clause-had : goal.returns-clause-had
returns-clause-had g c = λ _. c.loop-round.invariant.6

pub returns-then-not-round-clause-off : goal.returns-then-not-round-clause-off
returns-then-not-round-clause-off g c = λ _. record { last = c.loop-round.self; had = c.loop-round.invariant.6; asked = c.if-not-round.ensures.asked; off = c.if-not-round.ensures.off refl; began_so = c.if-not-round.ensures.last refl; short = c.if-not-round.ensures.short refl; gone = c.if-not-round.ensures.gone refl; untold = c.if-not-round.ensures.unstopped refl }

pub returns-clause-untold : goal.returns-clause-untold
returns-clause-untold g c = λ _. c.loop-round.invariant.4 (omega arith)
