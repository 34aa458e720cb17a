use Rattle.std.proofs.Common.{refl, rules, ◌∙◌}
use Rattle.chord_space.specs.Desks.{view}
use Rattle.chord_pool.proofs.Endings.{role_stays}
use Rattle.chord_pool.proofs.Looking.{began_off}
use Rattle.chord_pool.proofs.Rounds.{no_rounds, more_rounds, rounds_and_between, may_between, counts_between, plays_on_between, left_off_later, played_later}
use Rattle.chord_pool.proofs.player.work.Goals as goal

pub loop-init : goal.loop-init
loop-init g c = (search rules, search rules, search rules, search rules, search rules, search rules, no_rounds g.G.Gate.knows c.args.run.now.space.now c.args.player _ (record { worker = refl; stands = record { place = refl; known = refl; misses = refl }; counted = record { same = refl; throughout = refl }; asks = refl; told = refl }))

pub loop-preserved : goal.loop-preserved
loop-preserved g c = let was = c.loop.invariant in let now = c.if-not-rounds.ensures in let between = c.give_way.ensures in (
  tt,
  tt,
  may_between c.args.run.now.space.now c.rounds.new.self c.give_way.new.self between.between between.same now.may,
  plays_on_between c.args.player c.rounds.new.self c.give_way.new.self
      ((now.on.0.0 ∙ was.3.0.0, now.on.0.1 ∙ was.3.0.1), λ sane. role_stays (view c.args.player.worker.desk) (view c.loop.player.worker.desk) (view c.rounds.new.self.worker.desk) (was.3.1 was.5) (now.on.1 sane)) between.between between.same (between.card.0.0, between.card.0.1),
  counts_between c.rounds.new.self c.give_way.new.self between.between (now.counts refl),
  between.same ∙ now.sane refl,
  rounds_and_between g.G.Gate.knows c.args.run.now.space.now c.args.player c.rounds.new.self c.give_way.new.self
      (more_rounds g.G.Gate.knows c.args.run.now.space.now c.args.player c.loop.player c.rounds.new.self was.6 (now.had refl)) between.between,
)

pub returns-then-not-rounds-clause-off : goal.returns-then-not-rounds-clause-off
returns-then-not-rounds-clause-off g c =
    left_off_later g.G.Gate.knows c.args.run.now.space.now c.args.player c.loop.player c.rounds.new.self c.leave.new.self c.loop.invariant.6 (c.if-not-rounds.ensures.off refl) c.leave.ensures.same.0 c.leave.ensures.same.1
    (began_off c.rounds.new.self.card c.leave.new.self.card c.leave.ensures.counts c.leave.ensures.ended) c.leave.ensures.tells c.leave.ensures.card.0.1 c.leave.ensures.card.0.2 c.leave.ensures.card.0.3 c.leave.ensures.card.1

pub returns-then-not-rounds-clause-played : goal.returns-then-not-rounds-clause-played
returns-then-not-rounds-clause-played g c =
    played_later c.args.run.now.space.now c.rounds.new.self c.leave.new.self c.leave.ensures.same.0 c.leave.ensures.same.1 c.leave.ensures.card.0.1 (c.if-not-rounds.ensures.stops refl)
