use Rattle.std.proofs.Common.{rules, arith}
use Rattle.chord_space.specs.Desks.{view}
use Rattle.chord_pool.specs.Ending.{HasFailedAlone}
use Rattle.chord_pool.proofs.Endings.{role_stays}
use Rattle.chord_pool.proofs.Rounds.{no_turns, one_turn_more}
use Rattle.chord_pool.proofs.ending.Alone.turns.Goals as goal

pub loop-turn-init : goal.loop-turn-init
loop-turn-init g c = (search rules, search rules, search rules, no_turns g.G.Gate.knows c.args.run.now.space.now c.args.self.now)

pub loop-turn-preserved : goal.loop-turn-preserved
loop-turn-preserved g c = (
  c.in_ok-turn.ensures.worker,
  role_stays (view c.args.self.now.worker.desk) (view c.loop-turn.self.worker.desk) (view c.turn.new.self.worker.desk) c.loop-turn.invariant.1 c.in_ok-turn.ensures.role,
  (λ _. (c.loop-turn.self, c.loop-turn.invariant.3, c.in_ok-turn.ensures.went c.if-branch.false)),
  one_turn_more g.G.Gate.knows c.args.run.now.space.now c.args.self.now c.loop-turn.self c.turn.new.self c.loop-turn.invariant.3 (c.in_ok-turn.ensures.went c.if-branch.false),
)

pub returns-clause-went : goal.returns-clause-went
returns-clause-went g c = λ _. c.loop-turn.invariant.2 (omega arith)

pub returns-clause-had : goal.returns-clause-had
returns-clause-had g c = λ _. c.loop-turn.invariant.3

pub returns-then-branch-clause-off : goal.returns-then-branch-clause-off
returns-then-branch-clause-off g c = λ _. record { last = c.loop-turn.self; had = c.loop-turn.invariant.3; off = c.in_ok-turn.ensures.off c.if-branch.true }

pub returns-in_err-turn-clause-short : goal.returns-in_err-turn-clause-short
returns-in_err-turn-clause-short g c =
    let out : HasFailedAlone g.G.Gate.knows c.args.run.now.space.now c.args.self.now c.turn.new.self.worker = record { last = c.loop-turn.self; had = c.loop-turn.invariant.3; short = c.in_err-turn.ensures.short } in
    search (rules, out)
