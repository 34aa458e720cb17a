use Rattle.std.proofs.Common.{◌≡◌, refl, rules}
use Rattle.chord_space.specs.Desks.{view}
use Rattle.chord_worker.specs.declared.worker.Worker.{Worker}
use Rattle.chord_pool.specs.declared.ending.Alone.{Alone}
use Rattle.chord_pool.specs.Ending.{HasFailedAlone}
use Rattle.chord_pool.proofs.Endings.{role_stays}
use Rattle.chord_pool.proofs.Rounds.{no_turns, more_turns, left_off_alone, failed_alone}
use Rattle.chord_pool.proofs.ending.play_alone.Goals as goal

pub loop-init : goal.loop-init
loop-init g c = (search rules, search rules, search rules, search rules, no_turns g.G.Gate.knows c.args.run.now.space.now _)

pub loop-preserved : goal.loop-preserved
loop-preserved g c = (
  tt,
  tt,
  c.in_ok-turns.ensures.worker,
  role_stays (view c.args.worker.desk) (view c.loop.alone.worker.desk) (view c.turns.new.self.worker.desk) c.loop.invariant.3 c.in_ok-turns.ensures.role,
  more_turns g.G.Gate.knows c.args.run.now.space.now _ c.loop.alone c.turns.new.self c.loop.invariant.4 (c.in_ok-turns.ensures.had c.if-branch.false),
)

pub returns-then-branch-clause-off : goal.returns-then-branch-clause-off
returns-then-branch-clause-off g c = (
  record { worker = c.args.worker; place = 0 },
  refl,
  refl,
  left_off_alone g.G.Gate.knows c.args.run.now.space.now _ c.loop.alone c.turns.new.self.worker c.loop.invariant.4 (c.in_ok-turns.ensures.off c.if-branch.true),
)

pub returns-in_err-turns-clause-short : goal.returns-in_err-turns-clause-short
returns-in_err-turns-clause-short g c =
    let out : (begin : Alone) × (begin.worker ≡ c.args.worker) × (begin.place ≡ 0) × (last : Worker) × HasFailedAlone g.G.Gate.knows c.args.run.now.space.now begin last = (
      record { worker = c.args.worker; place = 0 },
      refl,
      refl,
      c.turns.new.self.worker,
      failed_alone g.G.Gate.knows c.args.run.now.space.now _ c.loop.alone c.turns.new.self.worker c.loop.invariant.4 c.in_err-turns.ensures.short,
    ) in
    search (rules, out)
