-- The worker is alone, in the role that it had, and all that it did was turns.
use Rattle.chord_space.specs.Desks.{view}
use Rattle.chord_worker.specs.Resting.{IsSameRole}
use Rattle.chord_pool.specs.Ending.{IsAloneWorker, HadTurns}
use Rattle.chord_pool.proofs.ending.play_alone.Given as goal

abbrev pub invariant-loop : goal.invariant-loop
invariant-loop g l =
    (goal.iterator-loop g).can_next l.iterator' × (goal.iterator-loop g).is_finite l.iterator' × IsAloneWorker l.run.space.now l.alone.worker
    × IsSameRole (view l.fn.worker.desk) (view l.alone.worker.desk) × HadTurns g.G.Gate.knows l.run.space.now (record { worker = l.fn.worker; place = 0 }) l.alone
