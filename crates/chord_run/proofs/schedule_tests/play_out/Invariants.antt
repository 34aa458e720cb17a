use Rattle.chord_space.specs.Desks.{view}
use Rattle.chord_worker.specs.Resting.{IsSameRole}
use Rattle.chord_pool.specs.Players.{IsSettled}
use Rattle.chord_run.proofs.schedule_tests.play_out.Given as goal

abbrev pub invariant-loop : goal.invariant-loop
invariant-loop g l = IsSettled l.space l.worker × IsSameRole (view l.fn.worker.desk) (view l.worker.desk)
