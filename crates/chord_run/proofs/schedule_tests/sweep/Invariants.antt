use Rattle.chord_space.specs.Desks.{view}
use Rattle.chord_worker.specs.Resting.{IsSameRole}
use Rattle.chord_pool.specs.Players.{IsSettled}
use Rattle.chord_run.proofs.schedule_tests.sweep.Given as goal

abbrev pub invariant-loop-i : goal.invariant-loop-i
invariant-loop-i g l = IsSettled l.space l.worker × IsSameRole (view l.fn.worker.desk) (view l.worker.desk)
