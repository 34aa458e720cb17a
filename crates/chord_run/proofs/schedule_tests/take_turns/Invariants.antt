use Rattle.chord_space.specs.Desks.{view}
use Rattle.chord_worker.specs.Resting.{IsSameRole}
use Rattle.chord_pool.specs.Players.{IsSettled}
use Rattle.chord_run.proofs.schedule_tests.take_turns.Given as goal

abbrev pub invariant-loop : goal.invariant-loop
invariant-loop g l = IsSettled l.space l.first × IsSettled l.space l.second × IsSameRole (view l.fn.first.desk) (view l.first.desk)
