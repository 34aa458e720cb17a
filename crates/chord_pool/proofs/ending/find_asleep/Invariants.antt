-- The cells so far were last neither woken nor ready, the worker looked at these alone, and it has nothing to play and keeps what it kept.
use Rattle.std.proofs.Common.{◌≡◌, ◌≤◌, max, None}
use Rattle.chord_space.specs.Desks.{view}
use Rattle.chord_worker.specs.Resting.{IsSameRole}
use Rattle.chord_pool.specs.Players.{IsFit, LookedThrough}
use Rattle.chord_pool.specs.Ending.{AreAwake}
use Rattle.chord_pool.proofs.ending.find_asleep.Given as goal

abbrev pub invariant-loop-i : goal.invariant-loop-i
invariant-loop-i g l =
    IsFit l.run.space.now l.worker × (l.worker.task ≡ None) × IsSameRole (view l.fn.worker.desk) (view l.worker.desk)
    × ((view l.worker.desk).looked.count ≡ (view l.fn.worker.desk).looked.count) × AreAwake l.from l.i (view l.worker.desk).looked.seen
    × ((view l.worker.desk).kept ≡ (view l.fn.worker.desk).kept) × (l.i ≤ max l.from l.below) × LookedThrough l.from l.i (view l.fn.worker.desk) (view l.worker.desk)
