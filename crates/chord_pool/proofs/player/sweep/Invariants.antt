-- The worker has found nothing so far: each cell up to here was not ready, and it looked at these alone; it counts among those at work if it did, and all the while, on the card that it had, with which it read and asked nothing, and knows of being told to stop what it did; its desk keeps what it kept, and if it did not count it began to once for each look that read a firing ready.
use Rattle.std.proofs.Common.{◌≡◌, ◌≤◌, max, true, None}
use Rattle.chord_roll.specs.Cards.{counts, ended, stops, HasAskedNothing}
use Rattle.chord_space.specs.Desks.{view}
use Rattle.chord_worker.specs.Resting.{IsSameRole}
use Rattle.chord_pool.specs.Players.{IsFit, AreUnready, LookedThrough, BeganForEach}
use Rattle.chord_pool.proofs.player.sweep.Given as goal

abbrev pub invariant-loop-i : goal.invariant-loop-i
invariant-loop-i g l =
    IsFit l.run.space.now l.worker × (l.worker.task ≡ None) × IsSameRole (view l.fn.worker.desk) (view l.worker.desk)
    × ((view l.worker.desk).looked.count ≡ (view l.fn.worker.desk).looked.count) × AreUnready l.from l.i (view l.worker.desk).looked.seen
    × (counts l.card ≡ counts l.fn.card) × HasAskedNothing l.fn.card l.card × (stops l.card ≡ stops l.fn.card)
    × ((view l.worker.desk).kept ≡ (view l.fn.worker.desk).kept) × (l.i ≤ max l.from l.below) × LookedThrough l.from l.i (view l.fn.worker.desk) (view l.worker.desk)
    × (counts l.fn.card ≡ true → ended l.card ≡ ended l.fn.card) × BeganForEach (view l.fn.worker.desk) (view l.worker.desk) l.fn.card l.card
