-- The crew so far, with as many others as the counter says.
use Rattle.std.proofs.Common.{◌≡◌, ◌+◌, ◌≤◌, length}
use Rattle.chord_space.specs.Desks.{view}
use Rattle.chord_pool.specs.Players.{IsCrew, AreCards}
use Rattle.chord_pool.proofs.crew.hire.Given as goal

abbrev pub invariant-loop : goal.invariant-loop
invariant-loop l = IsCrew l.space l.main.worker l.others.items × AreCards l.main.card l.others.items × ((view l.main.worker.desk).splits ≡ length l.others.items) × (length l.others.items + 1 ≡ l.counter) × (l.counter ≤ l.workers) × (l.workers ≤ 64) × (l.main.failed ≡ l.fn.main.failed) × (l.main.worker.task ≡ l.fn.main.worker.task) × ((view l.main.worker.desk).draws ≡ (view l.fn.main.worker.desk).draws)
    × (l.main.place ≡ l.fn.main.place) × (l.main.known ≡ l.fn.main.known) × (l.main.misses ≡ l.fn.main.misses)
