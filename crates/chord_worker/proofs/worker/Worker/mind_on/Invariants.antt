use Rattle.std.proofs.Common.{◌≡◌, ◌<◌, vec_len, vec_capacity}
use Rattle.chord_rule.specs.Made.{key}
use Rattle.chord_space.specs.Desks.{view}
use Rattle.chord_worker.specs.Sending.{Minds}
use Rattle.chord_worker.specs.Resting.{IsSameRole}
use Rattle.chord_worker.specs.Stepping.{StillPlays}
use Rattle.chord_worker.proofs.worker.Worker.mind_on.Given as goal

abbrev pub invariant-loop : goal.invariant-loop
invariant-loop g l = (goal.iterator-loop g).can_next l.iterator' × (goal.iterator-loop g).is_finite l.iterator'
    × Minds l.fn.space l.self l.fn.message.number (key l.fn.message.object l.fn.message.method) × IsSameRole (view l.fn.self.desk) (view l.self.desk) × ((view l.self.desk).draws ≡ (view l.fn.self.desk).draws) × (vec_len l.self.draws < vec_capacity l.self.draws) × (l.self.spare ≡ l.fn.self.spare) × StillPlays (view l.fn.self.desk).kept l.fn.self.task l.self × (l.self.taken ≡ l.fn.self.taken)
