-- The worker is alone, in the role that it had, what it did last was a turn, and all that it did was turns.
use Rattle.std.proofs.Common.{◌<◌}
use Rattle.chord_space.specs.Desks.{view}
use Rattle.chord_worker.specs.Resting.{IsSameRole}
use Rattle.chord_pool.specs.declared.ending.Alone.{Alone}
use Rattle.chord_pool.specs.Ending.{IsAloneWorker, HadATurn, HadTurns}
use Rattle.chord_pool.proofs.ending.Alone.turns.Given as goal

abbrev pub invariant-loop-turn : goal.invariant-loop-turn
invariant-loop-turn g l =
    IsAloneWorker l.run.space.now l.self.worker × IsSameRole (view l.fn.self.worker.desk) (view l.self.worker.desk)
    × (0 < l._turn → (before : Alone) × HadTurns g.G.Gate.knows l.run.space.now l.fn.self before × HadATurn g.G.Gate.knows l.run.space.now before l.self)
    × HadTurns g.G.Gate.knows l.run.space.now l.fn.self l.self
