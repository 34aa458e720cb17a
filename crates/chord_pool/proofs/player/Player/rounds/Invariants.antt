-- The player has not failed and may go on, at the desk with which it began; it counts among those at work if it plays a task, what it did last was a round, before which it read that nobody told it to stop, and all that it did was rounds.
use Rattle.std.proofs.Common.{◌≡◌, ◌<◌, false}
use Rattle.chord_roll.specs.Cards.{stops}
use Rattle.chord_pool.specs.declared.player.Player.{Player}
use Rattle.chord_pool.specs.Players.{MayPlay, PlaysOn, IsOnTheWay, CountsIfItPlays, HadARound, HadRounds}
use Rattle.chord_pool.proofs.player.Player.rounds.Given as goal

abbrev pub invariant-loop-round : goal.invariant-loop-round
invariant-loop-round g l =
    MayPlay l.run.space.now l.self × PlaysOn l.fn.self l.self × (l.self.failed ≡ false) × CountsIfItPlays l.self × (0 < l._round → stops l.self.card ≡ false)
    × (0 < l._round → (before : Player) × IsOnTheWay l.run.space.now l.fn.self before × HadARound g.G.Gate.knows l.run.space.now before l.self)
    × HadRounds g.G.Gate.knows l.run.space.now l.fn.self l.self
