-- The player has not failed and may go on, at the desk with which it began, counts among those at work if it plays a task, and all that it did was rounds.
use Rattle.std.proofs.Common.{◌≡◌, false}
use Rattle.chord_pool.specs.Players.{MayPlay, PlaysOn, CountsIfItPlays, HadRounds}
use Rattle.chord_pool.proofs.player.work.Given as goal

abbrev pub invariant-loop : goal.invariant-loop
invariant-loop g l =
    (goal.iterator-loop g).can_next l.iterator' × (goal.iterator-loop g).is_finite l.iterator' × MayPlay l.run.space.now l.player × PlaysOn l.fn.player l.player
    × CountsIfItPlays l.player × (l.player.failed ≡ false) × HadRounds g.G.Gate.knows l.run.space.now l.fn.player l.player
