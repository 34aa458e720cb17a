-- The others that are left have come back, the first worker has split its desk as often as before, and those that it took in had not failed, and drew what it has.
use Rattle.std.proofs.Common.{◌≡◌}
use Rattle.chord_space.specs.Desks.{view}
use Rattle.std.specs.Vec.Iter.{into_iter_items}
use Rattle.chord_pool.specs.Players.{IsBack, any_failed, with_draws}
use Rattle.chord_pool.proofs.crew.take_all.Given as goal

abbrev pub invariant-loop-player : goal.invariant-loop-player
invariant-loop-player l = goal.iterator-loop-player.can_next l.player-iterator × goal.iterator-loop-player.is_finite l.player-iterator × IsBack l.space l.main l.player-iterator.rest.items
    × ((view l.main.desk).splits ≡ (view l.fn.main.desk).splits)
    × (any_failed (into_iter_items l.player-iterator) ≡ any_failed l.fn.others.items)
    × (with_draws (view l.main.desk).draws (into_iter_items l.player-iterator) ≡ with_draws (view l.fn.main.desk).draws l.fn.others.items)
