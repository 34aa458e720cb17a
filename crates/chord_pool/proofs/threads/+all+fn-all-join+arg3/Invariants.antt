-- Each thread takes one of the players away.
use Rattle.std.proofs.Common.{length}
use Rattle.chord_pool.proofs.threads.+all+fn-all-join+arg3.Given as goal

abbrev pub decreases-all : goal.decreases-all
decreases-all g l = length l.players.items

abbrev pub decreases-join+arg3 : goal.decreases-join+arg3
decreases-join+arg3 g l = length l.players.items
