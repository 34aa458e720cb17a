use Rattle.std.proofs.Common.{length}
use Rattle.chord_code.proofs.valid.+has_one_sync.Given as goal

abbrev pub decreases-has_one_sync : goal.decreases-has_one_sync
decreases-has_one_sync l = length l.numbers.now
