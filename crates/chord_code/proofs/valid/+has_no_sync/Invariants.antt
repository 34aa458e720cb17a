use Rattle.std.proofs.Common.{length}
use Rattle.chord_code.proofs.valid.+has_no_sync.Given as goal

abbrev pub decreases-has_no_sync : goal.decreases-has_no_sync
decreases-has_no_sync l = length l.numbers.now
