use Rattle.std.proofs.Common.{length}
use Rattle.chord_code.proofs.parts.+stands_among.Given as goal

abbrev pub decreases-stands_among : goal.decreases-stands_among
decreases-stands_among l = length l.numbers.now
