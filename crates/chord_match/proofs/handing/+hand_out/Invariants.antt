use Rattle.std.proofs.Common.{length}
use Rattle.chord_match.proofs.handing.+hand_out.Given as goal

abbrev pub decreases-hand_out : goal.decreases-hand_out
decreases-hand_out g l = length l.members.now
