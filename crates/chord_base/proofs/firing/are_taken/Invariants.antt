use Rattle.std.proofs.Common.{reverse}
use Rattle.chord_base.proofs.Taken.{Reaches}
use Rattle.chord_base.proofs.firing.are_taken.Given as goal

abbrev pub invariant-loop-i : goal.invariant-loop-i
invariant-loop-i l = Reaches (reverse l.past) l.object l.methods l.members l.values l.i l.rest
