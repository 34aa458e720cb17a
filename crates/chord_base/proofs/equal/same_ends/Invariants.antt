use Rattle.std.proofs.Common.{◌≡◌, take}
use Rattle.chord_base.proofs.equal.same_ends.Given as goal

abbrev pub invariant-loop-i : goal.invariant-loop-i
invariant-loop-i l = take l.i l.left ≡ take l.i l.right
