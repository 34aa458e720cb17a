use Rattle.std.proofs.Common.{take, reverse}
use Rattle.chord_lists.specs.CodeStands.{StandsAfter}
use Rattle.chord_lists.proofs.code_run.bodies_after.Given as goal

abbrev pub invariant-loop-i : goal.invariant-loop-i
invariant-loop-i l = StandsAfter l.program.code.now l.program.limits.now l.bodies (reverse (take l.i l.entries))
