use Rattle.std.proofs.Common.{◌≡◌, take}
use Rattle.chord_gen.proofs.lines.method_numbers.Given as goal

abbrev pub invariant-loop-method : goal.invariant-loop-method
invariant-loop-method l = l.numbers ≡ take l.method-index l.methods
