use Rattle.std.proofs.Common.{◌≡◌, take}
use Rattle.chord_plain.proofs.stack.copied.Given as goal

abbrev pub invariant-loop-value : goal.invariant-loop-value
invariant-loop-value l = l.copy.items ≡ take l.value-index l.stack
