use Rattle.std.proofs.Common.{◌≡◌, ◌++◌, replicate}
use Rattle.chord_base.specs.declared.value.Value.TheVariants as a_value
use Rattle.chord_plain.proofs.stack.filled.Given as goal

abbrev pub invariant-loop : goal.invariant-loop
invariant-loop l = l.slots.items ≡ l.initial.slots.items ++ replicate l.counter a_value.Unit
