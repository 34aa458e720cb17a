use Rattle.std.proofs.Common.{◌≡◌, ◌∷◌, take}
use Rattle.chord_base.specs.declared.value.Value.TheVariants as a_value
use Rattle.chord_plain.proofs.running.object_first.Given as goal

abbrev pub invariant-loop-value : goal.invariant-loop-value
invariant-loop-value l = l.all.items ≡ a_value.Ref l.fn.object ∷ take l.value-index l.values
