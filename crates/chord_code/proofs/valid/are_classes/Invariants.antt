use Rattle.std.proofs.Common.{◌≡◌, ◌<◌, ℕ, Some}
use Rattle.std.specs.Prelude.{slice_get}
use Rattle.chord_code.specs.declared.parts.ClassLine.{ClassLine}
use Rattle.chord_code.specs.Valid.{IsClassLine}
use Rattle.chord_code.proofs.valid.are_classes.Given as goal

abbrev pub invariant-loop-class : goal.invariant-loop-class
invariant-loop-class l = (k : ℕ) (x : ClassLine) → k < l.class-index → slice_get l.class-items k ≡ Some x → IsClassLine l.parts x
