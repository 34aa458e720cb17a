use Rattle.std.proofs.Common.{◌≡◌, ◌<◌, ◌≤◌, ℕ, Some}
use Rattle.std.specs.Prelude.{slice_get}
use Rattle.chord_code.specs.declared.parts.MethodLine.{MethodLine}
use Rattle.chord_code.proofs.valid.have_few_parameters.Given as goal

abbrev pub invariant-loop-method : goal.invariant-loop-method
invariant-loop-method l = (k : ℕ) (x : MethodLine) → k < l.method-index → slice_get l.method-items k ≡ Some x → x.parameters ≤ 8
