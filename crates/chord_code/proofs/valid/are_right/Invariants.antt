use Rattle.std.proofs.Common.{◌≡◌, ◌<◌, ℕ, length, Some}
use Rattle.std.specs.Prelude.{slice_get}
use Rattle.chord_code.specs.declared.instruction.Instruction.{Instruction}
use Rattle.chord_code.specs.Valid.{IsRight}
use Rattle.chord_code.proofs.valid.are_right.Given as goal

abbrev pub invariant-loop-place : goal.invariant-loop-place
invariant-loop-place l = (k : ℕ) (x : Instruction) → k < l.place → slice_get l.instruction-items k ≡ Some x → IsRight l.parts l.number l.block.slots (length l.block.instructions) k x
