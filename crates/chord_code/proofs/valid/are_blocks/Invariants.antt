use Rattle.std.proofs.Common.{◌≡◌, ◌<◌, ℕ, Some}
use Rattle.std.specs.Prelude.{slice_get}
use Rattle.chord_code.specs.declared.parts.Block.{Block}
use Rattle.chord_code.specs.Valid.{IsBlock}
use Rattle.chord_code.proofs.valid.are_blocks.Given as goal

abbrev pub invariant-loop-number : goal.invariant-loop-number
invariant-loop-number l = (k : ℕ) (x : Block) → k < l.number → slice_get l.block-items k ≡ Some x → IsBlock l.parts k x
