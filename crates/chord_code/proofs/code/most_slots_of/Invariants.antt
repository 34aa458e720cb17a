-- No block so far has more slots than the most so far, and one of them has that many.
use Rattle.std.proofs.Common.{◌≡◌, ◌⊎◌, ℕ, ◌<◌, ◌≤◌, slice_get, Some}
use Rattle.chord_code.specs.declared.parts.Block.{Block}
use Rattle.chord_code.proofs.code.most_slots_of.Given as goal

abbrev pub invariant-loop-block : goal.invariant-loop-block
invariant-loop-block l =
    ((j : ℕ) (c : Block) → j < l.block-index → slice_get l.blocks j ≡ Some c → c.slots ≤ l.most)
    × ((l.most ≡ 0) ⊎ ((j : ℕ) × (c : Block) × (slice_get l.blocks j ≡ Some c) × (c.slots ≡ l.most)))
