-- The slots of a block.
use Rattle.std.specs.Prelude.{◌≡◌, ◌⊎◌, ◌≤◌, ℕ, zero, suc, List, [], ◌∷◌, Option, Some, None, slice_get}
use Rattle.chord_base.specs.declared.value.Value.{Value}
use Rattle.chord_base.specs.declared.value.Value.TheVariants as a_value
use Rattle.chord_code.specs.declared.parts.Block.{Block}

-- so many slots has the largest of these blocks, or it is 0 where no block has any
pub record IsMostSlots (blocks : List Block) (n : ℕ) : Type 0 where
  pub bound : (i : ℕ) (b : Block) → slice_get blocks i ≡ Some b → b.slots ≤ n
  pub reached : (n ≡ 0) ⊎ ((i : ℕ) × (b : Block) × (slice_get blocks i ≡ Some b) × (b.slots ≡ n))

-- a value before others, if these are there
abbrev pub with_first : Value → Option (List Value) → Option (List Value)
with_first x None = None
with_first x (Some xs) = Some (x ∷ xs)

-- the slots with which a block begins, where there are enough for these values: the unit value where nothing was given
abbrev pub first_slots : ℕ → List Value → Option (List Value)
first_slots zero [] = Some []
first_slots zero (x ∷ xs) = None
first_slots (suc n) [] = with_first a_value.Unit (first_slots n [])
first_slots (suc n) (x ∷ xs) = with_first x (first_slots n xs)

-- the slots with slot i set to a value, where there is one
abbrev pub set_slot : ℕ → Value → List Value → Option (List Value)
set_slot i v [] = None
set_slot zero v (x ∷ xs) = Some (v ∷ xs)
set_slot (suc i) v (x ∷ xs) = with_first x (set_slot i v xs)
