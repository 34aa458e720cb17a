-- The methods of a chord.
use Rattle.std.specs.Prelude.{◌≡◌, ℕ, ◌<◌, ◌≤◌, Bool, true, false, List, Some, slice_get}
use Rattle.chord_base.specs.Messages.{has}

-- for each of the first sixteen methods a flag says whether it stands among these numbers
abbrev pub AreFlags : List ℕ → List Bool → Type 0
AreFlags numbers flags = (j : ℕ) → j < 16 → slice_get flags j ≡ Some (has j numbers)

-- the chords from this number on and before that one have no header of the method
abbrev pub LackHeader : ℕ → List (List ℕ) → ℕ → ℕ → Type 0
LackHeader j chords from to = (k : ℕ) (js : List ℕ) → from ≤ k → k < to → slice_get chords k ≡ Some js → has j js ≡ false

-- the chord of this number, if there is one, has a header of the method
abbrev pub HasHeader : ℕ → List (List ℕ) → ℕ → Type 0
HasHeader j chords at = (js : List ℕ) → slice_get chords at ≡ Some js → has j js ≡ true
