-- Numbers among lists, and truth values as numbers.
use Rattle.std.specs.Prelude.{◌≡◌, ◌⊎◌, ℕ, Bool, true, false, List, [], ◌∷◌}

-- the number is one of these
abbrev pub HasNumber : ℕ → List ℕ → Type 0
HasNumber x [] = ⊥
HasNumber x (y ∷ ys) = (x ≡ y) ⊎ HasNumber x ys

-- 1 for true, 0 for false
abbrev pub one_if : Bool → ℕ
one_if true = 1
one_if false = 0
