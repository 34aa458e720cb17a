-- One place of a list is set.
use Rattle.std.proofs.Common.{◌≡◌, ◌≢◌, ℕ, zero, suc, List, [], ◌∷◌, Some, refl, ap, set}
use Rattle.std.specs.Prelude.{slice_get}

-- a place that is set has what it was set to
pub set_same : {A : Type 0} (xs : List A) (i : ℕ) (x y : A) → slice_get xs i ≡ Some y → slice_get (set xs i x) i ≡ Some x
set_same [] i x y e = cc
set_same (z ∷ xs) zero x y e = refl
set_same (z ∷ xs) (suc i) x y e = set_same xs i x y e

-- the other places have what they had
pub set_other : {A : Type 0} (xs : List A) (i j : ℕ) (x : A) → i ≢ j → slice_get (set xs i x) j ≡ slice_get xs j
set_other [] zero j x d = refl
set_other [] (suc i) j x d = refl
set_other (z ∷ xs) zero zero x d = absurd (d refl)
set_other (z ∷ xs) zero (suc j) x d = refl
set_other (z ∷ xs) (suc i) zero x d = refl
set_other (z ∷ xs) (suc i) (suc j) x d = set_other xs i j x (λ e. d (ap suc e))
