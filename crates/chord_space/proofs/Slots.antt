-- What is out with a desk: one slot, with what it holds.
use Rattle.std.proofs.Common.{◌≡◌, ℕ, List, [], ◌∷◌, Option, Some, None, ap, sym, ◌∙◌}
use mathlib.Core.Path.{Path}

-- what the slot that was taken last holds
abbrev slot_value : {A : Type 0} → Option A → List (ℕ × Option A) → Option A
slot_value a [] = a
slot_value a (x ∷ xs) = x.1

-- two lists that are one begin with one value
pub out_slot : {A : Type 0} (i : ℕ) (a b : Option A) (xs ys zs : List (ℕ × Option A)) → xs ≡ (i, a) ∷ ys → xs ≡ (i, b) ∷ zs → a ≡ b
out_slot {A} i a b xs ys zs p q = ap (λ (ws : List (ℕ × Option A)). slot_value a ws) (sym p ∙ q)

-- a slot that is empty gives no parcel
pub never_both : {A : Type 0} (i : ℕ) (p : A) (r : Option A) (xs ys : List (ℕ × Option A)) → xs ≡ (i, None) ∷ [] → xs ≡ (i, r) ∷ ys → r ≡ Some p → ⊥
never_both {A} i p r xs ys a b c = let d : Path (Option A) None (Some p) = out_slot i None r xs [] ys a b ∙ c in cc
