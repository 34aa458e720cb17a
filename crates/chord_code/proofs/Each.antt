-- What holds of each item of a list, item by item.
use Rattle.std.proofs.Common.{◌≡◌, ℕ, zero, suc, ◌+◌, ◌<◌, ◌≤◌, List, [], ◌∷◌, length, get_or, Option, Some, None, sym, ◌∙◌, subst, arith, ⊎_elim}
use Rattle.std.specs.Prelude.{slice_get}
use Rattle.std.proofs.lemmas.Option.{slice_get_past}
use Rattle.std.proofs.lemmas.Bool.{cases_lt}

-- what stands at a place is one item
same_item : {A : Type 0} (xs : List A) (n : ℕ) (x y : A) → x ≡ get_or xs n x → slice_get xs n ≡ Some y → x ≡ y
same_item [] n x y e f = cc
same_item (z ∷ zs) zero x y e f = cc
same_item (z ∷ zs) (suc n) x y e f = same_item zs n x y e f

-- what holds of the items below a place and of the item there holds of the items below the next
pub each_more : {A : Type 0} (P : ℕ → A → Type 0) (xs : List A) (n : ℕ) (x : A) → ((k : ℕ) (y : A) → k < n → slice_get xs k ≡ Some y → P k y) → x ≡ get_or xs n x → P n x → (k : ℕ) (y : A) → k < n + 1 → slice_get xs k ≡ Some y → P k y
each_more P xs n x below at here k y less is =
    ⊎_elim (λ lt. below k y lt is) (λ le. let e : n ≡ k = omega (arith, le, less) in subst (λ j. P j y) e (subst (P n) (same_item xs n x y at (subst (λ j. slice_get xs j ≡ Some y) (sym e) is)) here)) (cases_lt k n)

-- nothing is not an item
no_item : {A : Type 0} (y : A) → ◌≡◌ {A = Option A} None (Some y) → ⊥
no_item y e = cc

-- what holds of the items below the length holds of each
pub each_all : {A : Type 0} (P : ℕ → A → Type 0) (xs : List A) (n : ℕ) → length xs ≤ n → ((k : ℕ) (y : A) → k < n → slice_get xs k ≡ Some y → P k y) → (k : ℕ) (y : A) → slice_get xs k ≡ Some y → P k y
each_all P xs n long below k y is =
    ⊎_elim (λ lt. below k y lt is) (λ le. absurd (no_item y (sym (slice_get_past xs k (omega (arith, le, long))) ∙ is))) (cases_lt k n)
