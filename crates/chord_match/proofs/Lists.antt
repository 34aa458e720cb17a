-- Numbers in lists.
use Rattle.std.proofs.Common.{Bool, ◌||◌, ne_eqb, subst, zero, suc, ◌≢◌, slice_index_or, ◌≡◌, ◌⊎◌, inl, inr, ℕ, ◌+◌, ◌<◌, true, false, ◌++◌, List, [], ◌∷◌, drop, length, refl, sym, ap, ◌∙◌, arith}
use mathlib.Core.Logic.{dite}
use native.Mathlib.Decide.{ℕ_discrete}
use Rattle.std.proofs.lemmas.Bool.{eq-eqb}
use Rattle.std.proofs.Math.Seq.{drop-cons}
use Rattle.chord_base.specs.Messages.{has, AreDifferent}
use Rattle.chord_base.proofs.Pending.{has_more}

-- the first number of a list is among it
pub first_has : (j : ℕ) (js : List ℕ) → has j (j ∷ js) ≡ true
first_has j js = rw (eq-eqb j j refl) refl

-- a list without items is empty
pub no_items : (xs : List ℕ) → length xs ≡ 0 → xs ≡ []
no_items [] e = refl
no_items (x ∷ xs) e = absurd (let z : ℕ = length xs in omega (arith, e))

-- a list is longer by one where one item is added
pub one_longer : {X : Type 0} → (xs : List X) (x : X) → length (xs ++ x ∷ []) ≡ length xs + 1
one_longer [] x = refl
one_longer (y ∷ xs) x = let e = one_longer xs x in omega (arith, e)

-- a number below n + 1 is n or below n
pub all_below_more : (q n : ℕ) → q < n + 1 → (q ≡ n) ⊎ (q < n)
all_below_more q n l = dite (ℕ_discrete q n) inl (λ ne. inr (omega (arith, l, ne)))

-- a number at a place of a list is among it
pub has_at : (js : List ℕ) (q : ℕ) → q < length js → has (slice_index_or js q 0) js ≡ true
has_at [] q l = absurd (omega (arith, l))
has_at (j ∷ js) zero l = first_has j js
has_at (j ∷ js) (suc q) l = has_more (slice_index_or js q 0) j js (has_at js q (omega (arith, l)))

-- a number that is among a list has a place there
pub has_place : (j : ℕ) (js : List ℕ) → has j js ≡ true → (q : ℕ) × (q < length js) × (slice_index_or js q 0 ≡ j)
has_place j [] h = absurd (let z : false ≡ true = h in cc)
has_place j (i ∷ js) h = dite (ℕ_discrete j i)
    (λ same. (0, omega arith, sym same))
    (λ ne. let r = has_place j js (subst (λ (b : Bool). (b || has j js) ≡ true) (ne_eqb j i ne) h) in let low = r.1 in (suc r.0, omega (arith, low), r.2))

-- the numbers from a place on are that at this place, and those behind it
pub from_place : (js : List ℕ) (q : ℕ) → q < length js → drop q js ≡ slice_index_or js q 0 ∷ drop (q + 1) js
from_place js q l = let n : suc q ≡ q + 1 = omega arith in drop-cons js q 0 l ∙ ap (λ (m : ℕ). slice_index_or js q 0 ∷ drop m js) n

-- what is among a list is another number than one that is not
has_apart : (i j : ℕ) (js : List ℕ) → has i js ≡ false → has j js ≡ true → i ≢ j
has_apart i j js out here e = let z : false ≡ true = sym out ∙ ap (λ (k : ℕ). has k js) e ∙ here in absurd (cc)

-- at two places of different numbers two numbers stand
pub different_at : (js : List ℕ) → AreDifferent js → (q r : ℕ) → q < r → r < length js → slice_index_or js q 0 ≢ slice_index_or js r 0
different_at [] d q r g l = absurd (omega (arith, l))
different_at (j ∷ js) d zero (suc r) g l = has_apart j (slice_index_or js r 0) js d.0 (has_at js r (omega (arith, l)))
different_at (j ∷ js) d q zero g l = absurd (omega (arith, g))
different_at (j ∷ js) d (suc q) (suc r) g l = different_at js d.1 q r (omega (arith, g)) (omega (arith, l))
