-- Hands: the last place tells whether all are full.
use Rattle.std.proofs.Common.{◌≡◌, suc, ◌≤◌, Bool, true, false, List, [], ◌∷◌, ◌++◌, length, Option, Some, None, refl, sym, ◌∙◌, ap, arith}
use Rattle.std.specs.Prelude.{IsTrue, is_some}
use Rattle.chord_base.specs.Hands.{items_in, AreAbsent, HasNoGap}

-- where the last place is full, each is
pub full_all : {A : Type 0} (xs : List (Option A)) (x : A) → HasNoGap (xs ++ Some x ∷ []) → length (items_in (xs ++ Some x ∷ [])) ≡ suc (length xs)
full_all [] x g = refl
full_all (Some y ∷ xs) x g = ap suc (full_all xs x g)
full_all (None ∷ xs) x g = absurd (not_absent xs x g)
  where
    not_absent : {A : Type 0} (xs : List (Option A)) (x : A) → AreAbsent (xs ++ Some x ∷ []) → ⊥
    not_absent [] x a = (let z : Some x ≡ None = a.0 in cc)
    not_absent (y ∷ xs) x a = not_absent xs x a.1

-- where the last place is empty, there are fewer items than places
pub empty_less : {A : Type 0} (xs : List (Option A)) → length (items_in (xs ++ None ∷ [])) ≤ length xs
empty_less [] = omega arith
empty_less (None ∷ xs) = let l = empty_less xs in omega (arith, l)
empty_less (Some x ∷ xs) = let l = empty_less xs in omega (arith, l)

-- the last place tells whether all are full
pub last_tells : {A : Type 0} (xs : List (Option A)) (o : Option A) (r : Bool) → r ≡ is_some o → HasNoGap (xs ++ o ∷ []) → (IsTrue r → length (items_in (xs ++ o ∷ [])) ≡ suc (length xs)) × (length (items_in (xs ++ o ∷ [])) ≡ suc (length xs) → IsTrue r)
last_tells xs None r e g = (
  λ t. let z : true ≡ false = sym t ∙ e in cc,
  λ l. let few = empty_less xs in absurd (omega (arith, l, few)),
)
last_tells xs (Some x) r e g = (λ t. full_all xs x g, λ l. e)
