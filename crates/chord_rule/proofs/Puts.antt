-- A function that is changed at one number.
use Rattle.std.proofs.Common.{◌≡◌, ◌≢◌, ◌⊎◌, inl, inr, ⊎_elim, ap, ◌++◌, ℕ, zero, suc, ◌<◌, List, [], ◌∷◌, length, arith, refl, subst, sym}
use mathlib.Core.Option.{some, some-injective, some-ne-none}
use lib.ListN.{get_elem?}
use native.Mathlib.Decide.{ℕ_discrete}

module _ {A : Type 0} where
  -- the first of two values where something is decided to hold, else the second
  abbrev pick : {P : Type 0} → Dec P → A → A → A
  pick (yes _) a b = a
  pick (no _) a b = b

  -- the function with this value at this number
  pub put : (ℕ → A) → ℕ → A → ℕ → A
  put f i c j = pick (ℕ_discrete j i) c (f j)

  -- at this number the changed function has the new value
  pub put_here : (f : ℕ → A) (i : ℕ) (c : A) → put f i c i ≡ c
  unfolding put
  put_here f i c = go (ℕ_discrete i i)
    where
      go : (d : Dec (i ≡ i)) → pick d c (f i) ≡ c
      go (yes _) = refl
      go (no n) = absurd (n refl)

  -- at each other number the changed function has the old value
  pub put_else : (f : ℕ → A) (i : ℕ) (c : A) (j : ℕ) → j ≢ i → put f i c j ≡ f j
  unfolding put
  put_else f i c j other = go (ℕ_discrete j i)
    where
      go : (d : Dec (j ≡ i)) → pick d c (f j) ≡ f j
      go (yes e) = absurd (other e)
      go (no _) = refl

  -- what holds of the new value at i, and of each other value, holds after
  pub put_all : (f : ℕ → A) (i : ℕ) (c : A) (F : ℕ → A → Type 0) (j : ℕ) → F i c → (j ≢ i → F j (f j)) → F j (put f i c j)
  unfolding put
  put_all f i c F j here other = go (ℕ_discrete j i)
    where
      go : (d : Dec (j ≡ i)) → F j (pick d c (f j))
      go (yes e) = subst (λ (k : ℕ). F k c) (sym e) here
      go (no n) = other n

-- a place at which a list has an item is inside it
pub at_inside : {A : Type 0} (xs : List A) (i : ℕ) (a : A) → get_elem? xs i ≡ some a → i < length xs
at_inside [] i a e = absurd (some-ne-none a (sym e))
at_inside (x ∷ xs) zero a e = omega arith
at_inside (x ∷ xs) (suc i) a e = let h = at_inside xs i a e in omega arith

-- the element behind the others
pub at_end : {A : Type 0} (l : List A) (a b : A) (j : ℕ) → get_elem? (l ++ a ∷ []) j ≡ some b → (get_elem? l j ≡ some b) ⊎ ((j ≡ length l) × (a ≡ b))
at_end [] a b zero e = inr (refl, some-injective a b e)
at_end [] a b (suc j) e = absurd (some-ne-none b (sym e))
at_end (x ∷ xs) a b zero e = inl e
at_end (x ∷ xs) a b (suc j) e = ⊎_elim inl (λ t. inr (ap suc t.0, t.1)) (at_end xs a b j e)
