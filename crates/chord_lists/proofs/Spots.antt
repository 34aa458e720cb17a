-- Places of lists.
use Rattle.std.proofs.Common.{◌≡◌, ◌≢◌, ℕ, zero, suc, ◌<◌, ◌≤◌, true, ◌==◌, List, [], ◌∷◌, ◌++◌, length, Option, Some, None, refl, sym, ap, ◌∙◌, arith, inl, inr, get_or}
use Rattle.std.specs.Prelude.{slice_get}
use Rattle.std.proofs.lemmas.Bool.{eqb-true, eqb-false}
use Rattle.chord_base.specs.Messages.{has}
use Rattle.chord_base.proofs.Waits.{either}

-- an item that is added stands at the end
pub end_at : {A : Type 0} (xs : List A) (x : A) → slice_get (xs ++ x ∷ []) (length xs) ≡ Some x
end_at [] x = refl
end_at (y ∷ xs) x = end_at xs x

-- the places before the end have what they had
pub before_end : {A : Type 0} (xs : List A) (x : A) (j : ℕ) → length xs ≢ j → slice_get (xs ++ x ∷ []) j ≡ slice_get xs j
before_end [] x zero d = absurd (d refl)
before_end [] x (suc j) d = refl
before_end (y ∷ xs) x zero d = refl
before_end (y ∷ xs) x (suc j) d = before_end xs x j (λ e. d (ap suc e))

-- no item stands past the end
pub past_end : {A : Type 0} (xs : List A) (i : ℕ) → length xs ≤ i → slice_get xs i ≡ None
past_end [] i l = refl
past_end (x ∷ xs) zero l = absurd (omega (arith, l))
past_end (x ∷ xs) (suc i) l = past_end xs i (omega (arith, l))

-- a place within a list has an item
pub at_place : {A : Type 0} (xs : List A) (i : ℕ) (d : A) → i < length xs → slice_get xs i ≡ Some (get_or xs i d)
at_place [] i d l = absurd (omega (arith, l))
at_place (x ∷ xs) zero d l = refl
at_place (x ∷ xs) (suc i) d l = at_place xs i d (omega (arith, l))

-- an item that `get` found is there
pub got : {A : Type 0} (xs : List A) (i : ℕ) (r : A) → i < length xs → r ≡ get_or xs i r → slice_get xs i ≡ Some r
got xs i r l e = at_place xs i r l ∙ ap Some (sym e)

-- a place holds one thing
pub one_some : {A : Type 0} (x y : A) (o : Option A) → o ≡ Some x → o ≡ Some y → x ≡ y
one_some x y o e f = (let z : Some x ≡ Some y = sym e ∙ f in cc)

-- nothing is not something
pub nothing_some : {A : Type 0} {B : Type 0} (x : A) → ◌≡◌ {A = Option A} None (Some x) → B
nothing_some x e = cc

-- a number is among a list that it begins
pub has_first : (n : ℕ) (ns : List ℕ) → has n (n ∷ ns) ≡ true
has_first n ns = elim (either (n == n)) [ inl y ↦ rw y refl | inr o ↦ absurd (eqb-false n n o refl) ]

-- a number among a list is among a longer one
pub has_later : (n m : ℕ) (ns : List ℕ) → has n ns ≡ true → has n (m ∷ ns) ≡ true
has_later n m ns e = elim (either (n == m)) [ inl y ↦ rw y refl | inr o ↦ rw o e ]

-- a number among a list that does not begin it is among the rest
pub has_other : (n m : ℕ) (ns : List ℕ) → (n ≡ m → ⊥) → has n (m ∷ ns) ≡ true → has n ns ≡ true
has_other n m ns d e = elim (either (n == m)) [ inl y ↦ absurd (d (eqb-true n m y)) | inr o ↦ rw o at e ]

-- a number among the second of two lists is among both
pub has_behind : (n : ℕ) (xs ys : List ℕ) → has n ys ≡ true → has n (xs ++ ys) ≡ true
has_behind n [] ys e = e
has_behind n (x ∷ xs) ys e = has_later n x (xs ++ ys) (has_behind n xs ys e)
