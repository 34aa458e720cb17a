-- A loop through a list, one item at a time.
use Rattle.std.proofs.Common.{◌≡◌, ℕ, zero, suc, map, ◌+◌, ◌<◌, ◌≤◌, List, [], ◌∷◌, length, drop, get_or, refl, sym, ap, ◌∙◌, arith, add-one}

-- what is left of a list from a place on is the item there, and what is left from the next place on
item_suc : {A : Type 0} (xs : List A) (i : ℕ) (x : A) → i < length xs → x ≡ get_or xs i x → drop i xs ≡ x ∷ drop (suc i) xs
item_suc [] i x l e = absurd (omega arith)
item_suc (a ∷ xs) zero x l e = ap (λ z. z ∷ xs) (sym e)
item_suc (a ∷ xs) (suc i) x l e = item_suc xs i x (omega arith) e

-- what is left of a list from a place on is the item there, and what is left after it
pub item_here : {A : Type 0} (xs : List A) (i : ℕ) (x : A) → i < length xs → x ≡ get_or xs i x → drop i xs ≡ x ∷ drop (i + 1) xs
item_here xs i x l e = rw add-one (item_suc xs i x l e)

-- behind the end of a list nothing is left
pub behind_end : {A : Type 0} (xs : List A) (i : ℕ) → length xs ≤ i → drop i xs ≡ []
behind_end [] zero l = refl
behind_end [] (suc i) l = refl
behind_end (a ∷ xs) zero l = absurd (omega arith)
behind_end (a ∷ xs) (suc i) l = behind_end xs i (omega arith)

-- What a function says of the list from here on is said in two steps: of the item and of what follows it.
pub item_by_item : {A R : Type 0} (f : List A → R) (xs : List A) (i : ℕ) (x : A) (r all : R) → i < length xs → x ≡ get_or xs i x → f (x ∷ drop (i + 1) xs) ≡ r → f (drop i xs) ≡ all → r ≡ all
item_by_item f xs i x r all l e h k = sym h ∙ ap f (sym (item_here xs i x l e)) ∙ k

-- What a function says of the list from behind its end on is what it says of no items.
pub search_ended : {A R : Type 0} (f : List A → R) (xs : List A) (i : ℕ) (all : R) → length xs ≤ i → f (drop i xs) ≡ all → f [] ≡ all
search_ended f xs i all l h = ap f (sym (behind_end xs i l)) ∙ h

-- a function on each item keeps the length of a list
pub map_length : {A B : Type 0} (f : A → B) (xs : List A) → length (map f xs) ≡ length xs
map_length f [] = refl
map_length f (x ∷ xs) = ap suc (map_length f xs)
