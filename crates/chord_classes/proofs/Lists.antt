-- Items of lists by their places.
use Rattle.std.proofs.Common.{◌≡◌, ℕ, zero, suc, List, [], ◌∷◌, ◌++◌, length, refl, ap, Some, slice_get}
use Rattle.chord_classes.proofs.Facts.{none_some, same_some}

-- an element of the first of two lists joined
pub get_left : {X : Type 0} (xs ys : List X) (j : ℕ) (x : X) → slice_get xs j ≡ Some x → slice_get (xs ++ ys) j ≡ Some x
get_left [] ys j x h = absurd (none_some h)
get_left (y ∷ xs) ys zero x h = h
get_left (y ∷ xs) ys (suc j) x h = get_left xs ys j x h

-- the element behind a list is the last
pub get_last : {X : Type 0} (xs : List X) (x : X) → slice_get (xs ++ (x ∷ [])) (length xs) ≡ Some x
get_last [] x = refl
get_last (y ∷ ys) x = get_last ys x

-- a place behind some items is one of theirs, or the last
pub get_two : {X : Type 0} (Q : Type 0) (xs : List X) (x : X) (c : ℕ) (y : X) → slice_get (xs ++ (x ∷ [])) c ≡ Some y → (slice_get xs c ≡ Some y → Q) → (c ≡ length xs → x ≡ y → Q) → Q
get_two Q [] x zero y e f g = g refl (same_some e)
get_two Q [] x (suc c) y e f g = absurd (none_some e)
get_two Q (z ∷ zs) x zero y e f g = f e
get_two Q (z ∷ zs) x (suc c) y e f g = get_two Q zs x c y e f (λ k l. g (ap suc k) l)
