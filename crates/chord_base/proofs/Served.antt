-- The call that a firing serves, found along its methods.
use Rattle.std.proofs.Common.{◌≡◌, ℕ, ◌+◌, ◌<◌, Bool, true, false, List, [], ◌∷◌, length, drop, get_or, Some, None, refl, add-one}
use Rattle.std.proofs.Math.Seq.{drop-cons}
use Rattle.chord_base.specs.Bodies.{served_among}

-- where no member is left, none is served
pub served_none : (sync : ℕ → Bool) (js : List ℕ) → served_among sync js [] ≡ None
served_none sync [] = refl
served_none sync (j ∷ js) = refl

-- a method without callers that wait is passed over
pub served_on : (sync : ℕ → Bool) (js ms : List ℕ) (i : ℕ) → i < length js → i < length ms → sync (get_or js i 0) ≡ false → served_among sync (drop i js) (drop i ms) ≡ served_among sync (drop (i + 1) js) (drop (i + 1) ms)
served_on sync js ms i l m n = rw (drop-cons js i 0 l, drop-cons ms i 0 m, n, add-one i) refl

-- a method with callers that wait has the member at its place
pub served_here : (sync : ℕ → Bool) (js ms : List ℕ) (i : ℕ) → i < length js → i < length ms → sync (get_or js i 0) ≡ true → served_among sync (drop i js) (drop i ms) ≡ Some (get_or ms i 0)
served_here sync js ms i l m n = rw (drop-cons js i 0 l, drop-cons ms i 0 m, n) refl
