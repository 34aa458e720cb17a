-- An item of a list, as the table's clauses and as std's words have it.
use Rattle.std.proofs.Common.{◌≡◌, ℕ, zero, suc, List, [], ◌∷◌, Some, ap, slice_get, get_or}
use mathlib.Core.Option.{some, some-injective, some-ne-none}
use mathlib.Core.Path.{sym}
use lib.ListN.{get_elem?}

-- where there is an item, it is that
pub got_item : {A : Type 0} (xs : List A) (i : ℕ) (a : A) → get_elem? xs i ≡ some a → slice_get xs i ≡ Some a
got_item [] i a e = absurd (some-ne-none a (sym e))
got_item {A} (x ∷ xs) zero a e = ap (λ (y : A). Some y) (some-injective x a e)
got_item (x ∷ xs) (suc i) a e = got_item xs i a e

-- and so for a list of numbers with something for those that are not there
pub got_first : (xs : List ℕ) (a d : ℕ) → get_elem? xs 0 ≡ some a → get_or xs 0 d ≡ a
got_first [] a d e = absurd (some-ne-none a (sym e))
got_first (x ∷ xs) a d e = some-injective x a e
