-- How many of a list of cards count, where one of them changes, and where one more comes.
use Rattle.std.proofs.Common.{◌≡◌, ℕ, zero, suc, ◌+◌, ◌<◌, ◌≤◌, Bool, true, false, List, [], ◌∷◌, ◌++◌, length, set, sym, refl, ap, arith}
use mathlib.Core.Option.{some, some-injective, some-ne-none}
use lib.ListN.{get_elem?}
use Rattle.chord_roll.specs.declared.turnout.Turnout.{Turnout}
use Rattle.chord_roll.specs.Roll.{counted_as, at_work}

-- a card counts once at most
pub counted_as_bound : (b : Bool) → counted_as b ≤ 1
counted_as_bound true = omega arith
counted_as_bound false = omega arith

-- no more cards count than there are
pub at_work_bound : (l : List Turnout) → at_work l ≤ length l
at_work_bound [] = omega arith
at_work_bound (t ∷ ts) = let r = at_work_bound ts in let w = counted_as_bound t.counts in omega arith

-- where one card is replaced, the number changes by what the two weigh
pub at_work_set : (l : List Turnout) (i : ℕ) (v w : Turnout) → get_elem? l i ≡ some v → at_work (set l i w) + counted_as v.counts ≡ at_work l + counted_as w.counts
at_work_set [] i v w e = absurd (some-ne-none v (sym e))
at_work_set (x ∷ xs) zero v w e = let is : counted_as x.counts ≡ counted_as v.counts = ap (λ (t : Turnout). counted_as t.counts) (some-injective x v e) in omega arith
at_work_set (x ∷ xs) (suc i) v w e = let r = at_work_set xs i v w e in omega arith

-- where one more card comes, the number grows by what it weighs
pub at_work_snoc : (l : List Turnout) (v : Turnout) → at_work (l ++ v ∷ []) ≡ at_work l + counted_as v.counts
at_work_snoc [] v = omega arith
at_work_snoc (x ∷ xs) v = let r = at_work_snoc xs v in omega arith

-- a card weighs no more than all
pub at_work_at : (l : List Turnout) (i : ℕ) (v : Turnout) → get_elem? l i ≡ some v → counted_as v.counts ≤ at_work l
at_work_at [] i v e = absurd (some-ne-none v (sym e))
at_work_at (x ∷ xs) zero v e = let is : counted_as x.counts ≡ counted_as v.counts = ap (λ (t : Turnout). counted_as t.counts) (some-injective x v e) in omega arith
at_work_at (x ∷ xs) (suc i) v e = let r = at_work_at xs i v e in omega arith

-- where the number is 0, none counts
pub none_counts : (l : List Turnout) → at_work l ≡ 0 → (i : ℕ) (v : Turnout) → get_elem? l i ≡ some v → v.counts ≡ false
none_counts l e i v at = weightless v.counts (let r = at_work_at l i v at in omega arith)
  where
    weightless : (b : Bool) → counted_as b ≡ 0 → b ≡ false
    weightless true h = absurd (omega arith)
    weightless false h = refl

-- where it is not, one does
pub one_counts : (l : List Turnout) → 0 < at_work l → (i : ℕ) × (v : Turnout) × (get_elem? l i ≡ some v) × (v.counts ≡ true)
one_counts [] h = absurd (omega arith)
one_counts (x ∷ xs) h = here x.counts refl (λ more. let r = one_counts xs more in (suc r.0, r.1, r.2, r.3))
  where
    here : (b : Bool) → x.counts ≡ b → (0 < at_work xs → (i : ℕ) × (v : Turnout) × (get_elem? (x ∷ xs) i ≡ some v) × (v.counts ≡ true)) → (i : ℕ) × (v : Turnout) × (get_elem? (x ∷ xs) i ≡ some v) × (v.counts ≡ true)
    here true is behind = (0, x, refl, is)
    here false is behind = behind (let none : counted_as x.counts ≡ 0 = ap counted_as is in omega arith)
