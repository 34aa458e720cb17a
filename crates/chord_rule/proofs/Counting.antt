-- How the counter's bound is kept.
use Rattle.std.proofs.Common.{◌≡◌, ⊎_elim, ℕ, zero, suc, ◌+◌, ◌%◌, ◌<◌, ◌≤◌, Bool, true, false, List, [], ◌∷◌, length, set, refl, sym, ap, ◌∙◌, subst, arith, length-set}
use Rattle.std.proofs.Math.Nat.{mod-eq_of_lt}
use mathlib.Core.Option.{some, some-injective, some-ne-none}
use lib.ListN.{get_elem?}
use Rattle.atomic_table.proofs.Lists.{at_set}
use Rattle.chord_rule.specs.declared.view.View.{View}
use Rattle.chord_rule.specs.Numbers.{one_if}
use Rattle.chord_rule.specs.Counting.{told, Counting}

-- at most all desks were told
pub told_few : (vs : List View) → told vs ≤ length vs
told_few [] = omega arith
told_few (v ∷ vs) = let h = told_few vs in let f = flag_small v.spent in omega arith
  where
    flag_small : (b : Bool) → one_if b ≤ 1
    flag_small true = omega arith
    flag_small false = omega arith

-- the count of desks that were told changes by the one that changes
pub told_set : (vs : List View) (i : ℕ) (v w : View) → get_elem? vs i ≡ some v → told (set vs i w) + one_if v.spent ≡ told vs + one_if w.spent
told_set [] i v w at = absurd (some-ne-none v (sym at))
told_set (x ∷ xs) zero v w at = let e = ap (λ (y : View). one_if y.spent) (some-injective x v at) in omega arith
told_set (x ∷ xs) (suc i) v w at = let h = told_set xs i v w at in omega arith

-- the law of counting stays where one desk changes and the counter fits
pub counts : (n count count' : ℕ) (vs : List View) (id : ℕ) (v w : View) → Counting n count vs → get_elem? vs id ≡ some v → count' ≤ n + told (set vs id w) → (id ≡ 0 → w.splits ≡ v.splits) → Counting n count' (set vs id w)
counts n count count' vs id v w c at bound same = record {
  bound = bound;
  first = λ u e. ⊎_elim
      (λ t. let at0 : get_elem? vs 0 ≡ some v = subst (λ (j : ℕ). get_elem? vs j ≡ some v) (sym t.0) at in let f = c.first v at0 in let s : u.splits ≡ v.splits = ap (λ (y : View). y.splits) (sym t.1) ∙ same (sym t.0) in
      (length-set vs id w ∙ f.0 ∙ ap (λ (k : ℕ). 1 + k) (sym s), (let g = f.1 in omega arith)))
      (λ t. let f = c.first u t.1 in (length-set vs id w ∙ f.0, f.1))
      (at_set vs id 0 w u e);
  some = (let s = c.some in let l = length-set vs id w in omega arith);
}

-- the counter never wraps
pub count_fits : (n count : ℕ) (vs : List View) → n ≤ 65536 → Counting n count vs → (count + 1) % 18446744073709551616 ≡ count + 1
count_fits n count vs small c = let b = c.bound in let t = told_few vs in let f = few in mod-eq_of_lt (omega arith)
  where
    first_view : (vs : List View) → 0 < length vs → (u : View) × (get_elem? vs 0 ≡ some u)
    first_view [] h = absurd (omega arith)
    first_view (u ∷ us) h = (u, refl)

    few : length vs < 65537
    few = let u = first_view vs c.some in let f = c.first u.0 u.1 in let a = f.0 in let b = f.1 in omega arith
