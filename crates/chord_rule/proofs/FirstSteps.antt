-- Each kind of step keeps what is known of the first desk.
use Rattle.std.proofs.Common.{◌≡◌, ◌≢◌, ⊎_elim, ℕ, ◌+◌, ◌<◌, ◌≤◌, ◌||◌, Bool, true, false, List, [], ◌∷◌, ◌++◌, length, set, refl, sym, ap, ◌∙◌, subst, arith, length-set, length-append}
use mathlib.Core.Option.{some}
use lib.ListN.{get_elem?}
use Rattle.atomic_table.proofs.Lists.{at_set, set_else}
use Rattle.chord_rule.specs.declared.view.View.{View}
use Rattle.chord_rule.specs.Numbers.{one_if}
use Rattle.chord_rule.specs.Kinds.{newcomer, gone, lent_one, united}
use Rattle.chord_rule.specs.Counting.{told, Counting}
use Rattle.chord_rule.specs.Firsts.{Firsts}
use Rattle.chord_rule.proofs.Puts.{at_inside, at_end}
use Rattle.chord_rule.proofs.Frames.{desks_after}
use Rattle.chord_rule.proofs.Counting.{told_set}

module _ (n count : ℕ) (views : List View) (counting : Counting n count views) (law : Firsts count views) (id : ℕ) (v : View) (at : get_elem? views id ≡ some v) where
  -- after a step that leaves whether its desk is the first, only desk 0 is the first
  leads_stay : (w : View) → w.first ≡ v.first → (j : ℕ) (x : View) → get_elem? (set views id w) j ≡ some x → x.first ≡ true → j ≡ 0
  leads_stay w same = desks_after (λ j x. x.first ≡ true → j ≡ 0) views id w (λ e. law.leads id v at (sym same ∙ e)) (λ j x ne a. law.leads j x a)

  -- a step that draws nothing
  pub firsts_stay : (w : View) → w.first ≡ v.first → w.drawn ≡ v.drawn → w.splits ≡ v.splits → Firsts count (set views id w)
  firsts_stay w first drawn splits = record {
    leads = leads_stay w first;
    untouched = λ x e none_drawn none_split. ⊎_elim
        (λ t. law.untouched v (ap (get_elem? views) t.0 ∙ at) (sym drawn ∙ ap (λ (y : View). y.drawn) t.1 ∙ none_drawn) (sym splits ∙ ap (λ (y : View). y.splits) t.1 ∙ none_split))
        (λ t. law.untouched x t.1 none_drawn none_split) (at_set views id 0 w x e);
    begun = λ x e drew. ⊎_elim
        (λ t. law.begun v (ap (get_elem? views) t.0 ∙ at) (sym drawn ∙ ap (λ (y : View). y.drawn) t.1 ∙ drew))
        (λ t. law.begun x t.1 drew) (at_set views id 0 w x e);
  }

  -- alone, it is the first desk that steps
  alone : (x : View) → id ≢ 0 → get_elem? views 0 ≡ some x → x.splits ≡ 0 → ⊥
  alone x ne e none_split = let f = (counting.first x e).0 in let low = at_inside views id v at in absurd (ne (omega (arith, f, low, none_split)))

  -- a draw
  pub firsts_draw : (count' : ℕ) (w : View) → 0 < count' → w.first ≡ v.first → w.drawn ≡ true → Firsts count' (set views id w)
  firsts_draw count' w some_drawn first drawn = record {
    leads = leads_stay w first;
    untouched = λ x e none_drawn none_split. ⊎_elim
        (λ t. let z : true ≡ false = sym drawn ∙ ap (λ (y : View). y.drawn) t.1 ∙ none_drawn in absurd (cc))
        (λ t. absurd (alone x (λ q. t.0 (sym q)) t.1 none_split)) (at_set views id 0 w x e);
    begun = λ x e drew. some_drawn;
  }

  -- a draw at the limit: some number was drawn before
  pub firsts_told : (count' : ℕ) (w : View) → 0 < count → 0 < count' → w.first ≡ v.first → w.drawn ≡ v.drawn → w.splits ≡ v.splits → Firsts count' (set views id w)
  firsts_told count' w some_drawn some_now first drawn splits = record {
    leads = leads_stay w first;
    untouched = λ x e none_drawn none_split. let z = (firsts_stay w first drawn splits).untouched x e none_drawn none_split in absurd (omega arith);
    begun = λ x e drew. some_now;
  }

  -- a split
  pub firsts_split : v.first ≡ true → Firsts count (set views id (lent_one v) ++ newcomer ∷ [])
  firsts_split is_first = let zero_id = law.leads id v at is_first in record {
    leads = λ j x e y. ⊎_elim (λ a. leads_stay (lent_one v) refl j x a y) (λ t. let z : false ≡ true = ap (λ (y : View). y.first) t.1 ∙ y in absurd (cc)) (at_end (set views id (lent_one v)) newcomer x j e);
    untouched = λ x e none_drawn none_split. ⊎_elim
        (λ a. ⊎_elim (λ t. let z : v.splits + 1 ≡ 0 = ap (λ (y : View). y.splits) t.1 ∙ none_split in absurd (omega arith)) (λ t. absurd (t.0 (sym zero_id))) (at_set views id 0 (lent_one v) x a))
        (λ t. let l = length-set views id (lent_one v) in let s = counting.some in let q = t.0 in absurd (omega arith)) (at_end (set views id (lent_one v)) newcomer x 0 e);
    begun = λ x e drew. ⊎_elim
        (λ a. ⊎_elim (λ t. law.begun v (ap (get_elem? views) t.0 ∙ at) (ap (λ (y : View). y.drawn) t.1 ∙ drew)) (λ t. absurd (t.0 (sym zero_id))) (at_set views id 0 (lent_one v) x a))
        (λ t. let z : false ≡ true = ap (λ (y : View). y.drawn) t.1 ∙ drew in absurd (cc)) (at_end (set views id (lent_one v)) newcomer x 0 e);
  }

  -- a desk more counts where it was told that the limit is reached
  told_end : (vs : List View) (x : View) → told (vs ++ x ∷ []) ≡ told vs + one_if x.spent
  told_end [] x = omega arith
  told_end (y ∷ ys) x = let h = told_end ys x in omega arith

  -- a split keeps the count of desks and the bound on the counter
  pub counting_split : v.first ≡ true → v.splits < 65535 → Counting n count (set views id (lent_one v) ++ newcomer ∷ [])
  counting_split is_first few =
      let w : View = lent_one v in let vs : List View = set views id w in let zero_id = law.leads id v at is_first in
      let at0 : get_elem? views 0 ≡ some v = subst (λ (j : ℕ). get_elem? views j ≡ some v) zero_id at in
      let long : length (vs ++ newcomer ∷ []) ≡ length views + 1 = (let a = length-append vs (newcomer ∷ []) in let b = length-set views id w in omega arith) in
      let same : length vs ≡ length views = length-set views id w in
      let f = counting.first v at0 in record {
        bound = (let b = counting.bound in let t = told_set views id v w at in let e = told_end vs newcomer in let z : one_if newcomer.spent ≡ 0 = refl in omega arith);
        first = λ u e. ⊎_elim
            (λ a. ⊎_elim (λ t. let s = ap (λ (y : View). y.splits) t.1 in let s' : v.splits + 1 ≡ u.splits = s in let f0 = f.0 in (omega arith, omega arith)) (λ t. absurd (t.0 (sym zero_id))) (at_set views id 0 w u a))
            (λ t. let h = t.0 in let s = counting.some in absurd (omega arith)) (at_end vs newcomer u 0 e);
        some = (let s = counting.some in omega arith);
      }

  module _ (other : ℕ) (x : View) (apart : other ≢ id) (there : get_elem? views other ≡ some x) (is_first : v.first ≡ true) where
    -- the desk that joins another is desk 0
    zero_id : id ≡ 0
    zero_id = law.leads id v at is_first

    -- a join
    pub firsts_join : Firsts count (set (set views id (united v x)) other gone)
    firsts_join = record {
      leads = λ j y e first. ⊎_elim (λ t. let z : false ≡ true = ap (λ (y : View). y.first) t.1 ∙ first in absurd (cc)) (λ t. leads_stay (united v x) refl j y t.1 first) (at_set (set views id (united v x)) other j gone y e);
      untouched = λ y e none_drawn none_split. ⊎_elim (λ t. absurd (apart (sym t.0 ∙ sym zero_id)))
          (λ t. (firsts_stay (united v x) refl refl refl).untouched y t.1 none_drawn none_split) (at_set (set views id (united v x)) other 0 gone y e);
      begun = λ y e drew. ⊎_elim (λ t. absurd (apart (sym t.0 ∙ sym zero_id)))
          (λ t. (firsts_stay (united v x) refl refl refl).begun y t.1 drew) (at_set (set views id (united v x)) other 0 gone y e);
    }

    -- a join keeps the count of desks and the bound on the counter
    pub counting_join : Counting n count (set (set views id (united v x)) other gone)
    counting_join = record {
      bound = (let b = counting.bound in let t = told_set views id v (united v x) at in let s = told_set (set views id (united v x)) other x gone at_other in let z : one_if gone.spent ≡ 1 = refl in let f = flag_or v.spent x.spent in omega arith);
      first = λ u e. ⊎_elim (λ t. absurd (apart (sym t.0 ∙ sym zero_id)))
          (λ t. ⊎_elim
          (λ s. let f = counting.first v (ap (get_elem? views) s.0 ∙ at) in let q = ap (λ (y : View). y.splits) s.1 in let q' : v.splits ≡ u.splits = q in let l = length-set (set views id (united v x)) other gone in let k = length-set views id (united v x) in let f0 = f.0 in let f1 = f.1 in (omega arith, omega arith))
          (λ s. let f = counting.first u s.1 in let l = length-set (set views id (united v x)) other gone in let k = length-set views id (united v x) in let f0 = f.0 in let f1 = f.1 in (omega arith, omega arith))
          (at_set views id 0 (united v x) u t.1))
          (at_set (set views id (united v x)) other 0 gone u e);
      some = (let s = counting.some in let l = length-set (set views id (united v x)) other gone in let k = length-set views id (united v x) in omega arith);
    }
      where
        at_other : get_elem? (set views id (united v x)) other ≡ some x
        at_other = set_else views id other (united v x) apart ∙ there

        flag_or : (a b : Bool) → one_if a + one_if b ≤ one_if (a || b) + 1
        flag_or true true = omega arith
        flag_or true false = omega arith
        flag_or false true = omega arith
        flag_or false false = omega arith
