-- What the first desk knows while it is alone, over each step: of its own it remembers what it wrote; at a step of another
-- desk, which is live, it has lent one, and nothing is said.
use Rattle.std.proofs.Common.{◌≡◌, ◌≢◌, ⊎_elim, ℕ, zero, suc, ◌+◌, ◌-◌, ◌<◌, Bool, true, false, not, ◌&&◌, List, [], ◌∷◌, ◌++◌, length, set, refl, sym, ap, ◌∙◌, subst, arith, length-set, Option, Some, None}
use mathlib.Core.Option.{some, some-injective, some-ne-none}
use mathlib.Core.Path.{Path}
use lib.ListN.{get_elem?}
use Rattle.atomic_table.proofs.Lists.{at_set, set_else}
use Rattle.chord_word.specs.declared.cells.Word.{Word}
use Rattle.chord_rule.specs.declared.view.Looked.{Looked}
use Rattle.chord_rule.specs.declared.view.View.{View}
use Rattle.chord_rule.specs.Numbers.{one_if}
use Rattle.chord_rule.specs.Kinds.{newcomer, gone, lent_one, united, nothing_looked}
use Rattle.chord_rule.specs.Alone.{is_live, live_count, Remembers, AloneLaw}
use Rattle.chord_rule.proofs.Puts.{put, put_all, at_inside, at_end}

-- the count of live desks changes by the one that changes
pub live_set : (vs : List View) (i : ℕ) (v w : View) → get_elem? vs i ≡ some v → live_count (set vs i w) + one_if (is_live v) ≡ live_count vs + one_if (is_live w)
live_set [] i v w at = absurd (some-ne-none v (sym at))
live_set (x ∷ xs) zero v w at = let e = ap (λ (y : View). one_if (is_live y)) (some-injective x v at) in omega arith
live_set (x ∷ xs) (suc i) v w at = let h = live_set xs i v w at in omega arith

-- where a desk is live the count is not 0
pub live_some : (vs : List View) (i : ℕ) (v : View) → get_elem? vs i ≡ some v → is_live v ≡ true → 0 < live_count vs
live_some [] i v at l = absurd (some-ne-none v (sym at))
live_some (x ∷ xs) zero v at l = let e = ap (λ (y : View). one_if (is_live y)) (some-injective x v at) in let f = ap one_if l in omega arith
live_some (x ∷ xs) (suc i) v at l = let h = live_some xs i v at l in omega arith

-- a desk more
live_end : (vs : List View) (x : View) → live_count (vs ++ x ∷ []) ≡ live_count vs + one_if (is_live x)
live_end [] x = omega arith
live_end (y ∷ ys) x = let h = live_end ys x in omega arith

-- a desk that is neither the first nor gone is live
live_here : (v : View) → v.first ≡ false → v.gone ≡ false → is_live v ≡ true
live_here v a b = (λ k. not (a k) && not (b k))

module _ (count : ℕ) (heads : ℕ → Option ℕ) (cells : ℕ → Word) where
  -- nothing is remembered after a join
  pub nothing_remembered : Remembers count heads cells nothing_looked
  nothing_remembered = record { counter = λ c e. absurd (let z : Path (Option ℕ) None (Some c) = e in cc); head = λ k x h. absurd h; cell = λ i x h. absurd h }

  module _ (l : Looked) (law : Remembers count heads cells l) where
    -- the counter is read or written
    pub remembers_count : (c : ℕ) → Remembers c heads cells (record l { count = Some c })
    remembers_count c = record { counter = λ d e. (let z : Path (Option ℕ) (Some c) (Some d) = e in cc); head = law.head; cell = law.cell }

    -- a head is read or written
    pub remembers_head : (k : ℕ) (x : Option ℕ) → Remembers count (put heads k x) cells (record l { heads = record { head = k; message = x } ∷ l.heads })
    remembers_head k x = record {
      counter = law.counter;
      head = λ j y h. put_all heads k x (λ j z. (j ≢ k → heads j ≡ y) → (j ≡ k → x ≡ y) → z ≡ y) j (λ _ s. s refl) (λ ne o _. o ne)
          (λ ne. ⊎_elim (λ t. absurd (ne t.0)) (λ t. law.head j y t.1) h) (λ e. ⊎_elim (λ t. sym t.1) (λ t. absurd (t.0 e)) h);
      cell = law.cell;
    }

    -- a cell is read or written
    pub remembers_cell : (i : ℕ) (x : Word) → Remembers count heads (put cells i x) (record l { seen = record { number = i; word = x } ∷ l.seen })
    remembers_cell i x = record {
      counter = law.counter;
      head = law.head;
      cell = λ j y h. put_all cells i x (λ j z. (j ≢ i → cells j ≡ y) → (j ≡ i → x ≡ y) → z ≡ y) j (λ _ s. s refl) (λ ne o _. o ne)
          (λ ne. ⊎_elim (λ t. absurd (ne t.0)) (λ t. law.cell j y t.1) h) (λ e. ⊎_elim (λ t. sym t.1) (λ t. absurd (t.0 e)) h);
    }

    -- what stands in a head is remembered
    pub remembers_look_head : (k : ℕ) → Remembers count heads cells (record l { heads = record { head = k; message = heads k } ∷ l.heads })
    remembers_look_head k = record {
      counter = law.counter;
      head = λ j y h. ⊎_elim (λ t. ap heads t.0 ∙ sym t.1) (λ t. law.head j y t.1) h;
      cell = law.cell;
    }

    -- what stands in a cell is remembered
    pub remembers_look : (i : ℕ) → Remembers count heads cells (record l { seen = record { number = i; word = cells i } ∷ l.seen })
    remembers_look i = record {
      counter = law.counter;
      head = law.head;
      cell = λ j y h. ⊎_elim (λ t. ap cells t.0 ∙ sym t.1) (λ t. law.cell j y t.1) h;
    }

module _ (count : ℕ) (heads : ℕ → Option ℕ) (cells : ℕ → Word) (views : List View) (law : AloneLaw count heads cells views) (leads : (j : ℕ) (v : View) → get_elem? views j ≡ some v → v.first ≡ true → j ≡ 0)
    (id : ℕ) (v : View) (at : get_elem? views id ≡ some v) (here : v.gone ≡ false) where
  -- a desk of another number than 0 is live
  pub other_live : id ≢ 0 → is_live v ≡ true
  other_live ne = go v.first refl
    where
      go : (b : Bool) → v.first ≡ b → is_live v ≡ true
      go true e = absurd (ne (leads id v at e))
      go false e = live_here v e here

  -- a step of one desk
  pub alone_step : (count' : ℕ) (heads' : ℕ → Option ℕ) (cells' : ℕ → Word) (w : View) → w.first ≡ v.first → w.gone ≡ v.gone → w.lent ≡ v.lent
      → (Remembers count heads cells v.looked → Remembers count' heads' cells' w.looked) → AloneLaw count' heads' cells' (set views id w)
  alone_step count' heads' cells' w first gone_same lent still = record {
    lent = λ u e. ⊎_elim
        (λ t. let at0 : get_elem? views 0 ≡ some v = ap (get_elem? views) t.0 ∙ at in sym (ap (λ (y : View). y.lent) t.1) ∙ lent ∙ law.lent v at0 ∙ sym same)
        (λ t. law.lent u t.1 ∙ sym same) (at_set views id 0 w u e);
    alone = λ u e none_lent. ⊎_elim
        (λ t. let at0 : get_elem? views 0 ≡ some v = ap (get_elem? views) t.0 ∙ at in
        subst (λ (y : View). Remembers count' heads' cells' y.looked) t.1 (still (law.alone v at0 (sym lent ∙ ap (λ (y : View). y.lent) t.1 ∙ none_lent))))
        (λ t. let a = law.lent u t.1 in let b = live_some views id v at (other_live (λ z. t.0 (sym z))) in absurd (omega arith)) (at_set views id 0 w u e);
  }
    where
      same : live_count (set views id w) ≡ live_count views
      same = let s = live_set views id v w at in let f : one_if (is_live w) ≡ one_if (is_live v) = (λ k. one_if (not (first k) && not (gone_same k))) in omega arith

  -- the first desk lends one
  pub alone_split : v.first ≡ true → AloneLaw count heads cells (set views id (lent_one v) ++ newcomer ∷ [])
  alone_split is_first = record {
    lent = λ u e. ⊎_elim
        (λ a. ⊎_elim (λ t. let at0 : get_elem? views 0 ≡ some v = ap (get_elem? views) t.0 ∙ at in let l = law.lent v at0 in let s : v.lent + 1 ≡ u.lent = ap (λ (y : View). y.lent) t.1 in omega (arith, more, l, s))
        (λ t. absurd (t.0 (sym (leads id v at is_first)))) (at_set views id 0 (lent_one v) u a))
        (λ t. absurd (at_first t.0)) (at_end (set views id (lent_one v)) newcomer u 0 e);
    alone = λ u e none_lent. ⊎_elim
        (λ a. ⊎_elim (λ t. let s : v.lent + 1 ≡ u.lent = ap (λ (y : View). y.lent) t.1 in absurd (omega arith)) (λ t. absurd (t.0 (sym (leads id v at is_first)))) (at_set views id 0 (lent_one v) u a))
        (λ t. absurd (at_first t.0)) (at_end (set views id (lent_one v)) newcomer u 0 e);
  }
    where
      more : live_count (set views id (lent_one v) ++ newcomer ∷ []) ≡ live_count views + 1
      more = let a = live_end (set views id (lent_one v)) newcomer in let s = live_set views id v (lent_one v) at in let f : one_if (is_live (lent_one v)) ≡ one_if (is_live v) = refl in let g : one_if (is_live newcomer) ≡ 1 = refl in omega arith

      at_first : 0 ≡ length (set views id (lent_one v)) → ⊥
      at_first z = let l = length-set views id (lent_one v) in let low = at_inside views id v at in omega arith

  -- the first desk takes another in
  pub alone_join : (other : ℕ) (w : View) → v.first ≡ true → other ≢ id → get_elem? views other ≡ some w → is_live w ≡ true → AloneLaw count heads cells (set (set views id (united v w)) other gone)
  alone_join other w is_first apart there live = record {
    lent = λ u e. ⊎_elim (λ t. absurd (apart (sym t.0 ∙ sym (leads id v at is_first))))
        (λ t. ⊎_elim (λ s. let at0 : get_elem? views 0 ≡ some v = ap (get_elem? views) s.0 ∙ at in let l = law.lent v at0 in let q : v.lent - 1 ≡ u.lent = ap (λ (y : View). y.lent) s.1 in omega (arith, less, l, q))
        (λ s. absurd (s.0 (sym (leads id v at is_first)))) (at_set views id 0 (united v w) u t.1))
        (at_set (set views id (united v w)) other 0 gone u e);
    alone = λ u e none_lent. ⊎_elim (λ t. absurd (apart (sym t.0 ∙ sym (leads id v at is_first))))
        (λ t. ⊎_elim (λ s. subst (λ (y : View). Remembers count heads cells y.looked) s.1 (nothing_remembered count heads cells))
        (λ s. absurd (s.0 (sym (leads id v at is_first)))) (at_set views id 0 (united v w) u t.1))
        (at_set (set views id (united v w)) other 0 gone u e);
  }
    where
      at_other : get_elem? (set views id (united v w)) other ≡ some w
      at_other = set_else views id other (united v w) apart ∙ there

      less : live_count (set (set views id (united v w)) other gone) + 1 ≡ live_count views
      less = let a = live_set (set views id (united v w)) other w gone at_other in let s = live_set views id v (united v w) at in let f : one_if (is_live (united v w)) ≡ one_if (is_live v) = refl in let g : one_if (is_live gone) ≡ 0 = refl in let h = ap one_if live in omega arith
