-- Each kind of step keeps what desks have seen.
use Rattle.std.proofs.Common.{◌≡◌, ⊎_elim, ℕ, List, [], ◌∷◌, ◌++◌, set, refl, sym, ap, ◌∙◌, subst, Option}
use mathlib.Core.Option.{some}
use lib.ListN.{get_elem?}
use Rattle.atomic_table.proofs.Lists.{at_set}
use Rattle.chord_word.specs.declared.cells.Word.{Word}
use Rattle.chord_rule.specs.declared.view.Look.{Look}
use Rattle.chord_rule.specs.declared.view.View.{View}
use Rattle.chord_rule.specs.Bags.{LinkOrder, IsArmed, IsConsumed, cell_of}
use Rattle.chord_rule.specs.Looks.{HasLook, HasSeen, Looks}
use Rattle.chord_rule.specs.Kinds.{newcomer, gone}
use Rattle.chord_rule.proofs.Puts.{put, put_all, at_end}
use Rattle.chord_rule.proofs.Frames.{desks_after}

module _ (cells : ℕ → Word) (o : LinkOrder) (views : List View) (law : Looks cells o views) where
  -- each cell that the desk saw armed is armed, and has the next that it saw
  abbrev Seen : (ℕ → Word) → LinkOrder → ℕ → View → Type 0
  Seen cells' o' j v = (i : ℕ) (next : Option ℕ) → HasSeen v i next → IsArmed (cell_of cells' i) × ((IsConsumed (cell_of cells' i) → ⊥) → o'.next i ≡ next)

  -- a desk more
  pub looks_more : Looks cells o (views ++ newcomer ∷ [])
  looks_more = record { seen = λ j v e i next h. ⊎_elim (λ a. law.seen j v a i next h) (λ t. absurd (subst (λ (y : View). HasSeen y i next) (sym t.1) h).1) (at_end views newcomer v j e) }

  module _ (id : ℕ) (v : View) (at : get_elem? views id ≡ some v) where
    -- what was armed is armed, and keeps its next, and what was consumed is consumed
    pub looks_stay : (cells' : ℕ → Word) (o' : LinkOrder) (w : View) → ((i : ℕ) → IsArmed (cell_of cells i) → IsArmed (cell_of cells' i) × (o'.next i ≡ o.next i)) → ((i : ℕ) → IsConsumed (cell_of cells i) → IsConsumed (cell_of cells' i)) → w.looked.seen ≡ v.looked.seen → Looks cells' o' (set views id w)
    looks_stay cells' o' w armed down same = record {
      seen = desks_after (Seen cells' o') views id w
          (λ i next h. let s = law.seen id v at i next (h.0, subst (λ (l : List Look). HasLook i h.0 l) same h.1, h.2, h.3) in let a = armed i s.0 in (a.0, λ up. a.1 ∙ s.1 (λ c. up (down i c))))
          (λ j x ne e i next h. let s = law.seen j x e i next h in let a = armed i s.0 in (a.0, λ up. a.1 ∙ s.1 (λ c. up (down i c))));
    }

    -- the desk reads and writes nothing in cells
    pub looks_same : (w : View) → w.looked.seen ≡ v.looked.seen → Looks cells o (set views id w)
    looks_same w same = looks_stay cells o w (λ i a. (a, refl)) (λ i c. c) same

    -- one cell changes: if it was armed it is armed, and if it was consumed it is consumed
    pub looks_cell : (i : ℕ) (x : Word) (w : View) → (IsArmed (cell_of cells i) → IsArmed x.cell) → (IsConsumed (cell_of cells i) → IsConsumed x.cell) → w.looked.seen ≡ v.looked.seen → Looks (put cells i x) o (set views id w)
    looks_cell i x w armed down same = looks_stay (put cells i x) o w (λ k a. (put_all cells i x (λ k c. IsArmed (cell_of cells k) → IsArmed c.cell) k armed (λ ne b. b) a, refl))
        (λ k a. put_all cells i x (λ k c. IsConsumed (cell_of cells k) → IsConsumed c.cell) k down (λ ne b. b) a) same

    -- a look at the cell i
    pub looks_look : (i : ℕ) (w : View) → (IsArmed (cell_of cells i) → (cells i).next ≡ o.next i) → w.looked.seen ≡ record { number = i; word = cells i } ∷ v.looked.seen → Looks cells o (set views id w)
    looks_look i w next_is seen = record {
      seen = desks_after (Seen cells o) views id w
          (λ k next h. ⊎_elim
          (λ q. let a : IsArmed (cell_of cells i) = subst (λ (y : Word). IsArmed y.cell) q.1 h.2 in
          (subst (λ (z : ℕ). IsArmed (cell_of cells z)) (sym q.0) a, λ up. ap o.next q.0 ∙ sym (next_is a) ∙ sym (ap (λ (y : Word). y.next) q.1) ∙ h.3))
          (λ r. law.seen id v at k next (h.0, r, h.2, h.3)) (subst (λ (ls : List Look). HasLook k h.0 ls) seen h.1))
          (λ j x ne e k next h. law.seen j x e k next h);
    }

    -- a join: the desk forgets what it saw
    pub looks_join : (other : ℕ) (w : View) → w.looked.seen ≡ [] → Looks cells o (set (set views id w) other gone)
    looks_join other w nothing = record {
      seen = λ j x e i next h. ⊎_elim (λ t. absurd (subst (λ (y : View). HasSeen y i next) (sym t.1) h).1)
          (λ t. ⊎_elim (λ s. absurd (subst (λ (ls : List Look). HasLook i h.0 ls) (ap (λ (y : View). y.looked.seen) (sym s.1) ∙ nothing) h.1)) (λ s. law.seen j x s.1 i next h) (at_set views id j w x t.1))
          (at_set (set views id w) other j gone x e);
    }
