-- Wherever there is a waiting message for each method of one chord, one of them is minded.
use Rattle.std.proofs.Common.{◌≡◌, ◌⊎◌, inl, inr, ⊎_elim, ℕ, List, [], ◌∷◌, refl, sym, ap, ◌∙◌, subst, Some}
use Rattle.chord_word.specs.declared.cells.Cell.{Cell}
use Rattle.chord_word.specs.declared.cells.Cell.TheVariants.{Empty, Pending, Claimed, Consumed, Woken, Ready, Started}
use Rattle.chord_word.specs.declared.cells.Word.{Word}
use Rattle.chord_rule.specs.declared.view.View.{View}
use Rattle.chord_rule.specs.Numbers.{HasNumber}
use Rattle.chord_rule.specs.Bags.{LinkOrder, IsStanding, IsArmed, cell_of}
use Rattle.chord_rule.specs.Duties.{Chosen, DutyLaw}
use Rattle.chord_rule.specs.Minded.{IsWaiting, IsMinded, AreTo, AllWaiting}

module _ (IsChord : List ℕ → Type 0) (cells : ℕ → Word) (views : List View) (o : LinkOrder) (law : DutyLaw IsChord cells views o) (bag_of : ℕ → ℕ) (bagged : (x : ℕ) → IsArmed (cell_of cells x) → o.bag x ≡ Some (bag_of x)) where
  -- a waiting message stands, or is minded
  stands : (c : Cell) (x : ℕ) → cell_of cells x ≡ c → IsWaiting c → (IsStanding (cell_of cells x) × (o.bag x ≡ Some (bag_of x))) ⊎ IsMinded cells views x
  stands Empty x e w = inr (inl e)
  stands Pending x e w = inl (subst IsStanding (sym e) tt, bagged x (subst IsArmed (sym e) tt))
  stands Claimed x e w = inl (subst IsStanding (sym e) tt, bagged x (subst IsArmed (sym e) tt))
  stands Consumed x e w = absurd w
  stands (Woken q) x e w = inr (inr (inl (q, e)))
  stands Ready x e w = absurd w
  stands Started x e w = absurd w

  -- of waiting messages to the bags of a chord all are chosen, or one is minded
  chosen_or : (ks xs : List ℕ) → AreTo bag_of ks xs → AllWaiting cells xs → Chosen IsChord cells o ks xs ⊎ ((x : ℕ) × HasNumber x xs × IsMinded cells views x)
  chosen_or [] [] a w = inl tt
  chosen_or [] (x ∷ xs) a w = absurd a
  chosen_or (k ∷ ks) [] a w = absurd a
  chosen_or (k ∷ ks) (x ∷ xs) a w = ⊎_elim
      (λ s. ⊎_elim (λ c. inl (s.1 ∙ ap (λ (z : ℕ). Some z) a.0, s.0, c)) (λ r. inr (r.0, inr r.1, r.2)) (chosen_or ks xs a.1 w.1))
      (λ m. inr (x, inl refl, m)) (stands (cell_of cells x) x refl w.0)

  -- of waiting messages to the bags of a chord, which has a bag, one is minded
  pub one_of_keys_minded : (ks xs : List ℕ) → IsChord ks → (k : ℕ) × HasNumber k ks → AreTo bag_of ks xs → AllWaiting cells xs → (x : ℕ) × HasNumber x xs × IsMinded cells views x
  one_of_keys_minded ks xs chord first to waiting = ⊎_elim
      (λ c. ⊎_elim
      (λ n. (n.1, n.3, inr (inr (inl (n.0, n.2)))))
      (λ d. (d.2.message, d.5.of, inr (inr (inr (d.0, d.1, d.2, d.3, d.4, refl)))))
      (law ks xs record { chord = chord; some = first; chosen = c }))
      (λ m. m) (chosen_or ks xs to waiting)
