-- An object is made: its bags are empty.
use Rattle.std.proofs.Common.{◌≡◌, ◌⊎◌, ⊎_elim, ℕ, Option, Some, None, subst, sym}
use mathlib.Core.Path.{Path}
use Rattle.chord_word.specs.declared.cells.Word.{Word}
use Rattle.chord_rule.specs.Bags.{LinkOrder, head_number, Leads, BagLaw}

-- the bag law stays where there are more bags, each new one with an empty head
pub more_keys : (IsKey IsKey' : ℕ → Type 0) (cells : ℕ → Word) (heads : ℕ → Option ℕ) (o : LinkOrder) → ((k : ℕ) → IsKey k → IsKey' k) → ((k : ℕ) → IsKey' k → IsKey k ⊎ ((IsKey k → ⊥) × (heads (head_number k) ≡ None)))
    → BagLaw IsKey cells heads o → BagLaw IsKey' cells heads o
more_keys IsKey IsKey' cells heads o more new law = record {
  heads_lead = λ k is. ⊎_elim (λ old. law.heads_lead k old)
      (λ t. subst (λ (x : Option ℕ). Leads cells o k o.clock x) (sym t.1) record { inside = λ y e. absurd (let z : Path (Option ℕ) None (Some y) = e in cc); passes = λ i b ne low. absurd (t.0 (law.keyed i k b)) }) (new k is);
  nexts_lead = law.nexts_lead;
  keyed = λ i k b. more k (law.keyed i k b);
  ranked = law.ranked;
  apart = law.apart;
  armed = law.armed;
}
