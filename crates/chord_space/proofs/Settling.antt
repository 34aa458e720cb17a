-- What a desk has settled between two calls stays where a step leaves it.
use Rattle.std.proofs.Common.{◌≡◌, ℕ, ◌<◌, Bool, false, Option, None, sym, subst}
use Rattle.chord_word.specs.Cells.{link_of}
use Rattle.chord_rule.specs.declared.view.View.{View}

-- the part of a view that a desk settles between two calls
pub record Settling : Type 0 where
  pub above : Option ℕ
  pub placing : Option ℕ
  pub posting : Option ℕ
  pub starting : Option ℕ
  pub gone : Bool
  pub emptying : Option ℕ

-- that of this view
abbrev pub settling : View → Settling
settling v = record { above = v.above; placing = v.placing; posting = v.posting; starting = v.starting; gone = v.gone; emptying = v.emptying }

-- what is settled beside the slots that are out
abbrev pub IsSettled : ℕ → Settling → Type 0
IsSettled above s = (above ≡ link_of s.above) × (above < 65537) × (s.placing ≡ None) × (s.posting ≡ None) × (s.starting ≡ None) × (s.gone ≡ false) × (s.emptying ≡ None)

-- it stays where these parts stay
pub stays_settled : (above : ℕ) (s t : Settling) → t ≡ s → IsSettled above s → IsSettled above t
stays_settled above s t same is = subst (IsSettled above) (sym same) is
