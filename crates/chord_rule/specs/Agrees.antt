-- What the words of the table, its desks and its journal have to say of each other.
use Rattle.std.specs.Prelude.{◌≡◌, ℕ, List, Option, Some}
use mathlib.Core.Option.{some}
use lib.ListN.{get_elem?}
use Rattle.chord_base.specs.Meaning.{Program}
use Rattle.chord_base.specs.declared.event.Entry.{Entry}
use Rattle.chord_base.specs.declared.value.Value as value
use Rattle.chord_rule.specs.declared.view.View.{View}
use Rattle.chord_rule.specs.declared.view.Duty.{Duty}
use Rattle.chord_rule.specs.Moment.{Moment}
use Rattle.chord_rule.specs.Counting.{Counting}
use Rattle.chord_rule.specs.Firsts.{Firsts}
use Rattle.chord_rule.specs.Bags.{BagLaw}
use Rattle.chord_rule.specs.Heads.{HeadLaw}
use Rattle.chord_rule.specs.Duties.{HasDuty, DutyLaw}
use Rattle.chord_rule.specs.Made.{IsKey, IsChord, IsTabled}
use Rattle.chord_rule.specs.Looks.{Looks}
use Rattle.chord_rule.specs.StandsFor.{Unseen, StandsForJournal}

-- a desk knows the bags of its duties
pub record Tied (views : List View) (bag : ℕ → Option ℕ) : Type 0 where
  pub duties : (j : ℕ) (v : View) → get_elem? views j ≡ some v → (d : Duty) → HasDuty d v.duties → bag d.message ≡ Some d.bag

-- the table stands for its journal, and what desks have seen and have to look after agrees with its words, one field a law
pub record Agrees {P : Type 0} (entries : P → List Entry) (arguments : P → List value.Value) (keeps_to : P → Type 0) (p : Program) (n : ℕ) (m : Moment P) (u : Unseen) : Type 0 where
  pub tabled : IsTabled p
  pub counting : Counting n m.count m.views
  pub firsts : Firsts m.count m.views
  pub stands : StandsForJournal entries arguments keeps_to p n m u
  pub heads : HeadLaw (IsKey u.journal) m.heads
  pub bags : BagLaw (IsKey u.journal) m.cells m.heads u.order
  pub tied : Tied m.views u.order.bag
  pub duties : DutyLaw (IsChord p) m.cells m.views u.order
  pub looks : Looks m.cells u.order m.views
