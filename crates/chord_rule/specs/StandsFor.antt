-- The table stands for its journal: each entry is kept in one place, and each number stands as the journal, the words and the desks say.
use Rattle.std.specs.Prelude.{ℕ, List}
use Rattle.chord_base.specs.Meaning.{Program}
use Rattle.chord_base.specs.declared.event.Entry.{Entry}
use Rattle.chord_rule.specs.Moment.{Moment}
use Rattle.chord_rule.specs.Bags.{LinkOrder}
use Rattle.chord_rule.specs.Keeping.{Keeping}
use Rattle.chord_rule.specs.Stages.{Stage}
use Rattle.chord_rule.specs.Hands.{Hands}
use Rattle.chord_rule.specs.Messages.{Messages}
use Rattle.chord_rule.specs.Firings.{Firings}
use Rattle.chord_rule.specs.Younger.{Younger}
use Rattle.chord_rule.specs.Parcels.{Parcels}
use Rattle.chord_base.specs.declared.value.Value as value

-- what no word holds
pub record Unseen : Type 0 where
  pub journal : List Entry
  pub stage : ℕ → Stage
  pub order : LinkOrder

-- the table stands for the journal
pub record StandsForJournal {P : Type 0} (entries : P → List Entry) (arguments : P → List value.Value) (keeps_to : P → Type 0) (p : Program) (n : ℕ) (m : Moment P) (u : Unseen) : Type 0 where
  pub keeping : Keeping entries p n m.count m.homes m.views u.journal
  pub hands : Hands m.views u.stage
  pub messages : Messages u.journal m.cells m.places m.homes u.order u.stage
  pub firings : Firings u.journal u.stage
  pub younger : Younger entries m.homes u.stage
  pub parcels : Parcels entries arguments keeps_to p u.journal m.homes u.order.bag
