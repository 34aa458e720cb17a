-- The rule of the table.
use Rattle.std.specs.Prelude.{ℕ, List, Option}
use Rattle.atomic_table.specs.Table.{State}
use Rattle.chord_base.specs.Meaning.{Program}
use Rattle.chord_base.specs.declared.event.Entry.{Entry}
use Rattle.chord_base.specs.declared.value.Value as value
use Rattle.chord_rule.specs.declared.view.View.{View}
use Rattle.chord_rule.specs.Moment.{Moment}
use Rattle.chord_rule.specs.Placed.{PlaceLaw}
use Rattle.chord_rule.specs.Agrees.{Agrees}
use Rattle.chord_rule.specs.Alone.{AloneLaw}
use Rattle.chord_rule.specs.Desks.{DeskLaw}
use Rattle.chord_rule.specs.Draws.{DrawLaw}
use Rattle.chord_rule.specs.Held.{HeldBy}
use Rattle.chord_rule.specs.StandsFor.{Unseen}
use Rattle.chord_rule.specs.Woken.{WokenLaw}

-- the rule of the table, which holds between any two steps: what its words, its desks and its journal say of each other, what
-- holds of each desk, what the first desk knows while it is alone, and which desk drew each entry
pub record Whole {P : Type 0} (entries : P → List Entry) (arguments : P → List value.Value) (keeps_to : P → Type 0) (p : Program) (n : ℕ) (m : Moment P) (u : Unseen) : Type 0 where
  pub agrees : Agrees entries arguments keeps_to p n m u
  pub desks : DeskLaw n m.count m.cells u.order m.views
  pub woken : WokenLaw m.cells
  pub places : PlaceLaw n m.places
  pub alone : AloneLaw m.count m.heads m.cells m.views
  pub draws : DrawLaw m.views u.journal

-- the table, for n events and with so many heads an object, shows a moment that meets the whole rule
abbrev pub Held : {P : Type 0} → (P → List Entry) → (P → List value.Value) → (P → Type 0) → Program → (n width : ℕ) → State (Option P) View → Type 0
Held entries arguments keeps_to p n width = HeldBy Unseen (Whole entries arguments keeps_to p n) n width
