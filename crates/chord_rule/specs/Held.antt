-- The table shows a moment that meets a rule, with what no word holds.
use Rattle.std.specs.Prelude.{ℕ, Option}
use Rattle.atomic_table.specs.Table.{State}
use Rattle.chord_rule.specs.declared.view.View.{View}
use Rattle.chord_rule.specs.Moment.{Moment, Shows}

-- the table shows a moment that meets the rule, with what no word holds
pub record HeldBy {P : Type 0} (G : Type 0) (R : Moment P → G → Type 0) (n width : ℕ) (s : State (Option P) View) : Type 0 where
  pub moment : Moment P
  pub ghosts : G
  pub shows : Shows n width moment s
  pub rule : R moment ghosts
