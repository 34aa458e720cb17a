-- What the table shows of a pending message.
use Rattle.std.specs.Prelude.{◌≡◌, ℕ, List, Some, None}
use mathlib.Core.Option.{some}
use lib.ListN.{get_elem?}
use Rattle.chord_base.specs.Messages.{Message}
use Rattle.chord_word.specs.declared.cells.Cell.TheVariants as a_cell
use Rattle.chord_word.specs.declared.cells.Word.{Word}
use Rattle.chord_rule.specs.declared.view.Claim.{Claim}
use Rattle.chord_rule.specs.declared.view.View.{View}
use Rattle.chord_rule.specs.Bags.{LinkOrder, IsArmed, cell_of}
use Rattle.chord_rule.specs.Made.{key}
use Rattle.chord_rule.specs.Claims.{HasThe}
use Rattle.chord_rule.specs.Hands.{IsUnarmed}
use Rattle.chord_rule.specs.Minded.{IsWaiting}

-- what the table shows of the pending message i
pub record IsPending (cells : ℕ → Word) (views : List View) (o : LinkOrder) (i : ℕ) (m : Message) : Type 0 where
  -- no firing has taken it
  pub waiting : IsWaiting (cell_of cells i)
  -- where it is armed, it is in the bag of its object and method
  pub bagged : IsArmed (cell_of cells i) → o.bag i ≡ Some (key m.object m.method)
  -- where it is not armed, a desk has it in hand
  pub unarmed : cell_of cells i ≡ a_cell.Empty → (j : ℕ) × (v : View) × (get_elem? views j ≡ some v) × IsUnarmed v i
  -- where it is claimed, a desk has claimed it, for no firing yet
  pub claimed : cell_of cells i ≡ a_cell.Claimed → (j : ℕ) × (v : View) × (c : Claim) × (get_elem? views j ≡ some v) × HasThe c v.claims × (c.number ≡ i) × (c.firing ≡ None)
