-- What holds of each desk, by its view: its duties, its ways through bags, the limit that it was told of, and its end.
use Rattle.std.specs.Prelude.{◌≡◌, ◌≤◌, ℕ, true, false, List, Some}
use mathlib.Core.Option.{some}
use lib.ListN.{get_elem?}
use Rattle.chord_word.specs.declared.cells.Word.{Word}
use Rattle.chord_rule.specs.declared.view.Duty.{Duty}
use Rattle.chord_rule.specs.declared.view.View.{View}
use Rattle.chord_rule.specs.declared.view.Way.{Way}
use Rattle.chord_rule.specs.Bags.{LinkOrder, IsArmed, cell_of}
use Rattle.chord_rule.specs.Duties.{HasDuty}
use Rattle.chord_rule.specs.Kinds.{gone}
use Rattle.chord_rule.specs.Ways.{HasWay, WayLaw}

-- what holds of one desk
pub record IsRightDesk (n count : ℕ) (cells : ℕ → Word) (o : LinkOrder) (v : View) : Type 0 where
  -- a message that it has a duty on is armed
  pub armed : (d : Duty) → HasDuty d v.duties → IsArmed (cell_of cells d.message)
  -- its ways go from message to message of a bag, each linked before the last, and miss none
  pub ways : (w : Way) → HasWay w v.looked.ways → WayLaw n cells o w
  -- where it was told that the limit is reached, it is
  pub told : v.gone ≡ false → v.spent ≡ true → n ≤ count
  -- the counter is no less than what it last read or wrote of it
  pub counted : (c : ℕ) → v.looked.count ≡ Some c → c ≤ count
  -- a desk that was joined into the first has nothing
  pub ended : v.gone ≡ true → v ≡ gone

-- what holds of each desk
pub record DeskLaw (n count : ℕ) (cells : ℕ → Word) (o : LinkOrder) (views : List View) : Type 0 where
  pub right : (j : ℕ) (v : View) → get_elem? views j ≡ some v → IsRightDesk n count cells o v
