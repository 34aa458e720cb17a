-- When the journal of a table is complete: what the desk that closes it has to know.
use Rattle.std.specs.Prelude.{◌≡◌, ◌<◌, ℕ, true, List, [], Some}
use Rattle.chord_base.specs.declared.event.Entry.{Entry}
use Rattle.chord_base.specs.Meaning.{Program}
use Rattle.chord_base.specs.Bodies.{Doing, Absent, Unplaced, Ready, Waits, Over, doing}
use Rattle.chord_word.specs.declared.cells.Cell.{Cell}
use Rattle.chord_word.specs.declared.cells.Cell.TheVariants as a_cell
use Rattle.chord_word.specs.declared.cells.Word.{Word}
use Rattle.chord_rule.specs.declared.view.View.{View}
use Rattle.chord_rule.specs.Bags.{cell_of}
use Rattle.chord_rule.specs.Hands.{IsUnarmed}
use Rattle.chord_rule.specs.Ways.{LastSeen}

-- a body that makes no entry of itself: it is not there, has ended, or waits for a call that no entry there has answered
abbrev pub IsQuiet : Doing → Type 0
IsQuiet (Waits s k rs q l) = Unit {0}
IsQuiet (Over x) = Unit {0}
IsQuiet Absent = Unit {0}
IsQuiet Unplaced = ⊥
IsQuiet (Ready s k rs) = ⊥

-- no body makes an entry of itself there
abbrev pub AreQuiet : Program → List Entry → Type 0
AreQuiet p es = (b : ℕ) → IsQuiet (doing p es b)

-- somebody has still to look after the cell: a caller was woken, or a firing waits to be started
abbrev pub IsAsleep : Cell → Type 0
IsAsleep (a_cell.Woken x) = Unit {0}
IsAsleep a_cell.Ready = Unit {0}
IsAsleep _ = ⊥

-- the first desk, which drew the beginning of `Main`, has nothing to do: it has lent no desk, and has no duty, no claim and no message that is not armed
pub record HasNothingToDo (v : View) : Type 0 where
  pub first : v.first ≡ true
  pub begun : v.drawn ≡ true
  pub lent : v.lent ≡ 0
  pub duties : v.duties ≡ []
  pub claims : v.claims ≡ []
  pub armed : (i : ℕ) → IsUnarmed v i → ⊥

-- nobody has still to look after any of these cells: none is woken or ready
abbrev pub AreAllAwake : (ℕ → Word) → Type 0
AreAllAwake cells = (i : ℕ) → IsAsleep (cell_of cells i) → ⊥

-- the desk knows that nothing is left to do: it has nothing to do itself, looked at the counter and at each cell below, and no cell was woken or ready
pub record MayClose (v : View) : Type 0 where
  pub done : HasNothingToDo v
  pub count : ℕ
  pub counted : v.looked.count ≡ Some count
  pub seen : (i : ℕ) → i < count → (x : Word) × LastSeen i x v.looked.seen × (IsAsleep x.cell → ⊥)
