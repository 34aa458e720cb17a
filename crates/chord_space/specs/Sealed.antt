-- What a closed table is: the last moment of its run, with the view of the desk that closed it, and each slot at home.
use Rattle.std.specs.Prelude.{◌≡◌, ◌<◌, ◌≤◌, ℕ, Bool, true, false, List, [], length, Option, Some, None, slice_get, slice_index_or}
use Rattle.std.specs.Global.{Global}
use mathlib.Core.Option.{some}
use lib.ListN.{get_elem?}
use Rattle.atomic_table.specs.declared.owned.Closed.{Closed as Slots}
use Rattle.chord_base.specs.declared.event.Entry.{Entry}
use Rattle.chord_base.specs.declared.event.Limits.{Limits}
use Rattle.chord_base.specs.declared.value.Value as value
use Rattle.chord_code.specs.declared.parts.Parts.{Parts}
use Rattle.chord_code.specs.Meaning.{code_program}
use Rattle.chord_rule.specs.declared.view.View.{View}
use Rattle.chord_rule.specs.Moment.{Moment}
use Rattle.chord_base.specs.Machine.{IsFinal}
use Rattle.chord_rule.specs.Closing.{HasNothingToDo, AreAllAwake, MayClose, AreQuiet}
use Rattle.chord_rule.specs.StandsFor.{Unseen}
use Rattle.chord_rule.specs.Whole.{Whole}

-- each place up to here holds a value
abbrev pub AllFilled : List Bool → ℕ → Type 0
AllFilled filled count = (k : ℕ) → 0 ≤ k → k < count → slice_index_or filled k false ≡ true

-- the slots of a closed table, which may have given them back: the parcels in them
abbrev pub slot_parcels : {P : Type 0} → Option (Slots (Option P) Global) → List (Option P)
slot_parcels None = []
slot_parcels (Some s) = s.slots.items

-- which of them hold a value
abbrev pub slots_filled : {P : Type 0} → Option (Slots (Option P) Global) → List Bool
slots_filled None = []
slots_filled (Some s) = s.slots.filled

-- and how many there are
abbrev pub slot_count : {P : Type 0} → Option (Slots (Option P) Global) → ℕ
slot_count None = 0
slot_count (Some s) = s.slots.len

-- the slots hold these parcels where the table is closed, by desk `id` with this view, after so many entries: the whole rule holds of that moment, whose journal has as many entries, and each slot is at home, with its parcel if it has one
pub record IsSealed {P : Type 0} (entries : P → List Entry) (arguments : P → List value.Value) (keeps_to : P → Parts → Limits → Type 0) (code : Parts) (limits : Limits) (id : ℕ) (v : View) (parcels : List (Option P)) (drawn : ℕ) : Type 0 where
  pub moment : Moment P
  pub unseen : Unseen
  pub rule : Whole entries arguments (λ q. keeps_to q code limits) (code_program code limits) limits.events moment unseen
  pub desk : get_elem? moment.views id ≡ some v
  pub drawn_is : drawn ≡ length unseen.journal
  -- that desk drew, or took over from the desks that it took in, each entry of the journal
  pub journal : v.draws ≡ unseen.journal
  -- where the desk had nothing to do, no cell is woken or ready, and no body that it kept makes an entry of itself, the journal is complete
  pub at_rest : HasNothingToDo v → AreAllAwake moment.cells → AreQuiet (code_program code limits) v.kept → IsFinal (code_program code limits) unseen.journal
  -- where the desk knew that nothing was left to do, and no body that it kept makes an entry of itself, the journal is complete
  pub complete : MayClose v → AreQuiet (code_program code limits) v.kept → IsFinal (code_program code limits) unseen.journal
  pub homes : (i : ℕ) → i < limits.events → (y : Option P) × (moment.homes i ≡ some y) × (slice_get parcels i ≡ Some y)
