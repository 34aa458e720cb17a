-- What a clause sees of a closed table.
use Rattle.std.specs.Prelude.{List, Option}
use Rattle.chord_rule.specs.declared.view.View.{View}
use Rattle.chord_space.specs.Sealed.{slot_parcels}
use Rattle.chord_space.specs.declared.closed.Closed.{Closed}

module _ {P : Type 0} where
  -- the parcels that are at home, by their numbers: none where the table's memory was given back
  abbrev pub parcels : Closed P → List (Option P)
  parcels c = slot_parcels c.slots

  -- what the desk that closed the table knew, with the entries that it kept
  abbrev pub closing_view : Closed P → View
  closing_view c = c.closing.value.seat.me.0
