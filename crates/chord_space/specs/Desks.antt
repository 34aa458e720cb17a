-- What a clause sees of a space and of a desk.
use Rattle.std.specs.Prelude.{◌⊎◌, true, false}
use Rattle.chord_base.specs.Bodies.{Asks}
use Rattle.chord_base.specs.Story.{IsOwn}
use Rattle.chord_base.specs.declared.event.What.{What}
use Rattle.chord_base.specs.declared.event.What.TheVariants.{Begun}
use Rattle.chord_base.specs.declared.value.Object.{Object}
use Rattle.std.specs.Prelude.{◌≡◌, ℕ, []}
use Rattle.chord_base.specs.Meaning.{Program}
use Rattle.chord_base.specs.declared.event.Limits.{Limits}
use Rattle.chord_code.specs.declared.parts.Parts.{Parts}
use Rattle.chord_code.specs.Meaning.{code_program}
use Rattle.chord_rule.specs.declared.view.View.{View}
use Rattle.chord_space.specs.Widest.{widest}
use Rattle.chord_space.specs.declared.space.Space.{Space}
use Rattle.chord_space.specs.declared.space.Desk.{Desk}

-- a code without classes and blocks, limits of nothing, and an object: what a step has where no call has picked another
abbrev pub no_parts : Parts
no_parts = record { classes = []; blocks = [] }

-- limits that allow nothing
abbrev pub no_limits : Limits
no_limits = record { events = 0; turns = 0; depth = 0 }

-- the object of number 0 and class 0
abbrev pub no_object : Object
no_object = record { number = 0; class = 0 }

module _ {P : Type 0} where
  -- what the desk knows
  abbrev pub view : Desk P → View
  view d = d.seat.me.0

  -- how many events the space's runs may have
  abbrev pub events : Space P → ℕ
  events s = s.events

  -- the code of the space
  abbrev pub space_code : Space P → Parts
  space_code s = s.table.shared.key.code.value

  -- how many heads each object has: one a method of the largest class
  abbrev pub heads : Space P → ℕ
  heads s = widest (space_code s)

  -- the limits of the space's runs
  abbrev pub space_limits : Space P → Limits
  space_limits s = s.table.shared.key.limits

  -- what the space's runs are runs of
  abbrev pub program_of : Space P → Program
  program_of s = code_program (space_code s) (space_limits s)

  -- the desk is of this space
  abbrev pub IsDeskOf : Space P → Desk P → Type 0
  IsDeskOf s d = (d.seat.table_id ≡ s.table.shared.table_id)

  -- both are one desk of one space
  abbrev pub IsSameDesk : Desk P → Desk P → Type 0
  IsSameDesk d e = (e.seat.table_id ≡ d.seat.table_id) × (e.seat.id ≡ d.seat.id)

  -- a desk may draw an entry: the next ask of a body by what it keeps, or the beginning of `Main` where it is the first desk,
  -- which has neither drawn nor been split
  abbrev pub MayDraw : Space P → Desk P → ℕ → What → Type 0
  MayDraw s d body what = (IsOwn what × Asks (program_of s) (view d).kept body what)
      ⊎ ((what ≡ Begun) × (body ≡ 0) × ((view d).first ≡ true) × ((view d).drawn ≡ false) × ((view d).splits ≡ 0))
