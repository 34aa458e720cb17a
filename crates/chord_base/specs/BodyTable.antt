-- What a table of bodies says of a history: the memory of `prefix::run_length`.
use Rattle.std.specs.Prelude.{◌≡◌, ℕ, List, length, Option, Some, None, slice_get}
use Rattle.chord_base.specs.Meaning.{Program}
use Rattle.chord_base.specs.Bodies.{Doing, Absent, Unplaced, Ready, Waits, Over, doing}
use Rattle.chord_base.specs.Machine.{Fires}
use Rattle.chord_base.specs.Called.{start_of}
use Rattle.chord_base.specs.declared.body.Body as body
use Rattle.chord_base.specs.declared.body.Body.TheVariants as a_body
use Rattle.chord_base.specs.declared.event.What.{What}
use Rattle.chord_base.specs.declared.event.What.TheVariants.{Begun, Made, Sent, Called, Printed, Fired, Ended}
use Rattle.chord_base.specs.declared.event.Entry.{Entry}

-- what a kept body does
abbrev pub doing_of : body.Body → Doing
doing_of a_body.Absent = Absent
doing_of a_body.Unplaced = Unplaced
doing_of (a_body.Ready it) = Ready (start_of it.start) it.depth it.answers.items
doing_of (a_body.Waits it call place) = Waits (start_of it.start) it.depth it.answers.items call place
doing_of (a_body.Over x) = Over x

-- what there is of a body
abbrev pub or_absent : Option body.Body → Doing
or_absent None = Absent
or_absent (Some b) = doing_of b

-- what the body of this number does, by a table that has none past its end
abbrev pub doing_at : List body.Body → ℕ → Doing
doing_at bodies b = or_absent (slice_get bodies b)

-- the table has an element for each entry of the history, and says of each body what it does
pub record IsTable (p : Program) (h : List Entry) (bodies : List body.Body) : Type 0 where
  pub size : length bodies ≡ length h
  pub says : (b : ℕ) → doing_at bodies b ≡ doing p h b

-- the entry is a firing, and the machine may make it
abbrev pub IsFiring : Program → List Entry → What → Type 0
IsFiring p h (Fired k o ms vs) = Fires p h k o ms vs
IsFiring p h Begun = ⊥
IsFiring p h (Made c) = ⊥
IsFiring p h (Sent o j vs) = ⊥
IsFiring p h (Called o j vs) = ⊥
IsFiring p h (Printed t) = ⊥
IsFiring p h (Ended x) = ⊥
