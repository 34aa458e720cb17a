-- What a run says of types: each message fits its method, each body begins as it may, and a value that a body gives has its result type. A journal has its oldest entry first.
use Rattle.std.specs.Prelude.{◌≡◌, ℕ, List, reverse, Bool, false, true, Option, Some, None}
use Rattle.chord_base.specs.Machine.{IsRun}
use Rattle.chord_base.specs.Meaning.{Program, Start, Main, Chord}
use Rattle.chord_base.specs.Story.{IsIn}
use Rattle.chord_base.specs.Types.{Has, HaveAll, Signature, Signatures}
use Rattle.chord_base.specs.declared.event.End.{End}
use Rattle.chord_base.specs.declared.event.End.TheVariants.{Gives}
use Rattle.chord_base.specs.declared.event.Entry.{Entry}
use Rattle.chord_base.specs.declared.event.Limits.{Limits}
use Rattle.chord_base.specs.declared.event.What.{What}
use Rattle.chord_base.specs.declared.event.What.TheVariants.{Begun, Called, Ended, Fired, Sent}
use Rattle.chord_base.specs.declared.static_type.StaticType.{StaticType}
use Rattle.chord_base.specs.declared.value.Object.{Object}
use Rattle.chord_base.specs.declared.value.Value.{Value}
use Rattle.chord_bodies.specs.Planned.{IsPlanned}
use Rattle.chord_bodies.specs.Resolved.{Resolved}
use Rattle.chord_code.specs.Plays.{Good}
use Rattle.chord_code.specs.Runs.{IsResultType}
use Rattle.chord_source.specs.Laws.{AreWellTyped, EndsAfter, StartFits, SupplyFits}
use Rattle.chord_source.specs.Source.{play_of, source_program}

-- A message fits its method: its object's class has a method of this number, synchronous or not as is said here, with a parameter for each of the values, which has that parameter's type.
pub record FitsMethod (sig : Signatures) (is_sync : Bool) (object : Object) (number : ℕ) (values : List Value) : Type 0 where
  pub method : Signature
  pub found : sig.methods object.class number ≡ Some method
  pub kind : method.is_sync ≡ is_sync
  pub arguments : HaveAll sig method.parameters values

-- how the body begins that an entry begins: `Main`, or on the object and the arguments of the messages that a firing takes
abbrev pub begins_as : What → Option Start
begins_as Begun = Some Main
begins_as (Fired chord object members values) = Some (Chord chord object values)
begins_as _ = None

-- A journal keeps to the types of a program: what is sent fits an asynchronous method, and what is called fits a synchronous one. Each body begins as it may, so that the result that its chord's body declares is its result type. A body that gives a value gives one of its result type, which is the unit value where it has none.
pub record KeepsTypes (p : Resolved) (program : Program) (sig : Signatures) (journal : List Entry) : Type 0 where
  pub sends : (entry : Entry) (object : Object) (method : ℕ) (values : List Value) → IsIn entry journal → entry.what ≡ Sent object method values → FitsMethod sig false object method values
  pub calls : (entry : Entry) (object : Object) (method : ℕ) (values : List Value) → IsIn entry journal → entry.what ≡ Called object method values → FitsMethod sig true object method values
  pub begins : (entry : Entry) (start : Start) → IsIn entry journal → begins_as entry.what ≡ Some start → (result : Option StaticType) × StartFits sig p start result × IsResultType program sig (reverse journal) entry.body result
  pub gives : (entry : Entry) (value : Value) → IsIn entry journal → entry.what ≡ Ended (Gives value) → (result : Option StaticType) × IsResultType program sig (reverse journal) entry.body result × Has sig result value

-- So does each run of the join machine of a source whose bodies keep to their static types, and whose plan is as it must be.
abbrev pub RunsKeepTypes : Type 0
RunsKeepTypes =
    (sig : Signatures) (p : Resolved) → AreWellTyped sig p → IsPlanned sig p → (limits : Limits) (journal : List Entry) → IsRun (source_program p limits) journal → KeepsTypes p (source_program p limits) sig journal

-- A body that begins so plays well at this depth: it never goes wrong, and comes to an end of its result type after finitely many asks, whatever fits they are answered.
pub record PlaysWell (sig : Signatures) (p : Resolved) (limits : Limits) (start : Start) (depth : ℕ) (result : Option StaticType) : Type 0 where
  pub good : Good sig result (play_of p limits start depth)
  pub ends : (answers : ℕ → End) → SupplyFits sig (play_of p limits start depth) answers → EndsAfter sig result (play_of p limits start depth) answers

-- Each body of such a run plays well, with the result type that it has there.
abbrev pub RunsPlayWell : Type 0
RunsPlayWell =
    (sig : Signatures) (p : Resolved) → AreWellTyped sig p → IsPlanned sig p → (limits : Limits) (journal : List Entry) → IsRun (source_program p limits) journal → (entry : Entry) (start : Start) → IsIn entry journal → begins_as entry.what ≡ Some start
    → (result : Option StaticType) × IsResultType (source_program p limits) sig (reverse journal) entry.body result × ((depth : ℕ) → PlaysWell sig p limits start depth result)
