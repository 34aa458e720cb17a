-- What a parcel at home holds.
use Rattle.std.specs.Prelude.{◌≡◌, ◌⊎◌, ℕ, List, Option, Some, None, IsSome}
use Rattle.chord_base.specs.declared.value.Value as value
use Rattle.chord_base.specs.declared.event.Entry.{Entry}
use Rattle.chord_base.specs.Meaning.{Program}
use mathlib.Core.Option.{some}
use Rattle.chord_base.specs.Messages.{Message, message_of, IsCall}
use Rattle.chord_base.specs.Bodies.{Doing, Absent, Unplaced, Ready, Waits, Over, doing, serves}
use Rattle.chord_base.specs.Story.{IsIn}
use Rattle.chord_rule.specs.Moment.{Home}
use Rattle.chord_rule.specs.Stages.{said_at, message_in, IsFiringEntry}

-- the body has its first entry there
abbrev pub BeginsThere : ℕ → List Entry → Type 0
BeginsThere b es = (e : Entry) × IsIn e es × (e.number ≡ b) × (e.body ≡ b)

-- a body has ended, or waits for this message or for a call that a body there serves
abbrev pub IsParkedThere : Program → List Entry → Option ℕ → Doing → Type 0
IsParkedThere p es m (Waits s d rs q l) = (m ≡ Some q) ⊎ ((c : ℕ) × BeginsThere c es × (serves p c es ≡ Some q))
IsParkedThere p es m (Over x) = Unit {0}
IsParkedThere p es m Absent = ⊥
IsParkedThere p es m Unplaced = ⊥
IsParkedThere p es m (Ready s d rs) = ⊥

-- each message whose entry is there was linked
abbrev pub AreLinked : (ℕ → Option ℕ) → List Entry → Type 0
AreLinked bag es = (e : Entry) → IsIn e es → IsSome (message_of e.what) → IsSome (bag e.number)

-- the parcel of a message
pub record IsSentParcel (p : Program) (h : List Entry) (bag : ℕ → Option ℕ) (i : ℕ) (es : List Entry) (held : List value.Value) : Type 0 where
  pub holds : (m : Message) → message_in (said_at i h) ≡ Some m → m.arguments ≡ held
  pub parked : (b : ℕ) → BeginsThere b es → IsParkedThere p es (Some i) (doing p es b)
  pub call : (e : Entry) → IsIn e h → IsCall i e → IsIn e es
  pub linked : AreLinked bag es

-- the parcel of a firing
pub record IsFiredParcel (p : Program) (bag : ℕ → Option ℕ) (f : ℕ) (es : List Entry) : Type 0 where
  pub begins : BeginsThere f es
  pub only : (e : Entry) → IsIn e es → e.body ≡ f → e.number ≡ f
  pub parked : (b : ℕ) → (b ≡ f → ⊥) → BeginsThere b es → IsParkedThere p es None (doing p es b)
  pub linked : AreLinked bag es

-- what each parcel at home holds
pub record Parcels {P : Type 0} (entries : P → List Entry) (arguments : P → List value.Value) (keeps_to : P → Type 0) (p : Program) (h : List Entry) (homes : ℕ → Home P) (bag : ℕ → Option ℕ) : Type 0 where
  pub sent : (i : ℕ) (q : P) (m : Message) → homes i ≡ some (Some q) → message_in (said_at i h) ≡ Some m → IsSentParcel p h bag i (entries q) (arguments q)
  pub fired : (i : ℕ) (q : P) → homes i ≡ some (Some q) → IsFiringEntry (said_at i h) → IsFiredParcel p bag i (entries q)
  pub task : (i : ℕ) (q : P) → homes i ≡ some (Some q) → keeps_to q
