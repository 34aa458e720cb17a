-- What holds in every run of a code whose bodies keep to their kinds.
use Rattle.std.specs.Prelude.{◌≡◌, ℕ, ◌==◌, ◌<◌, ◌⊎◌, length, List, [], ◌∷◌, Option, Some, None, if◌then◌else◌}
use Rattle.chord_base.specs.declared.value.Object.{Object}
use Rattle.chord_base.specs.declared.value.Value.{Value}
use Rattle.chord_base.specs.declared.event.End.{End}
use Rattle.chord_base.specs.declared.event.Entry.{Entry}
use Rattle.chord_base.specs.declared.event.Limits.{Limits}
use Rattle.chord_base.specs.declared.event.What.TheVariants.{Called, Fired}
use Rattle.chord_base.specs.Meaning.{Program, Start, Main, Chord}
use Rattle.chord_base.specs.Bodies.{Doing, Absent, Unplaced, Ready, Waits, Over, doing, serves}
use Rattle.chord_base.specs.Messages.{Message, message_of}
use Rattle.chord_base.specs.Machine.{Fires}
use Rattle.chord_base.specs.Story.{AllBelow}
use Rattle.chord_base.specs.declared.static_type.StaticType.{StaticType}
use Rattle.chord_base.specs.Types.{HaveAll, Signature, Signatures}
use Rattle.chord_code.specs.declared.parts.Parts.{Parts}
use Rattle.chord_code.specs.Meaning.{code_program, begins, stands}
use Rattle.chord_code.specs.Plays.{Play, Plays, PlaysAt, Good, what_of, left_after}

-- the message that the entry of this number is
abbrev pub sent : ℕ → List Entry → Option Message
sent n [] = None
sent n (e ∷ h) = if e.number == n then message_of e.what else sent n h

-- it has the arguments that its method wants
pub record IsFitMessage (sig : Signatures) (m : Message) : Type 0 where
  pub method : Signature
  pub found : sig.methods m.object.class m.method ≡ Some method
  pub arguments : HaveAll sig method.parameters m.arguments

-- a body serves a call of this method
pub record ServesMethod (program : Program) (sig : Signatures) (history : List Entry) (body : ℕ) (method : Signature) : Type 0 where
  pub call : ℕ
  pub message : Message
  pub serves_call : serves program body history ≡ Some call
  pub is_message : sent call history ≡ Some message
  pub found : sig.methods message.object.class message.method ≡ Some method

-- The result type of a body: that of the method whose call it serves, and none where it serves no call. What it says of a history in which the body has begun it says of each longer one.
abbrev pub IsResultType : Program → Signatures → List Entry → ℕ → Option StaticType → Type 0
IsResultType program sig history body result =
    ((serves program body history ≡ None) × (result ≡ None)) ⊎ ((method : Signature) × ServesMethod program sig history body method × (result ≡ method.result))

-- a body that stands where a good play is left
pub record IsPlaying (code : Parts) (limits : Limits) (sig : Signatures) (src : Start → ℕ → Play) (h : List Entry) (b : ℕ) (s : Start) (d : ℕ) (rs : List End) : Type 0 where
  pub play : Play
  -- it is what is left of the source's
  pub is : play ≡ left_after (src s d) rs
  pub kind : Option StaticType
  pub good : Good sig kind play
  pub early : b < length h
  pub plays : PlaysAt code play (stands code limits s d rs)
  pub due : IsResultType (code_program code limits) sig h b kind

-- what is known of a body: it does what is left of its play
abbrev pub BodyPlays : Parts → Limits → Signatures → (Start → ℕ → Play) → List Entry → ℕ → Doing → Type 0
BodyPlays code limits sig src h b (Ready s d rs) = IsPlaying code limits sig src h b s d rs
BodyPlays code limits sig src h b (Waits s d rs q l) =
    (k : IsPlaying code limits sig src h b s d rs) × (m : Message) × (sent q h ≡ Some m) × (what_of k.play ≡ Some (Called m.object m.method m.arguments))
BodyPlays code limits sig src h b (Over x) = Unit {0}
BodyPlays code limits sig src h b Absent = Unit {0}
BodyPlays code limits sig src h b Unplaced = Unit {0}

-- after a run: each message has its arguments, and each body does what is left of its play
pub record AllGood (code : Parts) (limits : Limits) (sig : Signatures) (src : Start → ℕ → Play) (h : List Entry) : Type 0 where
  pub messages : (n : ℕ) (m : Message) → sent n h ≡ Some m → IsFitMessage sig m
  pub bodies : (b : ℕ) → BodyPlays code limits sig src h b (doing (code_program code limits) h b)

-- The local half: a body that begins with what its messages carry does what some good play does.
pub record AreLocal (code : Parts) (limits : Limits) (sig : Signatures) (src : Start → ℕ → Play) (fits : Start → Option StaticType → Type 0) : Type 0 where
  pub plays : (s : Start) (d : ℕ) (r : Option StaticType) → fits s r → Good sig r (src s d) × Plays code (src s d) (begins code limits s d)

-- What the plan of a program says: `Main` begins with nothing, and the body of a chord with what its messages carry, for the method that it serves.
pub record IsPlan (code : Parts) (limits : Limits) (sig : Signatures) (src : Start → ℕ → Play) (fits : Start → Option StaticType → Type 0) : Type 0 where
  pub main : fits Main None
  pub fired : (h : List Entry) (n k : ℕ) (o : Object) (ms : List ℕ) (vs : List Value) → AllBelow n h → AllGood code limits sig src h → Fires (code_program code limits) h k o ms vs →
      (r : Option StaticType) × fits (Chord k o vs) r × IsResultType (code_program code limits) sig (record { number = n; body = n; what = Fired k o ms vs } ∷ h) n r
