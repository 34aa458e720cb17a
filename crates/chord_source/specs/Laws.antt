-- What holds of the bodies of a source that keep to their static types, and of its join machine.
use Rattle.std.specs.Prelude.{◌≡◌, ℕ, zero, suc, List, [], ◌∷◌, Option, Some, None, slice_get}
use Rattle.chord_base.specs.Meaning.{Program, Start, Main, Chord}
use Rattle.chord_base.specs.Story.{IsSound}
use Rattle.chord_base.specs.declared.event.End.{End}
use Rattle.chord_base.specs.declared.event.Limits.{Limits}
use Rattle.chord_base.specs.declared.static_type.StaticType.{StaticType}
use Rattle.chord_base.specs.Types.{Signatures, HaveAll}
use Rattle.chord_bodies.specs.Resolved.{BodyOf, Resolved}
use Rattle.chord_bodies.specs.Types.{BodyIs}
use Rattle.chord_bodies.specs.Planned.{IsPlanned}
use Rattle.chord_code.specs.Laws.{ChordsAreRight}
use Rattle.chord_code.specs.Plays.{Good, EndFits, Play, MakesObject, SendsMessage, CallsMethod, PrintsLine, EndsBody, GoesWrong, left_of, left_after}
use Rattle.chord_source.specs.Source.{chord_body, class_chords, play_of, source_program}

-- each body keeps to its static types
abbrev pub AreWellTyped : Signatures → Resolved → Type 0
AreWellTyped sig p = (i : ℕ) (b : BodyOf) → slice_get p.bodies i ≡ Some b → BodyIs sig b

-- A body may begin so, and is to give a value of this type: `Main` gives none, and the body of a chord begins on values of its parameters' types.
abbrev pub StartFits : Signatures → Resolved → Start → Option StaticType → Type 0
StartFits sig p Main r = r ≡ None
StartFits sig p (Chord k o vs) r =
    (b : BodyOf) × (chord_body p (slice_get (class_chords (slice_get p.classes o.class)) k) ≡ Some b) × HaveAll sig b.parameters vs × (r ≡ b.result)

-- What a body does that begins as it may is good: it never goes wrong, its asks fit the signatures, and a value that it gives has its result's type.
abbrev pub GoodPlays : Type 0
GoodPlays =
    (sig : Signatures) (p : Resolved) → AreWellTyped sig p → IsPlanned sig p → (limits : Limits) (s : Start) (d : ℕ) (r : Option StaticType) → StartFits sig p s r
    → Good sig r (play_of p limits s d)

-- each of these answers fits what the play asks after those before it
abbrev pub AnswersFit : Signatures → Play → List End → Type 0
AnswersFit sig p [] = Unit {0}
AnswersFit sig p (e ∷ es) = EndFits sig p e × AnswersFit sig (left_of p e) es

-- the play asks what is answered
abbrev pub WantsAnswer : Play → Type 0
WantsAnswer (MakesObject c k) = Unit {0}
WantsAnswer (SendsMessage o j xs p) = Unit {0}
WantsAnswer (CallsMethod r o j xs k) = Unit {0}
WantsAnswer (PrintsLine t p) = Unit {0}
WantsAnswer (EndsBody e) = ⊥
WantsAnswer GoesWrong = ⊥

-- the first n of a supply of answers
abbrev pub first_answers : ℕ → (ℕ → End) → List End
first_answers zero f = []
first_answers (suc n) f = f 0 ∷ first_answers n (λ k. f (suc k))

-- as long as the play asks, the supply has an answer that fits
abbrev pub SupplyFits : Signatures → Play → (ℕ → End) → Type 0
SupplyFits sig p f = (n : ℕ) → WantsAnswer (left_after p (first_answers n f)) → EndFits sig (left_after p (first_answers n f)) (f n)

-- after finitely many answers of the supply the play is at an end of this type
pub record EndsAfter (sig : Signatures) (r : Option StaticType) (p : Play) (f : ℕ → End) : Type 0 where
  pub count : ℕ
  pub end : End
  pub ends : left_after p (first_answers count f) ≡ EndsBody end
  pub good : Good sig r (EndsBody end)

-- A body that begins as it may comes to an end of its type after finitely many asks, whatever fits they are answered.
abbrev pub EachEnds : Type 0
EachEnds =
    (sig : Signatures) (p : Resolved) → AreWellTyped sig p → IsPlanned sig p → (limits : Limits) (s : Start) (d : ℕ) (r : Option StaticType) → StartFits sig p s r
    → (f : ℕ → End) → SupplyFits sig (play_of p limits s d) f → EndsAfter sig r (play_of p limits s d) f

-- A join machine is sound, and each of its chords has one to eight methods, all different and at most one of them synchronous.
pub record IsSoundMachine (program : Program) : Type 0 where
  pub sound : IsSound program
  pub chords : ChordsAreRight program

-- The join machine of a source whose bodies keep to their static types, and whose plan is as it must be, is a sound machine, whatever its limits.
abbrev pub MachinesAreSound : Type 0
MachinesAreSound = (sig : Signatures) (p : Resolved) → AreWellTyped sig p → IsPlanned sig p → (limits : Limits) → IsSoundMachine (source_program p limits)
