-- How a body of a join machine begins, how its asks may be answered, and when it has come to its end.
use Rattle.std.specs.Prelude.{◌≡◌, ℕ, List, Option, Some, None, slice_get}
use Rattle.chord_base.specs.Meaning.{Asked, Chord, Main, Program, Start}
use Rattle.chord_base.specs.Types.{Has, HaveAll, Signature, Signatures}
use Rattle.chord_base.specs.declared.event.End.{End}
use Rattle.chord_base.specs.declared.event.End.TheVariants.{Gives, Traps}
use Rattle.chord_base.specs.declared.event.What.{What}
use Rattle.chord_base.specs.declared.event.What.TheVariants.{Called, Ended, Made, Printed, Sent}
use Rattle.chord_base.specs.declared.static_type.StaticType.{StaticType}
use Rattle.chord_base.specs.declared.value.Object.{Object}
use Rattle.chord_base.specs.declared.value.Value.{Value}
use Rattle.chord_base.specs.declared.value.Value.TheVariants as a_value
use Rattle.chord_bodies.specs.Planned.{AreConcatenated, gives}
use Rattle.chord_source.specs.Laws.{first_answers}

-- The body of a chord begins on this object and these arguments, and is to give a value of this type: the chord is one of the object's class, each parameter of its methods, laid together, has an argument of its type, and the synchronous method, if there is one, has this result.
pub record ChordBegins (program : Program) (sig : Signatures) (chord : ℕ) (object : Object) (arguments : List Value) (result : Option StaticType) : Type 0 where
  pub methods : List ℕ
  pub is_chord : slice_get (program.chords object.class) chord ≡ Some methods
  pub parameters : List StaticType
  pub laid_together : AreConcatenated sig object.class methods parameters
  pub fit : HaveAll sig parameters arguments
  pub is_result : gives sig object.class methods result

-- a body begins so, and is to give a value of this type: that of `Main` gives none
abbrev pub BodyBegins : Program → Signatures → Start → Option StaticType → Type 0
BodyBegins program sig Main result = result ≡ None
BodyBegins program sig (Chord chord object arguments) result = ChordBegins program sig chord object arguments result

-- An answer fits an ask: an object of the class that is made; the unit value, where something is sent or printed; and for a call a value of its method's result type, or a trap. An end wants none.
abbrev pub FitsAsk : Signatures → What → End → Type 0
FitsAsk sig (Made class) (Gives (a_value.Ref object)) = object.class ≡ class
FitsAsk sig (Sent object method values) (Gives a_value.Unit) = Unit {0}
FitsAsk sig (Called object method values) (Gives value) = (called : Signature) × (sig.methods object.class method ≡ Some called) × Has sig called.result value
FitsAsk sig (Called object method values) (Traps trap) = Unit {0}
FitsAsk sig (Printed text) (Gives a_value.Unit) = Unit {0}
FitsAsk sig (Ended end) answer = Unit {0}
FitsAsk sig _ _ = ⊥

-- whatever a body that began so asks after the first answers of a supply, the next one fits it
abbrev pub AnswersEachAsk : Program → Signatures → Start → ℕ → (ℕ → End) → Type 0
AnswersEachAsk program sig start depth supply = (count : ℕ) (asked : Asked) → program.next start depth (first_answers count supply) ≡ Some asked → FitsAsk sig asked.what (supply count)

-- A body that began so comes to its end after finitely many answers of a supply. A value that it gives has this type.
pub record ComesToEnd (program : Program) (sig : Signatures) (start : Start) (depth : ℕ) (result : Option StaticType) (supply : ℕ → End) : Type 0 where
  pub count : ℕ
  pub asked : Asked
  pub asks : program.next start depth (first_answers count supply) ≡ Some asked
  pub end : End
  pub is_end : asked.what ≡ Ended end
  pub fits : (value : Value) → end ≡ Gives value → Has sig result value
