-- What the types of an entry's parts hold of them: ints have 32 bits, and texts are at most 1,024 bytes.
use Rattle.std.specs.Prelude.{ℕ, ◌≤◌, List, [], ◌∷◌, length}
use Rattle.chord_base.specs.declared.value.Value as value
use Rattle.chord_base.specs.declared.value.Value.TheVariants as a_value
use Rattle.chord_base.specs.declared.event.End.{End}
use Rattle.chord_base.specs.declared.event.End.TheVariants.{Gives, Traps}
use Rattle.chord_base.specs.declared.event.What.{What}
use Rattle.chord_base.specs.declared.event.What.TheVariants.{Begun, Made, Sent, Called, Printed, Fired, Ended}
use Rattle.chord_base.specs.declared.event.Entry.{Entry}
use Rattle.chord_io.specs.Digits.{AreBytes, IsInt}

-- at most 1,024 bytes
pub record IsText (text : List ℕ) : Type 0 where
  pub few : length text ≤ 1024
  pub bytes : AreBytes text

-- an int of a value has 32 bits, and a text of it at most 1,024 bytes
abbrev pub IsTypedValue : value.Value → Type 0
IsTypedValue (a_value.Int n) = IsInt n
IsTypedValue (a_value.Text t) = IsText t
IsTypedValue a_value.Unit = Unit {0}
IsTypedValue (a_value.Flag b) = Unit {0}
IsTypedValue (a_value.Ref o) = Unit {0}

-- each of the values is so
abbrev pub AreTypedValues : List value.Value → Type 0
AreTypedValues [] = Unit {0}
AreTypedValues (v ∷ vs) = IsTypedValue v × AreTypedValues vs

-- the value of an end is so
abbrev pub IsTypedEnd : End → Type 0
IsTypedEnd (Gives v) = IsTypedValue v
IsTypedEnd (Traps t) = Unit {0}

-- what an entry says is so
abbrev pub IsTypedWhat : What → Type 0
IsTypedWhat (Sent o method values) = AreTypedValues values
IsTypedWhat (Called o method values) = AreTypedValues values
IsTypedWhat (Printed text) = IsText text
IsTypedWhat (Fired chord o members values) = AreTypedValues values
IsTypedWhat (Ended end) = IsTypedEnd end
IsTypedWhat Begun = Unit {0}
IsTypedWhat (Made class) = Unit {0}

-- each entry says what its types hold
abbrev pub AreTyped : List Entry → Type 0
AreTyped [] = Unit {0}
AreTyped (e ∷ es) = IsTypedWhat e.what × AreTyped es
