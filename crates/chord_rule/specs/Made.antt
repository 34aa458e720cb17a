-- Objects: what an entry names was made before.
use Rattle.std.specs.Prelude.{◌≡◌, ◌⊎◌, ℕ, ◌+◌, ◌*◌, ◌^◌, ◌<◌, true, List, [], ◌∷◌, Some, slice_get}
use Rattle.chord_base.specs.declared.value.Object.{Object}
use Rattle.chord_base.specs.declared.value.Value as value
use Rattle.chord_base.specs.declared.value.Value.TheVariants as a_value
use Rattle.chord_base.specs.declared.event.End.{End}
use Rattle.chord_base.specs.declared.event.End.TheVariants.{Gives, Traps}
use Rattle.chord_base.specs.declared.event.What.{What}
use Rattle.chord_base.specs.declared.event.What.TheVariants.{Begun, Made, Sent, Called, Printed, Fired, Ended}
use Rattle.chord_base.specs.declared.event.Entry.{Entry}
use Rattle.chord_base.specs.Meaning.{Program, HasOneSync}
use Rattle.chord_base.specs.Messages.{has, AreDifferent}
use Rattle.chord_base.specs.Machine.{IsPast}
use Rattle.chord_base.specs.Story.{IsIn, IsSound}

-- the value is the object
abbrev pub ValueNames : value.Value → Object → Type 0
ValueNames (a_value.Ref q) o = q ≡ o
ValueNames _ o = ⊥

-- one of the values is the object
abbrev pub ValuesName : List value.Value → Object → Type 0
ValuesName [] o = ⊥
ValuesName (v ∷ vs) o = ValueNames v o ⊎ ValuesName vs o

-- the end gives the object
abbrev pub EndNames : End → Object → Type 0
EndNames (Gives v) o = ValueNames v o
EndNames (Traps t) o = ⊥

-- what an entry says names the object
abbrev pub Names : What → Object → Type 0
Names Begun o = ⊥
Names (Made c) o = ⊥
Names (Sent q j vs) o = (q ≡ o) ⊎ ValuesName vs o
Names (Called q j vs) o = (q ≡ o) ⊎ ValuesName vs o
Names (Printed t) o = ⊥
Names (Fired k q ms vs) o = (q ≡ o) ⊎ ValuesName vs o
Names (Ended x) o = EndNames x o

-- an entry of the history made the object, with its class
abbrev pub IsMade : List Entry → Object → Type 0
IsMade h o = (e : Entry) × IsIn e h × (e.number ≡ o.number) × (e.what ≡ Made o.class)

-- each object that an entry names was made before it
abbrev pub AreMade : List Entry → Type 0
AreMade [] = Unit {0}
AreMade (e ∷ h) = AreMade h × ((o : Object) → Names e.what o → IsMade h o)

-- what the table asks of a program
pub record IsTabled (p : Program) : Type 0 where
  pub sound : IsSound p
  pub one_sync : HasOneSync p
  pub some_method : (c k : ℕ) (js : List ℕ) → slice_get (p.chords c) k ≡ Some js → (j : ℕ) × (has j js ≡ true)
  pub different : (c k : ℕ) (js : List ℕ) → slice_get (p.chords c) k ≡ Some js → AreDifferent js
  pub few : (c k j : ℕ) (js : List ℕ) → slice_get (p.chords c) k ≡ Some js → has j js ≡ true → j < 16
  pub made : (h : List Entry) → IsPast p h → AreMade h

-- the number of the bag of a method of an object: below 2 ^ 20 the head, above it the class
abbrev pub key : Object → ℕ → ℕ
key o j = 16 * o.number + j + 2 ^ 20 * o.class

-- the bags of these methods of an object
abbrev pub bag_keys : Object → List ℕ → List ℕ
bag_keys o [] = []
bag_keys o (j ∷ js) = key o j ∷ bag_keys o js

-- the bag of a method of an object that was made
abbrev pub IsKey : List Entry → ℕ → Type 0
IsKey h k = (o : Object) × (j : ℕ) × IsMade h o × (o.number < 65536) × (j < 16) × (k ≡ key o j)

-- the bags of one chord on one object, whose number fits a bag
abbrev pub IsChord : Program → List ℕ → Type 0
IsChord p ks = (o : Object) × (k : ℕ) × (js : List ℕ) × (slice_get (p.chords o.class) k ≡ Some js) × (o.number < 65536) × (ks ≡ bag_keys o js)
