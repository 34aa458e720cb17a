-- The bounds of a journal's parts. Texts, ints and lists are within theirs by their types.
use Rattle.std.specs.Prelude.{◌≡◌, ℕ, ◌<◌, ◌≤◌, List, [], ◌∷◌, length, reverse}
use Rattle.chord_base.specs.declared.value.Object.{Object}
use Rattle.chord_base.specs.declared.value.Value as value
use Rattle.chord_base.specs.declared.value.Value.TheVariants as a_value
use Rattle.chord_base.specs.declared.event.End.{End}
use Rattle.chord_base.specs.declared.event.End.TheVariants.{Gives, Traps}
use Rattle.chord_base.specs.declared.event.What.{What}
use Rattle.chord_base.specs.declared.event.What.TheVariants.{Begun, Made, Sent, Called, Printed, Fired, Ended}
use Rattle.chord_base.specs.declared.event.Entry.{Entry}

-- an object's number is below 65,536 and its class below 1,024
pub record IsObjectWithin (o : Object) : Type 0 where
  pub number : o.number < 65536
  pub class : o.class < 1024

-- the object that a value refers to is within its bounds
abbrev pub IsValueWithin : value.Value → Type 0
IsValueWithin (a_value.Ref o) = IsObjectWithin o
IsValueWithin a_value.Unit = Unit {0}
IsValueWithin (a_value.Int n) = Unit {0}
IsValueWithin (a_value.Flag b) = Unit {0}
IsValueWithin (a_value.Text t) = Unit {0}

-- each value is within its bounds
abbrev pub AreValuesWithin : List value.Value → Type 0
AreValuesWithin [] = Unit {0}
AreValuesWithin (v ∷ vs) = IsValueWithin v × AreValuesWithin vs

-- each number is below 65,536
abbrev pub AreNumbersWithin : List ℕ → Type 0
AreNumbersWithin [] = Unit {0}
AreNumbersWithin (n ∷ ns) = (n < 65536) × AreNumbersWithin ns

-- a message has a method below 16 and at most eight values
pub record IsMessageWithin (o : Object) (j : ℕ) (vs : List value.Value) : Type 0 where
  pub object : IsObjectWithin o
  pub method : j < 16
  pub few : length vs ≤ 8
  pub values : AreValuesWithin vs

-- a firing has a chord below 256, one to eight members, and at most 64 values
pub record IsFiringWithin (k : ℕ) (o : Object) (ms : List ℕ) (vs : List value.Value) : Type 0 where
  pub chord : k < 256
  pub object : IsObjectWithin o
  pub some : 0 < length ms
  pub few_members : length ms ≤ 8
  pub members : AreNumbersWithin ms
  pub few_values : length vs ≤ 64
  pub values : AreValuesWithin vs

-- the value of an end is within its bounds
abbrev pub IsEndWithin : End → Type 0
IsEndWithin (Gives v) = IsValueWithin v
IsEndWithin (Traps t) = Unit {0}

-- what an entry says is within its bounds
abbrev pub IsWhatWithin : What → Type 0
IsWhatWithin Begun = Unit {0}
IsWhatWithin (Made c) = c < 1024
IsWhatWithin (Sent o j vs) = IsMessageWithin o j vs
IsWhatWithin (Called o j vs) = IsMessageWithin o j vs
IsWhatWithin (Printed t) = Unit {0}
IsWhatWithin (Fired k o ms vs) = IsFiringWithin k o ms vs
IsWhatWithin (Ended x) = IsEndWithin x

-- of a history: each entry has the number of its place and is within its bounds
abbrev pub AreWithin : List Entry → Type 0
AreWithin [] = Unit {0}
AreWithin (e ∷ h) = AreWithin h × (e.number ≡ length h) × (e.body < 65536) × IsWhatWithin e.what

-- a journal: at most 65,536 entries, each with the number of its place and within its bounds
pub record IsJournal (entries : List Entry) : Type 0 where
  pub few : length entries ≤ 65536
  pub within : AreWithin (reverse entries)
