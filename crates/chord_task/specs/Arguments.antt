-- The arguments of several messages, each held twice.
use Rattle.std.specs.Prelude.{◌≡◌, ◌≤◌, ◌⊎◌, List, [], ◌∷◌, Option, Some, None, Vec, vec_capacity}
use Rattle.std.specs.Global.{Global}
use Rattle.chord_base.specs.declared.value.Value.{Value}
use Rattle.chord_base.specs.declared.value.Value.TheVariants as a_value
use Rattle.chord_vm.specs.Frames.{laid}
use Rattle.chord_task.specs.declared.args.Args.{Args}

-- the arguments for the entry of a firing, message by message
abbrev pub for_entry : List Args → List (List Value)
for_entry [] = []
for_entry (a ∷ as_) = a.first ∷ for_entry as_

-- the arguments for its body, message by message
abbrev pub for_body : List Args → List (List Value)
for_body [] = []
for_body (a ∷ as_) = a.second ∷ for_body as_

-- each message's arguments are held twice
abbrev pub AreTwice : List Args → Type 0
AreTwice [] = Unit {0}
AreTwice (a ∷ as_) = (a.second ≡ a.first) × AreTwice as_

-- an empty list, with room for the values of every entry
pub record IsRoomy (list : Vec Value Global) : Type 0 where
  pub bare : list.items ≡ []
  pub wide : 64 ≤ vec_capacity list

-- such a list is there
abbrev pub IsList : Option (Vec Value Global) → Type 0
IsList None = ⊥
IsList (Some list) = IsRoomy list

-- such a list may be there
abbrev pub MayBeList : Option (Vec Value Global) → Type 0
MayBeList None = Unit {0}
MayBeList (Some list) = IsRoomy list

-- the values before stand in the entry, or in the list
abbrev pub StandInOne : List Value → List Value → Type 0
StandInOne entry list = (list ≡ []) ⊎ (entry ≡ [])

-- at most one of these lists has values
abbrev pub HasOneAtMost : List (List Value) → Type 0
HasOneAtMost [] = Unit {0}
HasOneAtMost ([] ∷ rest) = HasOneAtMost rest
HasOneAtMost ((x ∷ xs) ∷ rest) = laid rest ≡ []

-- a number or an object
abbrev pub IsLone : Value → Type 0
IsLone a_value.Unit = ⊥
IsLone (a_value.Int i) = Unit {0}
IsLone (a_value.Flag b) = ⊥
IsLone (a_value.Text bytes) = ⊥
IsLone (a_value.Ref o) = Unit {0}

-- these arguments take no memory on their way: there is none, or a number or an object alone
abbrev pub AreInPlace : List Value → Type 0
AreInPlace [] = Unit {0}
AreInPlace (v ∷ []) = IsLone v
AreInPlace (v ∷ w ∷ vs) = ⊥
