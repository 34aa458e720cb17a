-- What is popped off a stack, whose top comes first, and what fills slots.
use Rattle.std.specs.Prelude.{◌≡◌, ℕ, List, [], ◌∷◌, length, Bool, true, false, Option, Some, None, Vec, option_map}
use Rattle.std.specs.Global.{Global}
use Rattle.chord_base.specs.declared.value.Object.{Object}
use Rattle.chord_base.specs.declared.value.Value.{Value}
use Rattle.chord_base.specs.declared.value.Value.TheVariants as a_value
use Rattle.chord_code.specs.Machine.{pops}
use Rattle.chord_code.specs.Slots.{set_slot}

-- the value on top was popped, and the rest is left; there is none on an empty stack
abbrev pub IsTakenOff : List Value → Option Value → List Value → Type 0
IsTakenOff s None rest = s ≡ []
IsTakenOff s (Some v) rest = s ≡ v ∷ rest

-- so many values were popped, in the order in which they were pushed; there are none where the stack has fewer
abbrev pub AreTakenOff : ℕ → List Value → Option (Vec Value Global) → List Value → Type 0
AreTakenOff n s None rest = pops n [] s ≡ None
AreTakenOff n s (Some xs) rest = (pops n [] s ≡ Some (xs.items, rest)) × (length xs.items ≡ n)

-- the object that stands below the arguments of a message
abbrev pub receiver : List Value → Option (Object × List Value)
receiver (a_value.Ref o ∷ s) = Some (o, s)
receiver _ = None

-- the arguments of a message and the object below them were popped; there is no message where one of these is missing
abbrev pub IsMessagePopped : Option (List Value × List Value) → Option (Object × List Value) → List Value → Type 0
IsMessagePopped p (Some (o, xs)) rest = p ≡ Some (xs, a_value.Ref o ∷ rest)
IsMessagePopped None None rest = Unit {0}
IsMessagePopped (Some (xs, s)) None rest = receiver s ≡ None

-- slot i was set to a value, if it is there
abbrev pub IsSlotSet : ℕ → Value → List Value → Bool → List Value → Type 0
IsSlotSet i v slots true after = set_slot i v slots ≡ Some after
IsSlotSet i v slots false after = set_slot i v slots ≡ None

-- the values of slots that are there
abbrev pub items_if_there : Option (Vec Value Global) → Option (List Value)
items_if_there slots = option_map (λ v. v.items) slots

-- both operands are ints
abbrev pub are_numbers : Value → Value → Bool
are_numbers (a_value.Int m) (a_value.Int n) = true
are_numbers _ _ = false
