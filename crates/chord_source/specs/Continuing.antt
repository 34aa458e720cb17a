-- What follows a part of a body, and the ways in which it is chosen.
use Rattle.std.specs.Prelude.{ℕ, zero, suc, List, true, false, Option, Some, None}
use Rattle.chord_base.specs.declared.value.Value.{Value}
use Rattle.chord_base.specs.declared.value.Value.TheVariants.{Unit, Flag, Ref}
use Rattle.chord_base.specs.declared.event.Trap.TheVariants.{OutOfTurns, TooDeep}
use Rattle.chord_base.specs.declared.event.End.TheVariants.{Gives, Traps}
use Rattle.chord_base.specs.Operators.{Computed, Is, Trapped, Mistyped}
use Rattle.chord_code.specs.Plays.{Play, SendsMessage, CallsMethod, EndsBody, GoesWrong}

-- what a body does next, from the values of its slots and the turns that it has left
abbrev pub Continuation : Type 0
Continuation = List Value → ℕ → Play

-- what `new` does with a class, its arguments, what follows from the object, and the turns that are left
abbrev pub Maker : Type 0
Maker = ℕ → List Value → (Value → ℕ → Play) → ℕ → Play

-- where `return` leads: to the end of the body, or in a constructor to what follows it
abbrev pub Leaving : Type 0
Leaving = Option (ℕ → Play)

-- a value that an operator gives goes on, and its trap ends the body
abbrev pub on_computed : Computed → (Value → Play) → Play
on_computed (Is v) k = k v
on_computed (Trapped t) k = EndsBody (Traps t)
on_computed Mistyped k = GoesWrong

-- what is there goes on
abbrev pub on_found : {A : Type 0} → Option A → (A → Play) → Play
on_found None k = GoesWrong
on_found (Some v) k = k v

-- the first way where a value is true, the second where it is false
abbrev pub branch : Value → Play → Play → Play
branch (Flag true) p q = p
branch (Flag false) p q = q
branch _ p q = GoesWrong

-- a message to an object
abbrev pub send_to : Value → ℕ → List Value → Play → Play
send_to (Ref o) j xs p = SendsMessage o j xs p
send_to _ j xs p = GoesWrong

-- at the depth limit there is no room for a call or a `new`: a trap
abbrev pub with_room : ℕ → Play → Play
with_room zero p = EndsBody (Traps TooDeep)
with_room (suc room) p = p

-- a call of an object's method, which looks at the room once its operands are there
abbrev pub call_on : ℕ → Value → ℕ → List Value → (Value → Play) → Play
call_on room (Ref o) j xs k = with_room room (CallsMethod room o j xs k)
call_on room _ j xs k = GoesWrong

-- a condition of `while` that came out true counts one turn: a trap where none is left
abbrev pub take_turn : ℕ → (ℕ → Play) → Play
take_turn zero k = EndsBody (Traps OutOfTurns)
take_turn (suc t) k = k t

-- `while`, tested at most so often: test, and where it is true take a turn, do the body and come back
abbrev pub rounds : ℕ → ((Value → Continuation) → Continuation) → (Continuation → Continuation) → Continuation → Continuation
rounds zero test body next vs t = GoesWrong
rounds (suc n) test body next vs t = test (λ v ws u. branch v (take_turn u (body (rounds n test body next) ws)) (next ws u)) vs t

-- `return` without a value, and the end of a body
abbrev pub return_nothing : Leaving → ℕ → Play
return_nothing None t = EndsBody (Gives Unit)
return_nothing (Some k) t = k t

-- `return` with a value, which a constructor has not
abbrev pub return_value : Leaving → Value → Play
return_value None v = EndsBody (Gives v)
return_value (Some k) v = GoesWrong
