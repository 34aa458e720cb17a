-- What the instructions of a code do.
use Rattle.std.specs.Prelude.{◌≡◌, ◌<◌, ℕ, zero, suc, List, [], ◌∷◌, true, false, Option, Some, None, slice_get}
use Rattle.chord_base.specs.declared.value.Object.{Object}
use Rattle.chord_base.specs.declared.value.Value.{Value}
use Rattle.chord_base.specs.declared.value.Value.TheVariants as a_value
use Rattle.chord_base.specs.declared.event.Trap.TheVariants.{OutOfTurns, TooDeep}
use Rattle.chord_base.specs.declared.event.End.{End}
use Rattle.chord_base.specs.declared.event.End.TheVariants.{Gives, Traps}
use Rattle.chord_base.specs.declared.event.What.{What}
use Rattle.chord_base.specs.declared.event.What.TheVariants.{Made, Sent, Called, Printed, Ended}
use Rattle.chord_code.specs.declared.instruction.Instruction.{Instruction}
use Rattle.chord_base.specs.declared.operation.Operation.{Operation}
use Rattle.chord_base.specs.declared.operation.Operation.TheVariants as ops
use Rattle.chord_code.specs.declared.instruction.Instruction.TheVariants as instr
use Rattle.chord_code.specs.declared.parts.Block.{Block}
use Rattle.chord_code.specs.declared.parts.ClassLine.{ClassLine}
use Rattle.chord_code.specs.declared.parts.Parts.{Parts}
use Rattle.chord_code.specs.declared.awaited.Awaited.{Awaited}
use Rattle.chord_code.specs.declared.awaited.Awaited.TheVariants.{ForNothing, ForValue, ForObject}
use Rattle.chord_base.specs.Operators.{Computed, Is, Trapped, Mistyped, compute, negated, denied, text_of}
use Rattle.chord_code.specs.Slots.{first_slots, set_slot}

-- a block at work: its place, the room below the depth limit, its stack with the top first, and its slots
pub record Frame : Type 0 where
  pub block : ℕ
  pub place : ℕ
  pub room : ℕ
  pub stack : List Value
  pub slots : List Value

-- the block at work, those that wait for it, and the turns that are left
pub record Machine : Type 0 where
  pub top : Frame
  pub below : List Frame
  pub turns : ℕ

-- a machine that waits for an answer
pub record Waiting : Type 0 where
  pub machine : Machine
  pub awaited : Awaited

-- what one instruction comes to
pub data Did : Type 0 where
  Goes : Machine → Did
  Asking : What → Waiting → Did
  Bad : Did

-- the instruction of a block at a place
abbrev pub instr_in : Option Block → ℕ → Option Instruction
instr_in None p = None
instr_in (Some b) p = slice_get b.instructions p

-- the instruction of the block of this number at a place
abbrev pub fetch : Parts → ℕ → ℕ → Option Instruction
fetch code b p = instr_in (slice_get code.blocks b) p

-- the block and the slots of the builder of a class: None where there is no such class or block
abbrev pub builder_in : Option Block → ℕ → Option (Option (ℕ × ℕ))
builder_in None b = None
builder_in (Some block) b = Some (Some (b, block.slots))

-- the builder of this block, if the class has one
abbrev pub builder_by : Parts → Option ℕ → Option (Option (ℕ × ℕ))
builder_by code None = Some None
builder_by code (Some b) = builder_in (slice_get code.blocks b) b

-- the builder of a class that may be there
abbrev pub builder_of_line : Parts → Option ClassLine → Option (Option (ℕ × ℕ))
builder_of_line code None = None
builder_of_line code (Some c) = builder_by code c.builder

-- the builder of the class of this number: a block and its slots; none in it where the class has none
abbrev pub builder_of : Parts → ℕ → Option (Option (ℕ × ℕ))
builder_of code c = builder_of_line code (slice_get code.classes c)

-- the machine with another place, stack, slots or turns
abbrev pub with_top : Machine → ℕ → List Value → List Value → ℕ → Machine
with_top m p s vs t = record {
  top = record { block = m.top.block; place = p; room = m.top.room; stack = s; slots = vs };
  below = m.below;
  turns = t;
}

-- at place p with stack s
abbrev pub goes : Machine → ℕ → List Value → Did
goes m p s = Goes (with_top m p s m.top.slots m.turns)

-- the body asks its end
abbrev pub ends : Machine → End → Did
ends m e = Asking (Ended e) (record { machine = m; awaited = ForNothing })

-- at the next place with stack s, once it is answered
abbrev pub asks : Machine → What → Awaited → List Value → Did
asks m a w s = Asking a (record { machine = with_top m (suc m.top.place) s m.top.slots m.turns; awaited = w })

-- the value of an operator is pushed, and its trap ends the body
abbrev pub pushes : Machine → List Value → Computed → Did
pushes m s (Is v) = goes m (suc m.top.place) (v ∷ s)
pushes m s (Trapped t) = ends m (Traps t)
pushes m s Mistyped = Bad

-- the n topmost values in the order in which they were pushed, before others, and the rest of the stack
abbrev pub pops : ℕ → List Value → List Value → Option (List Value × List Value)
pops zero xs s = Some (xs, s)
pops (suc n) xs [] = None
pops (suc n) xs (x ∷ s) = pops n (x ∷ xs) s

-- a value is pushed, if it is there
abbrev pub loads : Machine → Option Value → Did
loads m None = Bad
loads m (Some v) = goes m (suc m.top.place) (v ∷ m.top.stack)

-- the slots are these, if they are there
abbrev pub stores : Machine → List Value → Option (List Value) → Did
stores m s None = Bad
stores m s (Some vs) = Goes (with_top m (suc m.top.place) s vs m.turns)

-- the value on top goes to a slot
abbrev pub store_top : ℕ → Machine → List Value → Did
store_top i m [] = Bad
store_top i m (v ∷ s) = stores m s (set_slot i v m.top.slots)

-- the right operand stands on top of the left one
abbrev pub operate : Operation → Machine → List Value → Did
operate op m (y ∷ x ∷ s) = pushes m s (compute op x y)
operate op m _ = Bad

-- unary `-` of the value on top
abbrev pub negates : Machine → List Value → Did
negates m [] = Bad
negates m (x ∷ s) = pushes m s (negated x)

-- `!` of the value on top
abbrev pub denies : Machine → List Value → Did
denies m [] = Bad
denies m (x ∷ s) = pushes m s (denied x)

-- a jump where the value on top is false
abbrev pub skips : ℕ → Machine → List Value → Did
skips a m (a_value.Flag true ∷ s) = goes m (suc m.top.place) s
skips a m (a_value.Flag false ∷ s) = goes m a s
skips a m _ = Bad

-- a jump back that counts one turn, where one is left
abbrev pub turns_to : ℕ → Machine → List Value → ℕ → Did
turns_to a m s zero = ends m (Traps OutOfTurns)
turns_to a m s (suc t) = Goes (with_top m a s m.top.slots t)

-- a jump back where the value on top is true
abbrev pub again : ℕ → Machine → List Value → Did
again a m (a_value.Flag true ∷ s) = turns_to a m s m.turns
again a m (a_value.Flag false ∷ s) = goes m (suc m.top.place) s
again a m _ = Bad

-- a trap where no room is left below the depth limit
abbrev pub if_deeper : ℕ → Machine → Did → Did
if_deeper zero m d = ends m (Traps TooDeep)
if_deeper (suc room) m d = d

-- the object comes at its answer, so the arguments stay on the stack until then
abbrev pub makes_object : ℕ → ℕ → Machine → Option (Option (ℕ × ℕ)) → Did
makes_object c n m None = Bad
makes_object c n m (Some b) =
    Asking (Made c) (record { machine = with_top m (suc m.top.place) m.top.stack m.top.slots m.turns; awaited = ForObject b n })

-- a message to the receiver that stands below the arguments
abbrev pub send_by : ℕ → Machine → Option (List Value × List Value) → Did
send_by j m None = Bad
send_by j m (Some (xs, [])) = Bad
send_by j m (Some (xs, a_value.Ref o ∷ s)) = asks m (Sent o j xs) ForNothing s
send_by j m (Some (xs, _ ∷ s)) = Bad

-- a call of the receiver that stands below the arguments; these are looked at before the depth
abbrev pub call_by : ℕ → Machine → Option (List Value × List Value) → Did
call_by j m None = Bad
call_by j m (Some (xs, [])) = Bad
call_by j m (Some (xs, a_value.Ref o ∷ s)) = if_deeper m.top.room m (asks m (Called o j xs) ForValue s)
call_by j m (Some (xs, _ ∷ s)) = Bad

-- a line with this text, if the value has one
abbrev pub print_by : Machine → List Value → Option (List ℕ) → Did
print_by m s None = Bad
print_by m s (Some t) = asks m (Printed t) ForNothing s

-- a line with the text of the value on top
abbrev pub print_top : Machine → List Value → Did
print_top m [] = Bad
print_top m (v ∷ s) = print_by m s (text_of v)

-- the value on top is dropped
abbrev pub pop_top : Machine → List Value → Did
pop_top m [] = Bad
pop_top m (v ∷ s) = goes m (suc m.top.place) s

-- the body ends with the value on top
abbrev pub end_with : Machine → List Value → Did
end_with m [] = Bad
end_with m (v ∷ s) = ends m (Gives v)

-- the block that waits goes on
abbrev pub goes_back : Machine → List Frame → Did
goes_back m [] = Bad
goes_back m (f ∷ fs) = Goes (record { top = f; below = fs; turns = m.turns })

-- a block begins with these values
abbrev pub begins_block : ℕ → ℕ → ℕ → List Frame → Option (List Value) → Option Machine
begins_block b room t below None = None
begins_block b room t below (Some vs) =
    Some (record { top = record { block = b; place = 0; room = room; stack = []; slots = vs }; below = below; turns = t })

-- a block begins, if its slots suffice
abbrev pub enters : Option Machine → Did
enters None = Bad
enters (Some m) = Goes m

-- the frame that waits at the next place
abbrev pub next_place : Frame → Frame
next_place f = record { block = f.block; place = suc f.place; room = f.room; stack = f.stack; slots = f.slots }

-- a builder begins on this value, no deeper; the block at work waits at its next place
abbrev pub init_by : Machine → Option Value → Option (Option (ℕ × ℕ)) → Did
init_by m None b = Bad
init_by m (Some v) None = Bad
init_by m (Some v) (Some None) = Bad
init_by m (Some v) (Some (Some b)) = enters (begins_block b.0 m.top.room m.turns (next_place m.top ∷ m.below) (first_slots b.1 (v ∷ [])))

-- what one instruction comes to
abbrev pub act : Parts → Option Instruction → Machine → Did
act code None m = Bad
act code (Some (instr.Int n)) m = loads m (Some (a_value.Int n))
act code (Some (instr.Text t)) m = loads m (Some (a_value.Text t))
act code (Some (instr.Flag b)) m = loads m (Some (a_value.Flag b))
act code (Some (instr.Load i)) m = loads m (slice_get m.top.slots i)
act code (Some (instr.Store i)) m = store_top i m m.top.stack
act code (Some instr.Drop) m = pop_top m m.top.stack
act code (Some instr.Neg) m = negates m m.top.stack
act code (Some instr.Not) m = denies m m.top.stack
act code (Some instr.Add) m = operate ops.Add m m.top.stack
act code (Some instr.Sub) m = operate ops.Subtract m m.top.stack
act code (Some instr.Mul) m = operate ops.Multiply m m.top.stack
act code (Some instr.Div) m = operate ops.Divide m m.top.stack
act code (Some instr.Rem) m = operate ops.Remainder m m.top.stack
act code (Some instr.Cat) m = operate ops.Join m m.top.stack
act code (Some instr.Eq) m = operate ops.Equal m m.top.stack
act code (Some instr.Ne) m = operate ops.NotEqual m m.top.stack
act code (Some instr.Lt) m = operate ops.Less m m.top.stack
act code (Some instr.Le) m = operate ops.LessOrEqual m m.top.stack
act code (Some instr.Gt) m = operate ops.Greater m m.top.stack
act code (Some instr.Ge) m = operate ops.GreaterOrEqual m m.top.stack
act code (Some (instr.Jump a)) m = goes m a m.top.stack
act code (Some (instr.Skip a)) m = skips a m m.top.stack
act code (Some (instr.Again a)) m = again a m m.top.stack
act code (Some (instr.New c n)) m = if_deeper m.top.room m (makes_object c n m (builder_of code c))
act code (Some (instr.Init c)) m = init_by m (slice_get m.top.slots 0) (builder_of code c)
act code (Some (instr.Send j n)) m = send_by j m (pops n [] m.top.stack)
act code (Some (instr.Call j n)) m = call_by j m (pops n [] m.top.stack)
act code (Some instr.Print) m = print_top m m.top.stack
act code (Some instr.End) m = ends m (Gives a_value.Unit)
act code (Some instr.Endv) m = end_with m m.top.stack
act code (Some instr.Back) m = goes_back m m.below

-- what the instruction at the machine's place comes to
abbrev pub step : Parts → Machine → Did
step code m = act code (fetch code m.top.block m.top.place) m

-- what comes after an instruction that goes on
abbrev pub goes_on : (Machine → Did) → Did → Did
goes_on f (Goes m) = f m
goes_on f (Asking a w) = Asking a w
goes_on f Bad = Bad

-- at most n instructions
abbrev pub run : Parts → ℕ → Machine → Did
run code zero m = Goes m
run code (suc n) m = goes_on (run code n) (step code m)

-- the machine goes on to this ask
pub record ComesTo (code : Parts) (m : Machine) (a : What) (w : Waiting) : Type 0 where
  pub count : ℕ
  pub by : run code count m ≡ Asking a w

-- the frame with another stack
abbrev pub with_stack : Frame → List Value → Frame
with_stack f s = record { block = f.block; place = f.place; room = f.room; stack = s; slots = f.slots }

-- the machine with a value on its stack
abbrev pub pushed : Machine → Value → List Value → Machine
pushed m v s = record { top = with_stack m.top (v ∷ s); below = m.below; turns = m.turns }

-- one less, and nothing of nothing
abbrev pub pred_of : ℕ → ℕ
pred_of zero = 0
pred_of (suc n) = n

-- the machine with the new object: its arguments are popped, it is pushed, and its builder begins one deeper
abbrev pub with_object : Machine → Option (ℕ × ℕ) → Object → Option (List Value × List Value) → Option Machine
with_object m b o None = None
with_object m None o (Some (xs, s)) = Some (pushed m (a_value.Ref o) s)
with_object m (Some (b, n)) o (Some (xs, s)) =
    begins_block b (pred_of m.top.room) m.turns (with_stack m.top (a_value.Ref o ∷ s) ∷ m.below) (first_slots n (a_value.Ref o ∷ xs))

-- the machine once it is answered by a value; a call that ended by a trap ends the body, and so the machine does not go on
abbrev pub with_answer : Machine → Awaited → Value → Option Machine
with_answer m ForNothing v = Some m
with_answer m ForValue v = Some (pushed m v m.top.stack)
with_answer m (ForObject b n) (a_value.Ref o) = with_object m b o (pops n [] m.top.stack)
with_answer m (ForObject b n) _ = None

-- a body begins in a block that may be there
abbrev pub body_in : Option Block → ℕ → ℕ → List Value → ℕ → Option Machine
body_in None b room xs t = None
body_in (Some block) b room xs t = begins_block b room t [] (first_slots block.slots xs)

-- a body begins in block b
abbrev pub body_in_block : Parts → ℕ → ℕ → List Value → ℕ → Option Machine
body_in_block code b room xs t = body_in (slice_get code.blocks b) b room xs t

-- the machine comes to an ask
pub record ComesToAsk (code : Parts) (m : Machine) : Type 0 where
  pub ask : What
  pub waiting : Waiting
  pub comes : ComesTo code m ask waiting

-- jumps go forward, but for those of loops
pub record IsForward (code : Parts) : Type 0 where
  pub jumps : (b p a : ℕ) → fetch code b p ≡ Some (instr.Jump a) → p < a
  pub skips : (b p a : ℕ) → fetch code b p ≡ Some (instr.Skip a) → p < a
  pub inits : (b p c k n : ℕ) → fetch code b p ≡ Some (instr.Init c) → builder_of code c ≡ Some (Some (k, n)) → k < b
