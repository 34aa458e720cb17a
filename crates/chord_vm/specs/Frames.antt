-- What the frames of a body stand for.
use Rattle.std.specs.Prelude.{◌≡◌, ◌⊎◌, ◌<◌, ◌≤◌, vec_len, vec_capacity, length, ℕ, suc, List, [], ◌∷◌, ◌++◌, Bool, true, false, Option, Some, None, map, reverse, slice_get}
use Rattle.chord_vm.specs.declared.frames.Frame as declared_frame
use Rattle.chord_vm.specs.declared.frames.Frames.{Frames}
use Rattle.chord_vm.specs.declared.ask.Ask.{Ask}
use Rattle.chord_vm.specs.declared.ask.Ask.TheVariants as ask
use Rattle.chord_vm.specs.declared.step.After.{After}
use Rattle.chord_vm.specs.declared.step.After.TheVariants as steps
use Rattle.chord_base.specs.declared.value.Value.{Value}
use Rattle.chord_base.specs.declared.operation.Operation.{Operation}
use Rattle.chord_base.specs.declared.operation.Operation.TheVariants as ops
use Rattle.chord_base.specs.declared.event.What.{What}
use Rattle.chord_base.specs.declared.event.What.TheVariants.{Made, Sent, Called, Printed, Ended}
use Rattle.chord_code.specs.declared.awaited.Awaited.{Awaited}
use Rattle.chord_code.specs.declared.awaited.Awaited.TheVariants.{ForNothing, ForValue, ForObject}
use Rattle.chord_code.specs.declared.parts.Parts.{Parts}
use Rattle.chord_code.specs.declared.parts.Block.{Block}
use Rattle.chord_code.specs.declared.instruction.Instruction.{Instruction}
use Rattle.chord_code.specs.declared.instruction.Instruction.TheVariants as instr
use Rattle.chord_code.specs.Slots.{IsMostSlots}
use Rattle.chord_code.specs.Machine.{Frame, Machine, Waiting, Did, Goes, Asking, fetch, pops, run, ComesTo}

-- a frame's stack grows at its end
abbrev pub shown_frame : declared_frame.Frame → Frame
shown_frame f = record { block = f.block; place = f.place; room = f.room; stack = reverse f.stack.items; slots = f.slots.items }

-- the machine of the frames
abbrev pub machine_of : Frames → Machine
machine_of f = record { top = shown_frame f.top; below = reverse (map shown_frame f.below.items); turns = f.turns }

-- the machine that waits for the answer of its ask
abbrev pub waiting_of : Frames → Waiting
waiting_of f = record { machine = machine_of f; awaited = f.awaited }

-- what an ask says, as the entry that it becomes
abbrev pub what_of_ask : Ask → What
what_of_ask (ask.Make c) = Made c
what_of_ask (ask.Send o j xs) = Sent o j xs
what_of_ask (ask.Call o j xs) = Called o j xs
what_of_ask (ask.Print t) = Printed t
what_of_ask (ask.End e) = Ended e

-- the ask that one instruction came to, if it came to one; nothing is said of the frames of a body that has ended
abbrev pub SteppedTo : Did → Option Ask → Frames → Type 0
SteppedTo d None f = ⊥
SteppedTo d (Some (ask.End e)) f = (w : Waiting) × (d ≡ Asking (Ended e) w)
SteppedTo d (Some (ask.Make c)) f = d ≡ Asking (Made c) (waiting_of f)
SteppedTo d (Some (ask.Send o j xs)) f = d ≡ Asking (Sent o j xs) (waiting_of f)
SteppedTo d (Some (ask.Call o j xs)) f = d ≡ Asking (Called o j xs) (waiting_of f)
SteppedTo d (Some (ask.Print t)) f = d ≡ Asking (Printed t) (waiting_of f)

-- after one instruction the body goes on, or its ask was put, or no memory was found
abbrev pub HasStepped : Did → After → Option Ask → Frames → Type 0
HasStepped d steps.Goes asked f = d ≡ Goes (machine_of f)
HasStepped d steps.Moves asked f = d ≡ Goes (machine_of f)
HasStepped d steps.Asks asked f = SteppedTo d asked f
HasStepped d steps.Fails asked f = Unit {0}

-- the instructions after which another block may be at work
abbrev pub changes_block : Instruction → Bool
changes_block (instr.Init c) = true
changes_block instr.Back = true
changes_block _ = false

-- The instructions that may take memory: those that push a value, by which the operands may need more room, that make a text or hand one on, that begin a builder, and those that send or call with several values. At no other does `step` fail for want of it, and so it tells no trap but that of a text that is too long as such a want. Of what runs through several instructions clauses say less: where it fails, the machine comes to one of these, and no clause says that it fails there.
abbrev pub takes_memory : Instruction → Bool
takes_memory (instr.Int n) = true
takes_memory (instr.Flag b) = true
takes_memory (instr.Text t) = true
takes_memory (instr.Load i) = true
takes_memory instr.Cat = true
takes_memory (instr.Init c) = true
takes_memory instr.Print = true
takes_memory (instr.Send j (suc (suc n))) = true
takes_memory (instr.Call j (suc (suc n))) = true
takes_memory _ = false

-- the machine comes to an instruction that may take memory
abbrev pub RunsOut : Parts → Machine → Type 0
RunsOut code m = (n : ℕ) × (k : Machine) × (i : Instruction) × (run code n m ≡ Goes k) × (fetch code k.top.block k.top.place ≡ Some i) × (takes_memory i ≡ true)

-- the instructions of a block, if it is there
abbrev pub instructions_of : Option Block → Option (List Instruction)
instructions_of None = None
instructions_of (Some b) = Some b.instructions

-- the instructions of the block of this number
abbrev pub instructions_in : Parts → ℕ → Option (List Instruction)
instructions_in code b = instructions_of (slice_get code.blocks b)

-- the frame at another place, with another stack and other slots
abbrev pub frame_with : Frame → ℕ → List Value → List Value → Frame
frame_with f p s vs = record { block = f.block; place = p; room = f.room; stack = s; slots = vs }

-- the operators of two numbers that give a value always
abbrev pub gives_always : Operation → Bool
gives_always ops.Add = true
gives_always ops.Subtract = true
gives_always ops.Multiply = true
gives_always ops.Less = true
gives_always ops.LessOrEqual = true
gives_always ops.Greater = true
gives_always ops.GreaterOrEqual = true
gives_always _ = false

-- the machine whose instruction pushed a value
abbrev pub with_pushed : Value → Machine → Machine
with_pushed v m = record { top = frame_with m.top (suc m.top.place) (v ∷ m.top.stack) m.top.slots; below = m.below; turns = m.turns }

-- the ask to which a machine comes, and the frames that wait for its answer
abbrev pub Advanced : Parts → Machine → Ask → Frames → Type 0
Advanced code m (ask.End e) f = (w : Waiting) × ComesTo code m (Ended e) w
Advanced code m (ask.Make c) f = ComesTo code m (Made c) (waiting_of f)
Advanced code m (ask.Send o j xs) f = ComesTo code m (Sent o j xs) (waiting_of f)
Advanced code m (ask.Call o j xs) f = ComesTo code m (Called o j xs) (waiting_of f)
Advanced code m (ask.Print t) f = ComesTo code m (Printed t) (waiting_of f)

-- the arguments of several messages, concatenated
abbrev pub laid : List (List Value) → List Value
laid [] = []
laid (xs ∷ rest) = xs ++ laid rest

-- the slots have room for this block's
abbrev pub IsSpacious : Frames → Option Block → Type 0
IsSpacious f None = ⊥
IsSpacious f (Some b) = b.slots ≤ vec_capacity f.top.slots

-- the frames have room for each block of the code
abbrev pub IsRoomFor : Parts → Frames → Type 0
IsRoomFor code f = (i : ℕ) (b : Block) → slice_get code.blocks i ≡ Some b → b.slots ≤ vec_capacity f.top.slots

-- frames that were just made, of no body: they have room for the slots of the largest block and no other, and hold nothing
abbrev pub AreBlank : Parts → Frames → Type 0
AreBlank code f = IsMostSlots code.blocks (vec_capacity f.top.slots) × (f.top.slots.items ≡ []) × (vec_capacity f.top.stack ≡ 0) × (vec_capacity f.below ≡ 0) × (f.builder ≡ None)

-- the frame is there, and its slots have room for so many values
abbrev pub HasRoom : Option declared_frame.Frame → ℕ → Type 0
HasRoom None n = ⊥
HasRoom (Some f) n = n ≤ vec_capacity f.slots

-- the frame of a block that is done is in stock: it holds nothing, and has the room that it had
abbrev pub IsInStock : declared_frame.Frame → Option declared_frame.Frame → Type 0
IsInStock f None = ⊥
IsInStock f (Some f') = (f'.stack.items ≡ []) × (f'.slots.items ≡ []) × (vec_capacity f'.stack ≡ vec_capacity f.stack) × (vec_capacity f'.slots ≡ vec_capacity f.slots)

-- there is room for the answer that is waited for
abbrev pub IsReady : Awaited → Frames → Type 0
IsReady ForNothing f = Unit {0}
IsReady ForValue f = vec_len f.top.stack < vec_capacity f.top.stack
IsReady (ForObject None n) f = vec_len f.top.stack < vec_capacity f.top.stack
IsReady (ForObject (Some b) n) f =
    (vec_len f.top.stack < vec_capacity f.top.stack) × (vec_len f.below < vec_capacity f.below) × HasRoom f.builder b.1

-- a builder's frame that was just made: it has room for so many slots, and for no operand
abbrev pub IsLeanBuilder : ℕ → Option declared_frame.Frame → Type 0
IsLeanBuilder n None = ⊥
IsLeanBuilder n (Some f) = (vec_capacity f.slots ≡ n) × (vec_capacity f.stack ≡ 0)

-- The builder's frame stays where it has room for what is awaited; where it has none, it stays or is made with that room and no more. Where no builder is awaited, it stays in any case, and so do the blocks that wait.
abbrev pub KeepsBuilder : Awaited → Frames → Frames → Type 0
KeepsBuilder ForNothing f f' = (f'.below ≡ f.below) × (f'.builder ≡ f.builder)
KeepsBuilder ForValue f f' = (f'.below ≡ f.below) × (f'.builder ≡ f.builder)
KeepsBuilder (ForObject None n) f f' = (f'.below ≡ f.below) × (f'.builder ≡ f.builder)
KeepsBuilder (ForObject (Some b) n) f f' = (HasRoom f.builder b.1 → f'.builder ≡ f.builder) × ((f'.builder ≡ f.builder) ⊎ IsLeanBuilder b.1 f'.builder)

-- slots and limits are as they were, and so are operands, blocks that wait and the builder's frame, where there was room for one more
pub record KeepsRoom (before after : Frames) : Type 0 where
  pub operands : vec_len before.top.stack < vec_capacity before.top.stack → after.top.stack ≡ before.top.stack
  pub blocks : vec_len before.below < vec_capacity before.below → after.below ≡ before.below
  pub slots : after.top.slots ≡ before.top.slots
  pub limits : after.limits ≡ before.limits
  pub builder : KeepsBuilder before.awaited before after

-- each list of the frames has as much room as before, and the builder's frame is as it was
abbrev pub KeepsLists : Frames → Frames → Type 0
KeepsLists f f' =
    (vec_capacity f'.top.slots ≡ vec_capacity f.top.slots) × (vec_capacity f'.top.stack ≡ vec_capacity f.top.stack) × (vec_capacity f'.below ≡ vec_capacity f.below) × (f'.builder ≡ f.builder)

-- where no builder begins, each list of the frames has as much room as before, and the builder's frame is as it was
abbrev pub KeepsUnbuilt : Awaited → Frames → Frames → Type 0
KeepsUnbuilt ForNothing f f' = KeepsLists f f'
KeepsUnbuilt ForValue f f' = KeepsLists f f'
KeepsUnbuilt (ForObject None n) f f' = KeepsLists f f'
KeepsUnbuilt (ForObject (Some b) n) f f' = Unit {0}

-- the n last values of one list went to the end of another
abbrev pub IsMoved : ℕ → List Value → List Value → List Value → List Value → Type 0
IsMoved n from from' to to' =
    (xs : List Value) × (to' ≡ to ++ xs) × ((acc : List Value) → pops n acc (reverse from) ≡ Some (xs ++ acc, reverse from'))
