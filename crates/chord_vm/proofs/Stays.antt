-- Most instructions stay in their block.
use Rattle.std.proofs.Common.{◌≡◌, ℕ, zero, suc, List, [], ◌∷◌, true, false, Option, Some, None, refl, subst}
use Rattle.std.specs.Prelude.{slice_get}
use Rattle.chord_base.specs.declared.value.Value.{Value}
use Rattle.chord_base.specs.declared.value.Value.TheVariants as a_value
use Rattle.chord_base.specs.declared.operation.Operation.{Operation}
use Rattle.chord_base.specs.declared.operation.Operation.TheVariants as ops
use Rattle.chord_base.specs.Operators.{Computed, Is, Trapped, Mistyped, compute, negated, denied, text_of}
use Rattle.chord_code.specs.declared.instruction.Instruction.{Instruction}
use Rattle.chord_code.specs.declared.instruction.Instruction.TheVariants as instr
use Rattle.chord_code.specs.declared.parts.Parts.{Parts}
use Rattle.chord_code.specs.Slots.{set_slot}
use Rattle.chord_code.specs.Machine.{Machine, Did, Goes, Asking, Bad, act, loads, stores, store_top, operate, negates, denies, pushes, skips, turns_to, again, if_deeper, makes_object, builder_of, send_by, call_by, print_by, print_top, pop_top, end_with, pops}
use Rattle.chord_vm.specs.Frames.{changes_block}

-- where it goes on, this block is at work
abbrev Stays : Machine → Did → Type 0
Stays m (Goes n) = n.top.block ≡ m.top.block
Stays m (Asking a w) = Unit {0}
Stays m Bad = Unit {0}

-- a load
loads_stay : (m : Machine) (o : Option Value) → Stays m (loads m o)
loads_stay m None = tt
loads_stay m (Some v) = refl

-- new slots
stores_stay : (m : Machine) (s : List Value) (o : Option (List Value)) → Stays m (stores m s o)
stores_stay m s None = tt
stores_stay m s (Some vs) = refl

-- a store
store_stays : (i : ℕ) (m : Machine) (s : List Value) → Stays m (store_top i m s)
store_stays i m [] = tt
store_stays i m (v ∷ s) = stores_stay m s (set_slot i v m.top.slots)

-- a drop
pop_stays : (m : Machine) (s : List Value) → Stays m (pop_top m s)
pop_stays m [] = tt
pop_stays m (v ∷ s) = refl

-- a value that was computed
pushes_stay : (m : Machine) (s : List Value) (c : Computed) → Stays m (pushes m s c)
pushes_stay m s (Is v) = refl
pushes_stay m s (Trapped t) = tt
pushes_stay m s Mistyped = tt

-- unary `-`
negates_stay : (m : Machine) (s : List Value) → Stays m (negates m s)
negates_stay m [] = tt
negates_stay m (x ∷ s) = pushes_stay m s (negated x)

-- `!`
denies_stay : (m : Machine) (s : List Value) → Stays m (denies m s)
denies_stay m [] = tt
denies_stay m (x ∷ s) = pushes_stay m s (denied x)

-- an operator
operate_stays : (op : Operation) (m : Machine) (s : List Value) → Stays m (operate op m s)
operate_stays op m [] = tt
operate_stays op m (y ∷ []) = tt
operate_stays op m (y ∷ x ∷ s) = pushes_stay m s (compute op x y)

-- a jump on false
skips_stay : (a : ℕ) (m : Machine) (s : List Value) → Stays m (skips a m s)
skips_stay a m [] = tt
skips_stay a m (a_value.Unit ∷ s) = tt
skips_stay a m (a_value.Int n ∷ s) = tt
skips_stay a m (a_value.Text x ∷ s) = tt
skips_stay a m (a_value.Flag true ∷ s) = refl
skips_stay a m (a_value.Flag false ∷ s) = refl
skips_stay a m (a_value.Ref o ∷ s) = tt

-- a jump back that counts a turn
turns_stay : (a : ℕ) (m : Machine) (s : List Value) (t : ℕ) → Stays m (turns_to a m s t)
turns_stay a m s zero = tt
turns_stay a m s (suc t) = refl

-- a jump back on true
again_stays : (a : ℕ) (m : Machine) (s : List Value) → Stays m (again a m s)
again_stays a m [] = tt
again_stays a m (a_value.Unit ∷ s) = tt
again_stays a m (a_value.Int n ∷ s) = tt
again_stays a m (a_value.Text x ∷ s) = tt
again_stays a m (a_value.Flag true ∷ s) = turns_stay a m s m.turns
again_stays a m (a_value.Flag false ∷ s) = refl
again_stays a m (a_value.Ref o ∷ s) = tt

-- a `new` asks
makes_stay : (c n : ℕ) (m : Machine) (r : ℕ) (o : Option (Option (ℕ × ℕ))) → Stays m (if_deeper r m (makes_object c n m o))
makes_stay c n m zero o = tt
makes_stay c n m (suc r) None = tt
makes_stay c n m (suc r) (Some b) = tt

-- a message asks
send_stays : (j : ℕ) (m : Machine) (o : Option (List Value × List Value)) → Stays m (send_by j m o)
send_stays j m None = tt
send_stays j m (Some (xs, [])) = tt
send_stays j m (Some (xs, a_value.Unit ∷ s)) = tt
send_stays j m (Some (xs, a_value.Int n ∷ s)) = tt
send_stays j m (Some (xs, a_value.Text x ∷ s)) = tt
send_stays j m (Some (xs, a_value.Flag b ∷ s)) = tt
send_stays j m (Some (xs, a_value.Ref o ∷ s)) = tt

-- what asks does so where it may trap for depth
deeper_stays : (r : ℕ) (m : Machine) (d : Did) → Stays m d → Stays m (if_deeper r m d)
deeper_stays zero m d h = tt
deeper_stays (suc r) m d h = h

-- a call asks
call_stays : (j : ℕ) (m : Machine) (o : Option (List Value × List Value)) → Stays m (call_by j m o)
call_stays j m None = tt
call_stays j m (Some (xs, [])) = tt
call_stays j m (Some (xs, a_value.Unit ∷ s)) = tt
call_stays j m (Some (xs, a_value.Int n ∷ s)) = tt
call_stays j m (Some (xs, a_value.Text x ∷ s)) = tt
call_stays j m (Some (xs, a_value.Flag b ∷ s)) = tt
call_stays j m (Some (xs, a_value.Ref o ∷ s)) = deeper_stays m.top.room m _ tt

-- a line is asked
line_stays : (m : Machine) (s : List Value) (o : Option (List ℕ)) → Stays m (print_by m s o)
line_stays m s None = tt
line_stays m s (Some t) = tt

-- `print`
print_stays : (m : Machine) (s : List Value) → Stays m (print_top m s)
print_stays m [] = tt
print_stays m (v ∷ s) = line_stays m s (text_of v)

-- `endv`
end_stays : (m : Machine) (s : List Value) → Stays m (end_with m s)
end_stays m [] = tt
end_stays m (v ∷ s) = tt

-- no is not yes
never : true ≡ false → ⊥
never e = cc

-- an instruction that changes no block
act_stays : (code : Parts) (m : Machine) (i : Instruction) → changes_block i ≡ false → Stays m (act code (Some i) m)
act_stays code m (instr.Int n) e = loads_stay m (Some (a_value.Int n))
act_stays code m (instr.Text x) e = loads_stay m (Some (a_value.Text x))
act_stays code m (instr.Flag b) e = loads_stay m (Some (a_value.Flag b))
act_stays code m (instr.Load i) e = loads_stay m (slice_get m.top.slots i)
act_stays code m (instr.Store i) e = store_stays i m m.top.stack
act_stays code m instr.Drop e = pop_stays m m.top.stack
act_stays code m instr.Neg e = negates_stay m m.top.stack
act_stays code m instr.Not e = denies_stay m m.top.stack
act_stays code m instr.Add e = operate_stays ops.Add m m.top.stack
act_stays code m instr.Sub e = operate_stays ops.Subtract m m.top.stack
act_stays code m instr.Mul e = operate_stays ops.Multiply m m.top.stack
act_stays code m instr.Div e = operate_stays ops.Divide m m.top.stack
act_stays code m instr.Rem e = operate_stays ops.Remainder m m.top.stack
act_stays code m instr.Cat e = operate_stays ops.Join m m.top.stack
act_stays code m instr.Eq e = operate_stays ops.Equal m m.top.stack
act_stays code m instr.Ne e = operate_stays ops.NotEqual m m.top.stack
act_stays code m instr.Lt e = operate_stays ops.Less m m.top.stack
act_stays code m instr.Le e = operate_stays ops.LessOrEqual m m.top.stack
act_stays code m instr.Gt e = operate_stays ops.Greater m m.top.stack
act_stays code m instr.Ge e = operate_stays ops.GreaterOrEqual m m.top.stack
act_stays code m (instr.Jump a) e = refl
act_stays code m (instr.Skip a) e = skips_stay a m m.top.stack
act_stays code m (instr.Again a) e = again_stays a m m.top.stack
act_stays code m (instr.New c n) e = makes_stay c n m m.top.room (builder_of code c)
act_stays code m (instr.Init c) e = absurd (never e)
act_stays code m (instr.Send j n) e = send_stays j m (pops n [] m.top.stack)
act_stays code m (instr.Call j n) e = call_stays j m (pops n [] m.top.stack)
act_stays code m instr.Print e = print_stays m m.top.stack
act_stays code m instr.End e = tt
act_stays code m instr.Endv e = end_stays m m.top.stack
act_stays code m instr.Back e = absurd (never e)

-- an instruction that changes no block goes on in its block
pub stays : (code : Parts) (m n : Machine) (i : Instruction) → changes_block i ≡ false → act code (Some i) m ≡ Goes n → n.top.block ≡ m.top.block
stays code m n i c e = subst (Stays m) e (act_stays code m i c)
