-- A code asks only of objects that its bodies were given, and within the bounds of its instructions.
use Rattle.std.proofs.Common.{◌≡◌, ℕ, zero, suc, ◌+◌, ◌-◌, ◌<◌, ◌≤◌, List, [], ◌∷◌, ◌++◌, Bool, true, false, Option, Some, None, length, refl, subst, arith, ℤ, pos, negsuc}
use Rattle.std.specs.Prelude.{slice_get, nat_lt, cond, not}
use Rattle.chord_base.specs.declared.event.Trap.TheVariants.{TextTooLong}
use Rattle.chord_base.specs.declared.value.Object.{Object}
use Rattle.chord_base.specs.declared.value.Value.{Value}
use Rattle.chord_base.specs.declared.value.Value.TheVariants as a_value
use Rattle.chord_base.specs.declared.event.Trap.{Trap}
use Rattle.chord_base.specs.declared.event.End.{End}
use Rattle.chord_base.specs.declared.event.End.TheVariants.{Gives, Traps}
use Rattle.chord_base.specs.declared.event.What.{What}
use Rattle.chord_base.specs.declared.event.Limits.{Limits}
use Rattle.chord_base.specs.Meaning.{Start, Main, Chord, Asked}
use Rattle.chord_base.specs.Objects.{ValueAmong, ValuesAmong, EndAmong, EndsAmong, StartAmong, WhatAmong, IsTame}
use Rattle.chord_base.specs.declared.operation.Operation.{Operation}
use Rattle.chord_base.specs.declared.operation.Operation.TheVariants as ops
use Rattle.chord_code.specs.declared.instruction.Instruction.{Instruction}
use Rattle.chord_code.specs.declared.instruction.Instruction.TheVariants as instr
use Rattle.chord_code.specs.declared.parts.Block.{Block}
use Rattle.chord_code.specs.declared.parts.ChordLine.{ChordLine}
use Rattle.chord_code.specs.declared.parts.Parts.{Parts}
use Rattle.chord_code.specs.declared.awaited.Awaited.{Awaited}
use Rattle.chord_code.specs.declared.awaited.Awaited.TheVariants.{ForNothing, ForValue, ForObject}
use Rattle.chord_base.specs.Operators.{Computed, Is, Trapped, Mistyped, compute, negated, denied, text_of, of_ints, unless_zero, joined, compared}
use Rattle.chord_code.specs.Slots.{with_first, set_slot, first_slots}
use Rattle.chord_code.specs.Machine
use Rattle.chord_code.specs.Fuel.{weight, comes_to}
use Rattle.chord_code.specs.Meaning.{Point, At, FailsBy, Lost, point_of, failed, reply, reply_to, point_replied, points, asked_at, asked_of, chord_lines, start_line, begins, stands, code_program}
use Rattle.chord_code.specs.Within.{IsInstructionWithin, IsCodeWithin, IsAskWithin}

-- ---- what is among the objects

-- the objects of a frame's stack and slots are all among these
abbrev FrameAmong : (Object → Bool) → Machine.Frame → Type 0
FrameAmong f x = ValuesAmong f x.stack × ValuesAmong f x.slots

-- the objects of these frames are all among these
abbrev FramesAmong : (Object → Bool) → List Machine.Frame → Type 0
FramesAmong f [] = Unit {0}
FramesAmong f (x ∷ xs) = FrameAmong f x × FramesAmong f xs

-- the objects of a machine's frames are all among these
abbrev MachineAmong : (Object → Bool) → Machine.Machine → Type 0
MachineAmong f m = FrameAmong f m.top × FramesAmong f m.below

-- an ask is among them too, and within its bounds
abbrev DidAmong : (Object → Bool) → Machine.Did → Type 0
DidAmong f (Machine.Goes m) = MachineAmong f m
DidAmong f (Machine.Asking a w) = WhatAmong f a × IsAskWithin a × MachineAmong f w.machine
DidAmong f Machine.Bad = Unit {0}

-- the object of a value, if one is there, is among these
abbrev SomeAmong : (Object → Bool) → Option Value → Type 0
SomeAmong f None = Unit {0}
SomeAmong f (Some v) = ValueAmong f v

-- the objects of values, if any are there, are all among these
abbrev ListAmong : (Object → Bool) → Option (List Value) → Type 0
ListAmong f None = Unit {0}
ListAmong f (Some vs) = ValuesAmong f vs

-- the objects of a machine, if one is there, are all among these
abbrev StartedAmong : (Object → Bool) → Option Machine.Machine → Type 0
StartedAmong f None = Unit {0}
StartedAmong f (Some m) = MachineAmong f m

-- the object of what is computed, if it is a value, is among these
abbrev ComputedAmong : (Object → Bool) → Computed → Type 0
ComputedAmong f (Is v) = ValueAmong f v
ComputedAmong f (Trapped t) = Unit {0}
ComputedAmong f Mistyped = Unit {0}

-- so many values were popped
abbrev PopsAmong : (Object → Bool) → ℕ → Option (List Value × List Value) → Type 0
PopsAmong f k None = Unit {0}
PopsAmong f k (Some (xs, s)) = ValuesAmong f xs × ValuesAmong f s × (length xs ≡ k)

-- ---- values

-- where the objects of values are among these, so is that of the value at each place
get_among : (f : Object → Bool) (vs : List Value) (i : ℕ) → ValuesAmong f vs → SomeAmong f (slice_get vs i)
get_among f [] i a = tt
get_among f (v ∷ vs) zero a = a.0
get_among f (v ∷ vs) (suc i) a = get_among f vs i a.1

-- where the objects of a value and of others are among these, so are those of the value before the others
first_among : (f : Object → Bool) (x : Value) (o : Option (List Value)) → ValueAmong f x → ListAmong f o → ListAmong f (with_first x o)
first_among f x None a b = tt
first_among f x (Some xs) a b = (a, b)

-- where the objects of values are among these, so are those of the slots that begin with them
slots_among : (f : Object → Bool) (n : ℕ) (xs : List Value) → ValuesAmong f xs → ListAmong f (first_slots n xs)
slots_among f zero [] a = tt
slots_among f zero (x ∷ xs) a = tt
slots_among f (suc n) [] a = first_among f a_value.Unit (first_slots n []) tt (slots_among f n [] tt)
slots_among f (suc n) (x ∷ xs) a = first_among f x (first_slots n xs) a.0 (slots_among f n xs a.1)

-- where the objects of slots and of a value are among these, so are those of the slots with the value in one of them
set_among : (f : Object → Bool) (i : ℕ) (v : Value) (xs : List Value) → ValueAmong f v → ValuesAmong f xs → ListAmong f (set_slot i v xs)
set_among f i v [] a b = tt
set_among f zero v (x ∷ xs) a b = (a, b.1)
set_among f (suc i) v (x ∷ xs) a b = first_among f x (set_slot i v xs) b.0 (set_among f i v xs a b.1)

-- where the objects of values and of a stack are among these, so are those of what is popped before the values, and of the rest
pops_among : (f : Object → Bool) (n : ℕ) (xs s : List Value) → ValuesAmong f xs → ValuesAmong f s → PopsAmong f (n + length xs) (Machine.pops n xs s)
pops_among f zero xs s a b = (a, b, omega arith)
pops_among f (suc n) xs [] a b = tt
pops_among f (suc n) xs (x ∷ s) a b =
    let e : n + length (x ∷ xs) ≡ suc n + length xs = omega arith in
    subst (λ k. PopsAmong f k (Machine.pops n (x ∷ xs) s)) e (pops_among f n (x ∷ xs) s (b.0, a) b.1)

-- a division computes no object but of these
unless_zero_among : (f : Object → Bool) (n z : ℤ) → ComputedAmong f (unless_zero n z)
unless_zero_among f (pos zero) z = tt
unless_zero_among f (pos (suc n)) z = tt
unless_zero_among f (negsuc n) z = tt

-- a text or a trap is no object but of these
cond_among : (f : Object → Bool) (b : Bool) (t : Trap) (xs : List ℕ) → ComputedAmong f (cond b (Trapped t) (Is (a_value.Text xs)))
cond_among f true t xs = tt
cond_among f false t xs = tt

-- a join of texts computes no object but of these
joined_among : (f : Object → Bool) (x y : Option (List ℕ)) → ComputedAmong f (joined x y)
joined_among f None y = tt
joined_among f (Some s) None = tt
joined_among f (Some s) (Some t) = cond_among f (nat_lt 1024 (length s + length t)) TextTooLong (s ++ t)

-- what computes no object but of these of ints computes none of any values
ints_among : (f : Object → Bool) (g : ℤ → ℤ → Computed) → ((m n : ℤ) → ComputedAmong f (g m n)) → (x y : Value) → ComputedAmong f (of_ints g x y)
ints_among f g h (a_value.Int m) (a_value.Int n) = h m n
ints_among f g h (a_value.Int m) a_value.Unit = tt
ints_among f g h (a_value.Int m) (a_value.Flag y) = tt
ints_among f g h (a_value.Int m) (a_value.Text y) = tt
ints_among f g h (a_value.Int m) (a_value.Ref y) = tt
ints_among f g h a_value.Unit y = tt
ints_among f g h (a_value.Flag x) y = tt
ints_among f g h (a_value.Text x) y = tt
ints_among f g h (a_value.Ref x) y = tt

-- a comparison computes no object but of these
compared_among : (f : Object → Bool) (g : Bool → Bool) (x y : Value) → ComputedAmong f (compared g x y)
compared_among f g (a_value.Int x) (a_value.Int y) = tt
compared_among f g (a_value.Int x) a_value.Unit = tt
compared_among f g (a_value.Int x) (a_value.Flag y) = tt
compared_among f g (a_value.Int x) (a_value.Text y) = tt
compared_among f g (a_value.Int x) (a_value.Ref y) = tt
compared_among f g (a_value.Flag x) (a_value.Flag y) = tt
compared_among f g (a_value.Flag x) a_value.Unit = tt
compared_among f g (a_value.Flag x) (a_value.Int y) = tt
compared_among f g (a_value.Flag x) (a_value.Text y) = tt
compared_among f g (a_value.Flag x) (a_value.Ref y) = tt
compared_among f g (a_value.Text x) (a_value.Text y) = tt
compared_among f g (a_value.Text x) a_value.Unit = tt
compared_among f g (a_value.Text x) (a_value.Int y) = tt
compared_among f g (a_value.Text x) (a_value.Flag y) = tt
compared_among f g (a_value.Text x) (a_value.Ref y) = tt
compared_among f g (a_value.Ref x) (a_value.Ref y) = tt
compared_among f g (a_value.Ref x) a_value.Unit = tt
compared_among f g (a_value.Ref x) (a_value.Int y) = tt
compared_among f g (a_value.Ref x) (a_value.Flag y) = tt
compared_among f g (a_value.Ref x) (a_value.Text y) = tt
compared_among f g a_value.Unit y = tt

-- an operator computes no object but of these
compute_among : (f : Object → Bool) (op : Operation) (x y : Value) → ComputedAmong f (compute op x y)
compute_among f ops.Add x y = ints_among f _ (λ m n. tt) x y
compute_among f ops.Subtract x y = ints_among f _ (λ m n. tt) x y
compute_among f ops.Multiply x y = ints_among f _ (λ m n. tt) x y
compute_among f ops.Divide x y = ints_among f _ (λ m n. unless_zero_among f n _) x y
compute_among f ops.Remainder x y = ints_among f _ (λ m n. unless_zero_among f n _) x y
compute_among f ops.Join x y = joined_among f (text_of x) (text_of y)
compute_among f ops.Equal x y = compared_among f (λ b. b) x y
compute_among f ops.NotEqual x y = compared_among f not x y
compute_among f ops.Less x y = ints_among f _ (λ m n. tt) x y
compute_among f ops.Greater x y = ints_among f _ (λ m n. tt) x y
compute_among f ops.LessOrEqual x y = ints_among f _ (λ m n. tt) x y
compute_among f ops.GreaterOrEqual x y = ints_among f _ (λ m n. tt) x y

-- unary `-` computes no object but of these
negated_among : (f : Object → Bool) (x : Value) → ComputedAmong f (negated x)
negated_among f (a_value.Int n) = tt
negated_among f a_value.Unit = tt
negated_among f (a_value.Flag b) = tt
negated_among f (a_value.Text t) = tt
negated_among f (a_value.Ref o) = tt

-- `!` computes no object but of these
denied_among : (f : Object → Bool) (x : Value) → ComputedAmong f (denied x)
denied_among f (a_value.Flag b) = tt
denied_among f a_value.Unit = tt
denied_among f (a_value.Int n) = tt
denied_among f (a_value.Text t) = tt
denied_among f (a_value.Ref o) = tt

-- ---- one instruction

module _ (f : Object → Bool) (code : Parts) (m : Machine.Machine) (here : MachineAmong f m) where
  -- to go on at a place with a stack of these objects keeps to them
  goes_among : (p : ℕ) (s : List Value) → ValuesAmong f s → DidAmong f (Machine.goes m p s)
  goes_among p s a = ((a, here.0.1), here.1)

  -- a load of a value of these objects keeps to them
  loads_among : (o : Option Value) → SomeAmong f o → DidAmong f (Machine.loads m o)
  loads_among None a = tt
  loads_among (Some v) a = (((a, here.0.0), here.0.1), here.1)

  -- to go on with a stack and slots of these objects keeps to them
  stores_among : (s : List Value) (o : Option (List Value)) → ValuesAmong f s → ListAmong f o → DidAmong f (Machine.stores m s o)
  stores_among s None a b = tt
  stores_among s (Some vs) a b = ((a, b), here.1)

  -- a store keeps to these objects
  store_among : (i : ℕ) (s : List Value) → ValuesAmong f s → DidAmong f (Machine.store_top i m s)
  store_among i [] a = tt
  store_among i (v ∷ s) a = stores_among s (set_slot i v m.top.slots) a.1 (set_among f i v m.top.slots a.0 here.0.1)

  -- a drop keeps to these objects
  pop_among : (s : List Value) → ValuesAmong f s → DidAmong f (Machine.pop_top m s)
  pop_among [] a = tt
  pop_among (v ∷ s) a = goes_among (suc m.top.place) s a.1

  -- to push what was computed of these objects keeps to them
  pushes_among : (s : List Value) (c : Computed) → ValuesAmong f s → ComputedAmong f c → DidAmong f (Machine.pushes m s c)
  pushes_among s (Is v) a b = goes_among (suc m.top.place) (v ∷ s) (b, a)
  pushes_among s (Trapped t) a b = (tt, tt, here)
  pushes_among s Mistyped a b = tt

  -- an operator keeps to these objects
  operate_among : (op : Operation) (s : List Value) → ValuesAmong f s → DidAmong f (Machine.operate op m s)
  operate_among op [] a = tt
  operate_among op (y ∷ []) a = tt
  operate_among op (y ∷ x ∷ s) a = pushes_among s (compute op x y) a.1.1 (compute_among f op x y)

  -- a jump on false keeps to these objects
  skips_among : (b : ℕ) (s : List Value) → ValuesAmong f s → DidAmong f (Machine.skips b m s)
  skips_among b [] a = tt
  skips_among b (a_value.Unit ∷ s) a = tt
  skips_among b (a_value.Int n ∷ s) a = tt
  skips_among b (a_value.Text x ∷ s) a = tt
  skips_among b (a_value.Flag true ∷ s) a = goes_among (suc m.top.place) s a.1
  skips_among b (a_value.Flag false ∷ s) a = goes_among b s a.1
  skips_among b (a_value.Ref o ∷ s) a = tt

  -- a jump back that counts a turn keeps to these objects
  turns_among : (b : ℕ) (s : List Value) (t : ℕ) → ValuesAmong f s → DidAmong f (Machine.turns_to b m s t)
  turns_among b s zero a = (tt, tt, here)
  turns_among b s (suc t) a = ((a, here.0.1), here.1)

  -- a jump back on true keeps to these objects
  again_among : (b : ℕ) (s : List Value) → ValuesAmong f s → DidAmong f (Machine.again b m s)
  again_among b [] a = tt
  again_among b (a_value.Unit ∷ s) a = tt
  again_among b (a_value.Int n ∷ s) a = tt
  again_among b (a_value.Text x ∷ s) a = tt
  again_among b (a_value.Flag true ∷ s) a = turns_among b s m.turns a.1
  again_among b (a_value.Flag false ∷ s) a = goes_among (suc m.top.place) s a.1
  again_among b (a_value.Ref o ∷ s) a = tt

  -- a `new` of a class below 1,024 keeps to these objects
  makes_among : (c n r : ℕ) (o : Option (Option (ℕ × ℕ))) → c < 1024 → DidAmong f (Machine.if_deeper r m (Machine.makes_object c n m o))
  makes_among c n zero o l = (tt, tt, here)
  makes_among c n (suc r) None l = tt
  makes_among c n (suc r) (Some b) l = (tt, l, here)

  -- a message of popped values, to a method within its bounds, keeps to these objects
  send_among : (j n : ℕ) (o : Option (List Value × List Value)) → (j < 16) × (n ≤ 8) → PopsAmong f n o → DidAmong f (Machine.send_by j m o)
  send_among j n None l a = tt
  send_among j n (Some (xs, [])) l a = tt
  send_among j n (Some (xs, a_value.Unit ∷ s)) l a = tt
  send_among j n (Some (xs, a_value.Int i ∷ s)) l a = tt
  send_among j n (Some (xs, a_value.Text x ∷ s)) l a = tt
  send_among j n (Some (xs, a_value.Flag b ∷ s)) l a = tt
  send_among j n (Some (xs, a_value.Ref o ∷ s)) l a = ((a.1.0, a.0), (l.0, omega (arith, l.1, a.2)), ((a.1.1, here.0.1), here.1))

  -- an ask that keeps to these objects does so where it may trap for depth
  deeper_among : (r : ℕ) (a : What) (w : Machine.Waiting) → DidAmong f (Machine.Asking a w) → DidAmong f (Machine.if_deeper r m (Machine.Asking a w))
  deeper_among zero a w h = (tt, tt, here)
  deeper_among (suc r) a w h = h

  -- a call with popped values, of a method within its bounds, keeps to these objects
  call_among : (j n : ℕ) (o : Option (List Value × List Value)) → (j < 16) × (n ≤ 8) → PopsAmong f n o → DidAmong f (Machine.call_by j m o)
  call_among j n None l a = tt
  call_among j n (Some (xs, [])) l a = tt
  call_among j n (Some (xs, a_value.Unit ∷ s)) l a = tt
  call_among j n (Some (xs, a_value.Int i ∷ s)) l a = tt
  call_among j n (Some (xs, a_value.Text x ∷ s)) l a = tt
  call_among j n (Some (xs, a_value.Flag b ∷ s)) l a = tt
  call_among j n (Some (xs, a_value.Ref o ∷ s)) l a = deeper_among m.top.room _ _ ((a.1.0, a.0), (l.0, omega (arith, l.1, a.2)), ((a.1.1, here.0.1), here.1))

  -- a unary `-` of the value on top keeps to these objects
  negates_among : (s : List Value) → ValuesAmong f s → DidAmong f (Machine.negates m s)
  negates_among [] a = tt
  negates_among (x ∷ s) a = pushes_among s (negated x) a.1 (negated_among f x)

  -- a `!` of the value on top keeps to these objects
  denies_among : (s : List Value) → ValuesAmong f s → DidAmong f (Machine.denies m s)
  denies_among [] a = tt
  denies_among (x ∷ s) a = pushes_among s (denied x) a.1 (denied_among f x)

  -- a line keeps to these objects
  print_by_among : (s : List Value) (t : Option (List ℕ)) → ValuesAmong f s → DidAmong f (Machine.print_by m s t)
  print_by_among s None a = tt
  print_by_among s (Some t) a = (tt, tt, ((a, here.0.1), here.1))

  -- a line of the value on top keeps to these objects
  print_among : (s : List Value) → ValuesAmong f s → DidAmong f (Machine.print_top m s)
  print_among [] a = tt
  print_among (v ∷ s) a = print_by_among s (text_of v) a.1

  -- an end with the value on top keeps to these objects
  end_among : (s : List Value) → ValuesAmong f s → DidAmong f (Machine.end_with m s)
  end_among [] a = tt
  end_among (v ∷ s) a = (a.0, tt, here)

  -- a way back to a block of these objects keeps to them
  back_among : (xs : List Machine.Frame) → FramesAmong f xs → DidAmong f (Machine.goes_back m xs)
  back_among [] a = tt
  back_among (x ∷ xs) a = a

  -- a block that begins in slots of these objects keeps to them
  enter_among : (k : ℕ) (o : Option (List Value)) → ListAmong f o → DidAmong f (Machine.enters (Machine.begins_block k m.top.room m.turns (Machine.next_place m.top ∷ m.below) o))
  enter_among k None a = tt
  enter_among k (Some vs) a = ((tt, a), (here.0, here.1))

  -- an `init` on a value of these objects keeps to them
  init_among : (o : Option Value) (p : Option (Option (ℕ × ℕ))) → SomeAmong f o → DidAmong f (Machine.init_by m o p)
  init_among None p a = tt
  init_among (Some v) None a = tt
  init_among (Some v) (Some None) a = tt
  init_among (Some v) (Some (Some b)) a = enter_among b.0 (first_slots b.1 (v ∷ [])) (slots_among f b.1 (v ∷ []) (a, tt))

  -- what is popped of the machine's stack keeps to these objects
  popped : (n : ℕ) → PopsAmong f n (Machine.pops n [] m.top.stack)
  popped n = (let e : n + length {A = Value} [] ≡ n = omega arith in subst (λ k. PopsAmong f k (Machine.pops n [] m.top.stack)) e (pops_among f n [] m.top.stack tt here.0.0))

  -- each instruction within its bounds keeps to these objects
  act_among : (i : Instruction) → IsInstructionWithin i → DidAmong f (Machine.act code (Some i) m)
  act_among (instr.Int n) l = loads_among (Some (a_value.Int n)) tt
  act_among (instr.Text t) l = loads_among (Some (a_value.Text t)) tt
  act_among (instr.Flag b) l = loads_among (Some (a_value.Flag b)) tt
  act_among (instr.Load i) l = loads_among (slice_get m.top.slots i) (get_among f m.top.slots i here.0.1)
  act_among (instr.Store i) l = store_among i m.top.stack here.0.0
  act_among instr.Drop l = pop_among m.top.stack here.0.0
  act_among instr.Neg l = negates_among m.top.stack here.0.0
  act_among instr.Not l = denies_among m.top.stack here.0.0
  act_among instr.Add l = operate_among ops.Add m.top.stack here.0.0
  act_among instr.Sub l = operate_among ops.Subtract m.top.stack here.0.0
  act_among instr.Mul l = operate_among ops.Multiply m.top.stack here.0.0
  act_among instr.Div l = operate_among ops.Divide m.top.stack here.0.0
  act_among instr.Rem l = operate_among ops.Remainder m.top.stack here.0.0
  act_among instr.Cat l = operate_among ops.Join m.top.stack here.0.0
  act_among instr.Eq l = operate_among ops.Equal m.top.stack here.0.0
  act_among instr.Ne l = operate_among ops.NotEqual m.top.stack here.0.0
  act_among instr.Lt l = operate_among ops.Less m.top.stack here.0.0
  act_among instr.Le l = operate_among ops.LessOrEqual m.top.stack here.0.0
  act_among instr.Gt l = operate_among ops.Greater m.top.stack here.0.0
  act_among instr.Ge l = operate_among ops.GreaterOrEqual m.top.stack here.0.0
  act_among (instr.Jump a) l = goes_among a m.top.stack here.0.0
  act_among (instr.Skip a) l = skips_among a m.top.stack here.0.0
  act_among (instr.Again a) l = again_among a m.top.stack here.0.0
  act_among (instr.New c n) l = makes_among c n m.top.room (Machine.builder_of code c) l
  act_among (instr.Init c) l = init_among (slice_get m.top.slots 0) (Machine.builder_of code c) (get_among f m.top.slots 0 here.0.1)
  act_among (instr.Send j n) l = send_among j n (Machine.pops n [] m.top.stack) l (popped n)
  act_among (instr.Call j n) l = call_among j n (Machine.pops n [] m.top.stack) l (popped n)
  act_among instr.Print l = print_among m.top.stack here.0.0
  act_among instr.End l = (tt, tt, here)
  act_among instr.Endv l = end_among m.top.stack here.0.0
  act_among instr.Back l = back_among m.below here.1

-- ---- runs of instructions

-- the instruction at a machine's place keeps to the machine's objects
step_among : (f : Object → Bool) (code : Parts) → IsCodeWithin code → (m : Machine.Machine) (o : Option Instruction) → Machine.fetch code m.top.block m.top.place ≡ o → MachineAmong f m → DidAmong f (Machine.act code o m)
step_among f code w m None e a = tt
step_among f code w m (Some i) e a = act_among f code m a i (w m.top.block m.top.place i e)

-- where n instructions keep to these objects, they do so after an instruction that does
goes_on_among : (f : Object → Bool) (code : Parts) (n : ℕ) (d : Machine.Did) → ((m : Machine.Machine) → MachineAmong f m → DidAmong f (Machine.run code n m)) → DidAmong f d → DidAmong f (Machine.goes_on (Machine.run code n) d)
goes_on_among f code n (Machine.Goes m) r a = r m a
goes_on_among f code n (Machine.Asking q w) r a = a
goes_on_among f code n Machine.Bad r a = a

-- n instructions of a code within its bounds keep to the machine's objects
run_among : (f : Object → Bool) (code : Parts) → IsCodeWithin code → (n : ℕ) (m : Machine.Machine) → MachineAmong f m → DidAmong f (Machine.run code n m)
run_among f code w zero m a = a
run_among f code w (suc n) m a =
    goes_on_among f code n (Machine.step code m) (run_among f code w n) (step_among f code w m (Machine.fetch code m.top.block m.top.place) refl a)

-- ---- answers

-- a machine with a new object keeps to its objects and that one
with_object_among : (f : Object → Bool) (m : Machine.Machine) (b : Option (ℕ × ℕ)) (o : Object) (k : ℕ) (p : Option (List Value × List Value)) → MachineAmong f m → f o ≡ true → PopsAmong f k p → StartedAmong f (Machine.with_object m b o p)
with_object_among f m b o k None a g p = tt
with_object_among f m None o k (Some (xs, s)) a g p = (((g, p.1), a.0.1), a.1)
with_object_among f m (Some (b, n)) o k (Some (xs, s)) a g p = by_slots (first_slots n (a_value.Ref o ∷ xs)) (slots_among f n (a_value.Ref o ∷ xs) (g, p.0))
  where
    by_slots : (x : Option (List Value)) → ListAmong f x → StartedAmong f (Machine.begins_block b (Machine.pred_of m.top.room) m.turns (Machine.with_stack m.top (a_value.Ref o ∷ s) ∷ m.below) x)
    by_slots None l = tt
    by_slots (Some vs) l = ((tt, l), (((g, p.1), a.0.1), a.1))

-- a machine that is answered keeps to its objects and that of the answer
answered_among : (f : Object → Bool) (m : Machine.Machine) (p : Awaited) (v : Value) → MachineAmong f m → ValueAmong f v → StartedAmong f (Machine.with_answer m p v)
answered_among f m ForNothing v a g = a
answered_among f m ForValue v a g = (((g, a.0.0), a.0.1), a.1)
answered_among f m (ForObject b n) (a_value.Ref o) a g = with_object_among f m b o (n + length {A = Value} []) (Machine.pops n [] m.top.stack) a g (pops_among f n [] m.top.stack tt a.0.0)
answered_among f m (ForObject b n) a_value.Unit a g = tt
answered_among f m (ForObject b n) (a_value.Int i) a g = tt
answered_among f m (ForObject b n) (a_value.Flag i) a g = tt
answered_among f m (ForObject b n) (a_value.Text i) a g = tt

-- ---- where a body stands

-- the objects of the machine at which a body stands, if there is one, are all among these
abbrev PointAmong : (Object → Bool) → Point → Type 0
PointAmong f (At m) = MachineAmong f m
PointAmong f (FailsBy t) = Unit {0}
PointAmong f Lost = Unit {0}

-- where the objects of a machine, if one is there, are among these, so are those where a body stands at it
point_among : (f : Object → Bool) (o : Option Machine.Machine) → StartedAmong f o → PointAmong f (point_of o)
point_among f None a = tt
point_among f (Some m) a = a

-- a body that fails has no object but of these
failed_among : (f : Object → Bool) (p : Awaited) (t : Trap) → PointAmong f (failed p t)
failed_among f ForValue t = tt
failed_among f ForNothing t = tt
failed_among f (ForObject b n) t = tt

-- a machine that waits, once it is answered, keeps to its objects and that of the answer
reply_among : (f : Object → Bool) (w : Machine.Waiting) (r : End) → MachineAmong f w.machine → EndAmong f r → PointAmong f (reply w r)
reply_among f w (Gives v) a g = point_among f (Machine.with_answer w.machine w.awaited v) (answered_among f w.machine w.awaited v a g)
reply_among f w (Traps t) a g = failed_among f w.awaited t

-- what a machine came to, once it is answered, keeps to its objects and that of the answer
reply_to_among : (f : Object → Bool) (d : Machine.Did) (r : End) → DidAmong f d → EndAmong f r → PointAmong f (reply_to d r)
reply_to_among f (Machine.Asking a w) r d g = reply_among f w r d.2 g
reply_to_among f (Machine.Goes m) r d g = tt
reply_to_among f Machine.Bad r d g = tt

-- a body, after one more answer, keeps to its objects and that of the answer
replied_among : (f : Object → Bool) (code : Parts) → IsCodeWithin code → (p : Point) (r : End) → PointAmong f p → EndAmong f r → PointAmong f (point_replied code p r)
replied_among f code w (At m) r a g = reply_to_among f (comes_to code m) r (run_among f code w (suc (weight code m)) m a) g
replied_among f code w (FailsBy t) r a g = tt
replied_among f code w Lost r a g = tt

-- a body, after answers, keeps to its objects and those of the answers
points_among : (f : Object → Bool) (code : Parts) → IsCodeWithin code → (p : Point) (rs : List End) → PointAmong f p → EndsAmong f rs → PointAmong f (points code p rs)
points_among f code w p [] a g = a
points_among f code w p (r ∷ rs) a g = points_among f code w (point_replied code p r) rs (replied_among f code w p r a g.0) g.1

-- a body that begins in a block keeps to the objects of the values with which it begins
start_among : (f : Object → Bool) (code : Parts) (b room t : ℕ) (xs : List Value) → ValuesAmong f xs → (o : Option Block) → StartedAmong f (Machine.body_in o b room xs t)
start_among f code b room t xs a None = tt
start_among f code b room t xs a (Some block) = by_slots (first_slots block.slots xs) (slots_among f block.slots xs a)
  where
    by_slots : (x : Option (List Value)) → ListAmong f x → StartedAmong f (Machine.begins_block b room t [] x)
    by_slots None l = tt
    by_slots (Some vs) l = ((tt, l), tt)

-- a body that begins keeps to the objects with which it starts
begins_among : (f : Object → Bool) (code : Parts) (limits : Limits) (s : Start) (d : ℕ) → StartAmong f s → StartedAmong f (begins code limits s d)
begins_among f code limits Main d a = start_among f code 0 (limits.depth - d) limits.turns (a_value.Unit ∷ []) (tt, tt) (slice_get code.blocks 0)
begins_among f code limits (Chord k o vs) d a = by_line (slice_get (chord_lines code o.class) k)
  where
    by_line : (x : Option ChordLine) → StartedAmong f (start_line code limits o vs d x)
    by_line None = tt
    by_line (Some line) = start_among f code line.block (limits.depth - d) limits.turns (a_value.Ref o ∷ vs) a (slice_get code.blocks line.block)

-- ---- what is asked

-- an ask is among the objects and within its bounds
abbrev AskAmong : (Object → Bool) → Option Asked → Type 0
AskAmong f None = Unit {0}
AskAmong f (Some a) = WhatAmong f a.what × IsAskWithin a.what

-- what a machine came to asks of the machine's objects only, within its bounds
asked_at_among : (f : Object → Bool) (limits : Limits) (d : Machine.Did) → DidAmong f d → AskAmong f (asked_at limits d)
asked_at_among f limits (Machine.Asking a w) d = (d.0, d.1)
asked_at_among f limits (Machine.Goes m) d = tt
asked_at_among f limits Machine.Bad d = tt

-- a body that stands at a point asks of the point's objects only, within its bounds
asked_of_among : (f : Object → Bool) (code : Parts) → IsCodeWithin code → (limits : Limits) (p : Point) → PointAmong f p → AskAmong f (asked_of code limits p)
asked_of_among f code w limits (At m) a = asked_at_among f limits (comes_to code m) (run_among f code w (suc (weight code m)) m a)
asked_of_among f code w limits (FailsBy t) a = (tt, tt)
asked_of_among f code w limits Lost a = tt

-- a body asks of the objects with which it started or that it was answered only, within its bounds
next_among : (f : Object → Bool) (code : Parts) → IsCodeWithin code → (limits : Limits) (s : Start) (d : ℕ) (rs : List End) → StartAmong f s → EndsAmong f rs → AskAmong f ((code_program code limits).next s d rs)
next_among f code w limits s d rs a g =
    asked_of_among f code w limits (stands code limits s d rs) (points_among f code w (point_of (begins code limits s d)) rs (point_among f (begins code limits s d) (begins_among f code limits s d a)) g)

-- a code within its bounds asks only of objects that its bodies were given
pub code_is_tame : (code : Parts) (limits : Limits) → IsCodeWithin code → IsTame (code_program code limits)
code_is_tame code limits w f s d rs a start ends e = (subst (λ (o : Option Asked). AskAmong f o) e (next_among f code w limits s d rs start ends)).0

-- the objects of any values are among all objects
all_values : (vs : List Value) → ValuesAmong (λ o. true) vs
all_values [] = tt
all_values (a_value.Ref o ∷ vs) = (refl, all_values vs)
all_values (a_value.Unit ∷ vs) = (tt, all_values vs)
all_values (a_value.Int n ∷ vs) = (tt, all_values vs)
all_values (a_value.Flag b ∷ vs) = (tt, all_values vs)
all_values (a_value.Text t ∷ vs) = (tt, all_values vs)

-- the objects of any ends are among all objects
all_ends : (rs : List End) → EndsAmong (λ o. true) rs
all_ends [] = tt
all_ends (Gives v ∷ rs) = ((all_values (v ∷ [])).0, all_ends rs)
all_ends (Traps t ∷ rs) = (tt, all_ends rs)

-- the objects of any start are among all objects
all_start : (s : Start) → StartAmong (λ o. true) s
all_start Main = tt
all_start (Chord k o vs) = (refl, all_values vs)

-- and within the bounds of its instructions
pub code_asks_within : (code : Parts) (limits : Limits) → IsCodeWithin code → (s : Start) (d : ℕ) (rs : List End) (a : Asked) → (code_program code limits).next s d rs ≡ Some a → IsAskWithin a.what
code_asks_within code limits w s d rs a e =
    (subst (λ (o : Option Asked). AskAmong (λ o. true) o) e (next_among (λ o. true) code w limits s d rs (all_start s) (all_ends rs))).1
