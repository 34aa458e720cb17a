-- What a run of a valid and sound code says is of the code: an object that is made is of one of its classes.
use Rattle.std.proofs.Common.{◌≡◌, ⊎_elim, ℕ, zero, suc, ◌<◌, true, false, List, [], ◌∷◌, Option, Some, None, length, slice_get, refl, sym, ap, ◌∙◌, subst}
use mathlib.Core.Path.{Path}
use Rattle.std.proofs.lemmas.Option.{slice_get_within}
use Rattle.chord_base.specs.declared.value.Value.{Value}
use Rattle.chord_base.specs.declared.value.Value.TheVariants as a_value
use Rattle.chord_base.specs.declared.event.End.{End}
use Rattle.chord_base.specs.declared.event.Entry.{Entry}
use Rattle.chord_base.specs.declared.event.Limits.{Limits}
use Rattle.chord_base.specs.declared.event.What.{What}
use Rattle.chord_base.specs.declared.event.What.TheVariants.{Begun, Made, Sent, Called, Printed, Fired, Ended}
use Rattle.chord_base.specs.declared.operation.Operation.{Operation}
use Rattle.chord_base.specs.Bodies.{Doing, Absent, Unplaced, Ready, Waits, Over, doing, asked}
use Rattle.chord_base.specs.Machine.{Comes, IsPast}
use Rattle.chord_base.specs.Meaning.{Start, Asked}
use Rattle.chord_base.specs.Operators.{Computed, Is, Trapped, Mistyped, compute, negated, denied, text_of}
use Rattle.chord_base.specs.Story.{IsIn}
use Rattle.chord_code.specs.declared.instruction.Instruction.{Instruction}
use Rattle.chord_code.specs.declared.instruction.Instruction.TheVariants as instr
use Rattle.chord_base.specs.declared.operation.Operation.TheVariants as ops
use Rattle.chord_code.specs.declared.parts.ClassLine.{ClassLine}
use Rattle.chord_code.specs.declared.parts.Parts.{Parts}
use Rattle.chord_code.specs.Fuel.{comes_to, weight}
use Rattle.chord_code.specs.Machine
use Rattle.chord_code.specs.Meaning.{Point, At, FailsBy, Lost, asked_at, asked_of, stands, code_program}
use Rattle.chord_code.specs.Slots.{set_slot, first_slots}
use Rattle.chord_code.specs.Sound.{IsSoundUnder}
use Rattle.chord_code.specs.Valid.{IsValid}
use Rattle.chord_code.proofs.Tame.{code_is_tame}
use Rattle.chord_code.proofs.Validity.{valid_within, valid_chords_right}
use Rattle.chord_space.specs.Ruled.{IsOfCode}
use Rattle.chord_space.proofs.Tabled.{names_made}

module _ (code : Parts) where
  -- an object that is asked for is of a class of the code
  abbrev AskRight : What → Type 0
  AskRight (Made c) = c < length code.classes
  AskRight _ = Unit {0}

  -- where a machine comes to an ask, this holds of it
  abbrev DidRight : Machine.Did → Type 0
  DidRight (Machine.Asking a w) = AskRight a
  DidRight (Machine.Goes m) = Unit {0}
  DidRight Machine.Bad = Unit {0}

  -- what a load comes to is right
  loads_right : (m : Machine.Machine) (o : Option Value) → DidRight (Machine.loads m o)
  loads_right m None = tt
  loads_right m (Some v) = tt

  -- what the value or the trap of an operator comes to is right
  pushes_right : (m : Machine.Machine) (s : List Value) (x : Computed) → DidRight (Machine.pushes m s x)
  pushes_right m s (Is v) = tt
  pushes_right m s (Trapped t) = tt
  pushes_right m s Mistyped = tt

  -- what new slots, if they are there, come to is right
  stores_right : (m : Machine.Machine) (s : List Value) (o : Option (List Value)) → DidRight (Machine.stores m s o)
  stores_right m s None = tt
  stores_right m s (Some vs) = tt

  -- what a store of the value on top comes to is right
  store_top_right : (i : ℕ) (m : Machine.Machine) (s : List Value) → DidRight (Machine.store_top i m s)
  store_top_right i m [] = tt
  store_top_right i m (v ∷ s) = stores_right m s (set_slot i v m.top.slots)

  -- what an operator of the two values on top comes to is right
  operate_right : (op : Operation) (m : Machine.Machine) (s : List Value) → DidRight (Machine.operate op m s)
  operate_right op m [] = tt
  operate_right op m (y ∷ []) = tt
  operate_right op m (y ∷ x ∷ s) = pushes_right m s (compute op x y)

  -- what unary `-` of the value on top comes to is right
  negates_right : (m : Machine.Machine) (s : List Value) → DidRight (Machine.negates m s)
  negates_right m [] = tt
  negates_right m (x ∷ s) = pushes_right m s (negated x)

  -- what `!` of the value on top comes to is right
  denies_right : (m : Machine.Machine) (s : List Value) → DidRight (Machine.denies m s)
  denies_right m [] = tt
  denies_right m (x ∷ s) = pushes_right m s (denied x)

  -- what a jump where the value on top is false comes to is right
  skips_right : (a : ℕ) (m : Machine.Machine) (s : List Value) → DidRight (Machine.skips a m s)
  skips_right a m [] = tt
  skips_right a m (a_value.Flag true ∷ s) = tt
  skips_right a m (a_value.Flag false ∷ s) = tt
  skips_right a m (a_value.Unit ∷ s) = tt
  skips_right a m (a_value.Int n ∷ s) = tt
  skips_right a m (a_value.Text t ∷ s) = tt
  skips_right a m (a_value.Ref o ∷ s) = tt

  -- what a jump back that counts one turn comes to is right
  turns_right : (a : ℕ) (m : Machine.Machine) (s : List Value) (t : ℕ) → DidRight (Machine.turns_to a m s t)
  turns_right a m s zero = tt
  turns_right a m s (suc t) = tt

  -- what a jump back where the value on top is true comes to is right
  again_right : (a : ℕ) (m : Machine.Machine) (s : List Value) → DidRight (Machine.again a m s)
  again_right a m [] = tt
  again_right a m (a_value.Flag true ∷ s) = turns_right a m s m.turns
  again_right a m (a_value.Flag false ∷ s) = tt
  again_right a m (a_value.Unit ∷ s) = tt
  again_right a m (a_value.Int n ∷ s) = tt
  again_right a m (a_value.Text t ∷ s) = tt
  again_right a m (a_value.Ref o ∷ s) = tt

  -- what is right is right with a trap where no room is left below the depth limit
  deeper_right : (room : ℕ) (m : Machine.Machine) (d : Machine.Did) → DidRight d → DidRight (Machine.if_deeper room m d)
  deeper_right zero m d r = tt
  deeper_right (suc room) m d r = r

  -- a class whose builder was found is there
  class_there : (c : ℕ) (b : Option (ℕ × ℕ)) → Machine.builder_of code c ≡ Some b → c < length code.classes
  class_there c b e = by_line (slice_get code.classes c) refl
    where
      by_line : (x : Option ClassLine) → slice_get code.classes c ≡ x → c < length code.classes
      by_line None s = absurd (let z : Path (Option (Option (ℕ × ℕ))) None (Some b) = ap (Machine.builder_of_line code) (sym s) ∙ e in cc)
      by_line (Some line) s = slice_get_within code.classes c line s

  -- what the making of an object of a class, with its builder in the code, comes to is right
  makes_right : (c n : ℕ) (m : Machine.Machine) (b : Option (Option (ℕ × ℕ))) → Machine.builder_of code c ≡ b → DidRight (Machine.makes_object c n m b)
  makes_right c n m None e = tt
  makes_right c n m (Some b) e = class_there c b e

  -- what the sending of a message comes to is right
  send_right : (j : ℕ) (m : Machine.Machine) (p : Option (List Value × List Value)) → DidRight (Machine.send_by j m p)
  send_right j m None = tt
  send_right j m (Some (xs, [])) = tt
  send_right j m (Some (xs, a_value.Ref o ∷ s)) = tt
  send_right j m (Some (xs, a_value.Unit ∷ s)) = tt
  send_right j m (Some (xs, a_value.Int n ∷ s)) = tt
  send_right j m (Some (xs, a_value.Flag b ∷ s)) = tt
  send_right j m (Some (xs, a_value.Text t ∷ s)) = tt

  -- what a call comes to is right
  call_right : (j : ℕ) (m : Machine.Machine) (p : Option (List Value × List Value)) → DidRight (Machine.call_by j m p)
  call_right j m None = tt
  call_right j m (Some (xs, [])) = tt
  call_right j m (Some (xs, a_value.Ref o ∷ s)) = deeper_right m.top.room m (Machine.asks m (Called o j xs) _ s) tt
  call_right j m (Some (xs, a_value.Unit ∷ s)) = tt
  call_right j m (Some (xs, a_value.Int n ∷ s)) = tt
  call_right j m (Some (xs, a_value.Flag b ∷ s)) = tt
  call_right j m (Some (xs, a_value.Text t ∷ s)) = tt

  -- what the print of a text, if there is one, comes to is right
  print_right : (m : Machine.Machine) (s : List Value) (t : Option (List ℕ)) → DidRight (Machine.print_by m s t)
  print_right m s None = tt
  print_right m s (Some t) = tt

  -- what the print of the value on top comes to is right
  print_top_right : (m : Machine.Machine) (s : List Value) → DidRight (Machine.print_top m s)
  print_top_right m [] = tt
  print_top_right m (v ∷ s) = print_right m s (text_of v)

  -- what a drop of the value on top comes to is right
  pop_right : (m : Machine.Machine) (s : List Value) → DidRight (Machine.pop_top m s)
  pop_right m [] = tt
  pop_right m (v ∷ s) = tt

  -- what the end of a body with the value on top comes to is right
  end_right : (m : Machine.Machine) (s : List Value) → DidRight (Machine.end_with m s)
  end_right m [] = tt
  end_right m (v ∷ s) = tt

  -- what a return to the block that waits comes to is right
  back_right : (m : Machine.Machine) (fs : List Machine.Frame) → DidRight (Machine.goes_back m fs)
  back_right m [] = tt
  back_right m (f ∷ fs) = tt

  -- what the beginning of a block, if its slots suffice, comes to is right
  enters_right : (o : Option Machine.Machine) → DidRight (Machine.enters o)
  enters_right None = tt
  enters_right (Some m) = tt

  -- what the beginning of a builder on a value comes to is right
  init_right : (m : Machine.Machine) (v : Option Value) (b : Option (Option (ℕ × ℕ))) → DidRight (Machine.init_by m v b)
  init_right m None b = tt
  init_right m (Some v) None = tt
  init_right m (Some v) (Some None) = tt
  init_right m (Some v) (Some (Some b)) = enters_right (Machine.begins_block b.0 m.top.room m.turns (Machine.next_place m.top ∷ m.below) (first_slots b.1 (v ∷ [])))

  -- what an instruction comes to
  act_right : (i : Option Instruction) (m : Machine.Machine) → DidRight (Machine.act code i m)
  act_right None m = tt
  act_right (Some (instr.Int n)) m = tt
  act_right (Some (instr.Text t)) m = tt
  act_right (Some (instr.Flag b)) m = tt
  act_right (Some (instr.Load i)) m = loads_right m (slice_get m.top.slots i)
  act_right (Some (instr.Store i)) m = store_top_right i m m.top.stack
  act_right (Some instr.Drop) m = pop_right m m.top.stack
  act_right (Some instr.Neg) m = negates_right m m.top.stack
  act_right (Some instr.Not) m = denies_right m m.top.stack
  act_right (Some instr.Add) m = operate_right ops.Add m m.top.stack
  act_right (Some instr.Sub) m = operate_right ops.Subtract m m.top.stack
  act_right (Some instr.Mul) m = operate_right ops.Multiply m m.top.stack
  act_right (Some instr.Div) m = operate_right ops.Divide m m.top.stack
  act_right (Some instr.Rem) m = operate_right ops.Remainder m m.top.stack
  act_right (Some instr.Cat) m = operate_right ops.Join m m.top.stack
  act_right (Some instr.Eq) m = operate_right ops.Equal m m.top.stack
  act_right (Some instr.Ne) m = operate_right ops.NotEqual m m.top.stack
  act_right (Some instr.Lt) m = operate_right ops.Less m m.top.stack
  act_right (Some instr.Le) m = operate_right ops.LessOrEqual m m.top.stack
  act_right (Some instr.Gt) m = operate_right ops.Greater m m.top.stack
  act_right (Some instr.Ge) m = operate_right ops.GreaterOrEqual m m.top.stack
  act_right (Some (instr.Jump a)) m = tt
  act_right (Some (instr.Skip a)) m = skips_right a m m.top.stack
  act_right (Some (instr.Again a)) m = again_right a m m.top.stack
  act_right (Some (instr.New c n)) m = deeper_right m.top.room m (Machine.makes_object c n m (Machine.builder_of code c)) (makes_right c n m (Machine.builder_of code c) refl)
  act_right (Some (instr.Init c)) m = init_right m (slice_get m.top.slots 0) (Machine.builder_of code c)
  act_right (Some (instr.Send j n)) m = send_right j m (Machine.pops n [] m.top.stack)
  act_right (Some (instr.Call j n)) m = call_right j m (Machine.pops n [] m.top.stack)
  act_right (Some instr.Print) m = print_top_right m m.top.stack
  act_right (Some instr.End) m = tt
  act_right (Some instr.Endv) m = end_right m m.top.stack
  act_right (Some instr.Back) m = back_right m m.below

  -- what an instruction and n more come to is right, if what it comes to is, and what n come to from each machine
  goes_on_right : (n : ℕ) (d : Machine.Did) → ((m : Machine.Machine) → DidRight (Machine.run code n m)) → DidRight d → DidRight (Machine.goes_on (Machine.run code n) d)
  goes_on_right n (Machine.Goes m) r a = r m
  goes_on_right n (Machine.Asking q w) r a = a
  goes_on_right n Machine.Bad r a = a

  -- what at most n instructions come to is right
  run_right : (n : ℕ) (m : Machine.Machine) → DidRight (Machine.run code n m)
  run_right zero m = tt
  run_right (suc n) m = goes_on_right n (Machine.step code m) (run_right n) (act_right (Machine.fetch code m.top.block m.top.place) m)

  -- the next ask of a body
  abbrev SomeRight : Option Asked → Type 0
  SomeRight None = Unit {0}
  SomeRight (Some a) = AskRight a.what

  -- the ask to which a machine comes is right, if what it comes to is
  asked_at_right : (limits : Limits) (d : Machine.Did) → DidRight d → SomeRight (asked_at limits d)
  asked_at_right limits (Machine.Asking a w) d = d
  asked_at_right limits (Machine.Goes m) d = tt
  asked_at_right limits Machine.Bad d = tt

  -- the next ask of a body that stands at this point is right
  asked_of_right : (limits : Limits) (p : Point) → SomeRight (asked_of code limits p)
  asked_of_right limits (At m) = asked_at_right limits (comes_to code m) (run_right (suc (weight code m)) m)
  asked_of_right limits (FailsBy t) = tt
  asked_of_right limits Lost = tt

  -- the next ask of a body after these answers is right
  next_right : (limits : Limits) (s : Start) (d : ℕ) (rs : List End) → SomeRight ((code_program code limits).next s d rs)
  next_right limits s d rs = asked_of_right limits (stands code limits s d rs)

  -- the next ask of a body, whatever it is doing, is right
  body_right : (limits : Limits) (d : Doing) → SomeRight (asked (code_program code limits) d)
  body_right limits (Ready s k rs) = next_right limits s k rs
  body_right limits (Waits s k rs q l) = tt
  body_right limits Absent = tt
  body_right limits Unplaced = tt
  body_right limits (Over x) = tt

  -- an object that an entry of a past made is of a class of the code
  made_right : (limits : Limits) (h : List Entry) → IsPast (code_program code limits) h → (e : Entry) (c : ℕ) → IsIn e h → e.what ≡ Made c → c < length code.classes
  made_right limits [] past e c is made = absurd is
  made_right limits (x ∷ h) past e c is made = ⊎_elim (λ same. newest x.what (sym (ap (λ (y : Entry). y.what) same) ∙ made) past.1.comes) (λ old. made_right limits h past.0 e c old made) is
    where
      newest : (w : What) → w ≡ Made c → Comes (code_program code limits) h x.number x.body w → c < length code.classes
      newest (Made d) e comes = let same : d ≡ c = (let z = e in cc) in
          subst (λ (k : ℕ). k < length code.classes) same (subst SomeRight comes.1 (body_right limits (doing (code_program code limits) h x.body)))
      newest Begun e comes = absurd (cc)
      newest (Sent o j vs) e comes = absurd (cc)
      newest (Called o j vs) e comes = absurd (cc)
      newest (Printed t) e comes = absurd (cc)
      newest (Fired k o ms vs) e comes = absurd (cc)
      newest (Ended z) e comes = absurd (cc)

-- the newest entry of a run of a valid and sound code is of the code
pub of_code : (code : Parts) (limits : Limits) → IsValid code → IsSoundUnder code limits → (h : List Entry) (e : Entry) → IsPast (code_program code limits) (e ∷ h) → IsOfCode code e.what
of_code code limits valid sound h e past = record {
  classes = λ o names. let made = (names_made (code_program code limits) (code_is_tame code limits (valid_within code valid)) (valid_chords_right code limits valid).some (e ∷ h) past).1 o names in
      made_right code limits h past.0 made.0 o.class made.1 made.3;
  method = sound.methods h e past;
}
