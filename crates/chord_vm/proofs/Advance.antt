-- From one instruction to the next ask.
use Rattle.std.proofs.Common.{◌≡◌, ℕ, ℤ, zero, suc, ◌+◌, ◌^◌, ◌<◌, ◌≤◌, List, [], ◌∷◌, Option, Some, None, length, get_or, refl, sym, ◌∙◌, ap, subst, arith, ◌⊎◌, inl, inr, ⊎_elim}
use Rattle.std.specs.Prelude.{slice_get}
use Rattle.std.proofs.lemmas.Option.{slice_get_past}
use Rattle.std.proofs.lemmas.Bool.{cases_lt}
use Rattle.chord_base.specs.declared.event.End.TheVariants.{Gives}
use Rattle.chord_base.specs.declared.event.What.{What}
use Rattle.chord_base.specs.declared.event.What.TheVariants.{Made, Sent, Called, Printed, Ended}
use Rattle.chord_vm.specs.declared.ask.Ask.{Ask}
use Rattle.chord_vm.specs.declared.ask.Ask.TheVariants as ask
use Rattle.chord_code.specs.declared.instruction.Instruction.{Instruction}
use Rattle.chord_code.specs.declared.instruction.Instruction.TheVariants as instr
use Rattle.chord_base.specs.declared.operation.Operation.{Operation}
use Rattle.chord_base.specs.declared.value.Value.{Value}
use Rattle.chord_base.specs.declared.value.Value.TheVariants as a_value
use Rattle.chord_code.specs.declared.awaited.Awaited.TheVariants.{ForNothing}
use Rattle.chord_code.specs.declared.parts.Block.{Block}
use Rattle.chord_code.specs.declared.parts.Parts.{Parts}
use Rattle.chord_vm.specs.declared.frames.Frames.{Frames}
use Rattle.chord_code.specs.Machine.{Machine, Waiting, Did, Goes, Asking, Bad, instr_in, fetch, act, step, loads, goes_on, run, ComesTo, ComesToAsk, IsForward, operate}
use Rattle.chord_code.specs.Within.{IsInstructionWithin}
use Rattle.chord_code.specs.Fuel.{weight}
use Rattle.chord_code.proofs.Weight.{lighter}
use Rattle.chord_vm.specs.Frames.{machine_of, waiting_of, SteppedTo, HasStepped, Advanced, instructions_of, instructions_in, frame_with, with_pushed}
use Rattle.chord_vm.specs.declared.step.After.{After}
use Rattle.chord_vm.specs.declared.step.After.TheVariants as steps

-- a machine that runs to an ask has an instruction that is defined
comes_good : (code : Parts) (m : Machine) (a : What) (w : Waiting) (n : ℕ) → run code n m ≡ Asking a w → step code m ≡ Bad → ⊥
comes_good code m a w zero e b = elim (no e) [ ]
  where
    no : Goes m ≡ Asking a w → ⊥
    no e = cc
comes_good code m a w (suc n) e b = elim (no (ap (goes_on (run code n)) (sym b) ∙ e)) [ ]
  where
    no : Bad ≡ Asking a w → ⊥
    no e = cc

-- a machine that comes to an ask has an instruction that is defined
pub not_bad : (code : Parts) (m : Machine) → ComesToAsk code m → step code m ≡ Bad → ⊥
not_bad code m d b = comes_good code m d.ask d.waiting d.comes.count d.comes.by b

-- what comes after an instruction comes before it too
pub comes_on : (code : Parts) (m m' : Machine) (a : What) (w : Waiting) → step code m ≡ Goes m' → ComesTo code m' a w → ComesTo code m a w
comes_on code m m' a w e c = record { count = suc c.count; by = ap (goes_on (run code c.count)) e ∙ c.by }

-- a machine that runs to an ask still comes to it after an instruction
rest_of : (code : Parts) (m m' : Machine) (a : What) (w : Waiting) (n : ℕ) → step code m ≡ Goes m' → run code n m ≡ Asking a w → ComesTo code m' a w
rest_of code m m' a w zero e r = elim (no r) [ ]
  where
    no : Goes m ≡ Asking a w → ⊥
    no e = cc
rest_of code m m' a w (suc n) e r = record { count = n; by = ap (goes_on (run code n)) (sym e) ∙ r }

-- a machine that comes to an ask still does after an instruction
pub defined_on : (code : Parts) (m m' : Machine) → step code m ≡ Goes m' → ComesToAsk code m → ComesToAsk code m'
defined_on code m m' e d = record { ask = d.ask; waiting = d.waiting; comes = rest_of code m m' d.ask d.waiting d.comes.count e d.comes.by }

-- a machine comes to the ask of its instruction
now : (code : Parts) (m : Machine) (a : What) (w : Waiting) → step code m ≡ Asking a w → ComesTo code m a w
now code m a w e = record { count = 1; by = ap (goes_on (run code 0)) e }

-- what one instruction comes to is what the machine comes to
pub stepped_advanced : (code : Parts) (m : Machine) (a : Ask) (f : Frames) → SteppedTo (step code m) (Some a) f → Advanced code m a f
stepped_advanced code m (ask.End e) f h = (h.0, now code m (Ended e) h.0 h.1)
stepped_advanced code m (ask.Make c) f h = now code m (Made c) (waiting_of f) h
stepped_advanced code m (ask.Send o j xs) f h = now code m (Sent o j xs) (waiting_of f) h
stepped_advanced code m (ask.Call o j xs) f h = now code m (Called o j xs) (waiting_of f) h
stepped_advanced code m (ask.Print v) f h = now code m (Printed v) (waiting_of f) h

-- after an instruction that comes to an ask, it was put
pub put_ask : (d : Did) (s : After) (o : Option Ask) (f : Frames) → s ≡ steps.Asks → HasStepped d s o f → (a : Ask) × (o ≡ Some a) × SteppedTo d (Some a) f
put_ask d steps.Goes o f e h = cc
put_ask d steps.Moves o f e h = cc
put_ask d steps.Fails o f e h = cc
put_ask d steps.Asks None f e h = absurd h
put_ask d steps.Asks (Some a) f e h = (a, refl, h)

-- an instruction that goes on comes to the machine of the frames
pub went_to : (d : Did) (s : After) (o : Option Ask) (f : Frames) → s ≡ steps.Goes → HasStepped d s o f → d ≡ Goes (machine_of f)
went_to d steps.Goes o f e h = h
went_to d steps.Moves o f e h = cc
went_to d steps.Fails o f e h = cc
went_to d steps.Asks o f e h = cc

-- an instruction that goes on in another block comes to the machine of the frames
pub moved_to : (d : Did) (s : After) (o : Option Ask) (f : Frames) → s ≡ steps.Moves → HasStepped d s o f → d ≡ Goes (machine_of f)
moved_to d steps.Moves o f e h = h
moved_to d steps.Goes o f e h = cc
moved_to d steps.Fails o f e h = cc
moved_to d steps.Asks o f e h = cc

-- after an instruction that goes on, what the machine comes to is what it came to before
pub advanced_on : (code : Parts) (m m' : Machine) (a : Ask) (f : Frames) → step code m ≡ Goes m' → Advanced code m' a f → Advanced code m a f
advanced_on code m m' (ask.End e) f s h = (h.0, comes_on code m m' (Ended e) h.0 s h.1)
advanced_on code m m' (ask.Make c) f s h = comes_on code m m' (Made c) (waiting_of f) s h
advanced_on code m m' (ask.Send o j xs) f s h = comes_on code m m' (Sent o j xs) (waiting_of f) s h
advanced_on code m m' (ask.Call o j xs) f s h = comes_on code m m' (Called o j xs) (waiting_of f) s h
advanced_on code m m' (ask.Print v) f s h = comes_on code m m' (Printed v) (waiting_of f) s h

-- an instruction, and those behind it
pub first_of : (code : Parts) (n : ℕ) (m m' : Machine) (d : Did) → step code m ≡ Goes m' → run code n m' ≡ d → run code (suc n) m ≡ d
first_of code n m m' d e r = ap (goes_on (run code n)) e ∙ r

-- one instruction
pub ran_once : (code : Parts) (m : Machine) → run code 1 m ≡ step code m
ran_once code m = nothing_behind (step code m)
  where
    nothing_behind : (d : Did) → goes_on (run code 0) d ≡ d
    nothing_behind (Goes k) = refl
    nothing_behind (Asking a w) = refl
    nothing_behind Bad = refl

-- where instructions go on, the first one does, and those behind it
ran_first : (code : Parts) (n : ℕ) (d : Did) (m' : Machine) → goes_on (run code n) d ≡ Goes m' → (k : Machine) × (d ≡ Goes k) × (run code n k ≡ Goes m')
ran_first code n (Goes k) m' e = (k, refl, e)
ran_first code n (Asking a w) m' e = cc
ran_first code n Bad m' e = cc

-- instructions behind others
pub ran_on : (code : Parts) (n k : ℕ) (m m' : Machine) (d : Did) → run code n m ≡ Goes m' → run code k m' ≡ d → (j : ℕ) × (run code j m ≡ d)
ran_on code zero k m m' d e r = (k, (let same : m ≡ m' = cc in subst (λ (x : Machine). run code k x ≡ d) (sym same) r))
ran_on code (suc n) k m m' d e r =
    let f = ran_first code n (step code m) m' e in
    let t = ran_on code n k f.0 m' d f.2 r in
    (suc t.0, first_of code t.0 m f.0 d f.1 t.1)

-- an instruction that goes on is there
did_some : (code : Parts) (m k : Machine) (o : Option Instruction) → act code o m ≡ Goes k → (i : Instruction) × (o ≡ Some i)
did_some code m k None e = cc
did_some code m k (Some i) e = (i, refl)

-- an instruction that goes on leaves less to do
step_lighter : (code : Parts) (m k : Machine) → IsForward code → step code m ≡ Goes k → weight code k < weight code m
step_lighter code m k forward e =
    let i = did_some code m k (fetch code m.top.block m.top.place) e in
    lighter code m k i.0 forward i.1 (ap (λ o. act code o m) (sym i.1) ∙ e)

-- instructions that go on leave no more to do
ran_light : (code : Parts) (n : ℕ) (m m' : Machine) → IsForward code → run code n m ≡ Goes m' → weight code m' ≤ weight code m
ran_light code zero m m' forward e = (let same : m ≡ m' = cc in omega (arith, ap (weight code) same))
ran_light code (suc n) m m' forward e =
    let k = ran_first code n (step code m) m' e in
    let first = step_lighter code m k.0 forward k.1 in
    let rest = ran_light code n k.0 m' forward k.2 in
    omega (arith, first, rest)

-- one or more instructions that go on leave less to do
pub ran_lighter : (code : Parts) (n : ℕ) (m m' : Machine) → IsForward code → run code (suc n) m ≡ Goes m' → weight code m' < weight code m
ran_lighter code n m m' forward e =
    let k = ran_first code n (step code m) m' e in
    let first = step_lighter code m k.0 forward k.1 in
    let rest = ran_light code n k.0 m' forward k.2 in
    omega (arith, first, rest)

-- a machine that comes to an ask still does after instructions that go on
pub ran_defined : (code : Parts) (n : ℕ) (m m' : Machine) → run code n m ≡ Goes m' → ComesToAsk code m → ComesToAsk code m'
ran_defined code zero m m' e d = (let same : m ≡ m' = cc in subst (ComesToAsk code) same d)
ran_defined code (suc n) m m' e d = (let k = ran_first code n (step code m) m' e in ran_defined code n k.0 m' k.2 (defined_on code m k.0 k.1 d))

-- after instructions that go on, what the machine comes to is what it came to before
pub ran_advanced : (code : Parts) (n : ℕ) (m m' : Machine) (a : Ask) (f : Frames) → run code n m ≡ Goes m' → Advanced code m' a f → Advanced code m a f
ran_advanced code zero m m' a f e h = (let same : m ≡ m' = cc in subst (λ k. Advanced code k a f) (sym same) h)
ran_advanced code (suc n) m m' a f e h = (let k = ran_first code n (step code m) m' e in advanced_on code m k.0 a f k.1 (ran_advanced code n k.0 m' a f k.2 h))

-- what instructions come to is what the machine comes to
pub ran_to_ask : (code : Parts) (n : ℕ) (m : Machine) (a : Ask) (f : Frames) → SteppedTo (run code n m) (Some a) f → Advanced code m a f
ran_to_ask code n m (ask.End e) f h = (h.0, record { count = n; by = h.1 })
ran_to_ask code n m (ask.Make c) f h = record { count = n; by = h }
ran_to_ask code n m (ask.Send o j xs) f h = record { count = n; by = h }
ran_to_ask code n m (ask.Call o j xs) f h = record { count = n; by = h }
ran_to_ask code n m (ask.Print v) f h = record { count = n; by = h }

-- the place is in the code
pub fetch_some : (code : Parts) (m : Machine) → ComesToAsk code m → fetch code m.top.block m.top.place ≡ None → ⊥
fetch_some code m d e = not_bad code m d (ap (λ o. act code o m) e)

-- the block of such a machine is there
pub block_in : (code : Parts) (m : Machine) → ComesToAsk code m → m.top.block < length code.blocks
block_in code m d =
    ⊎_elim (λ lt. lt)
    (λ le. absurd (fetch_some code m d (ap (λ o. instr_in o m.top.place) (slice_get_past code.blocks m.top.block le))))
    (cases_lt m.top.block (length code.blocks))

-- what stands at a place of a list is one item
get_at : {A : Type 0} (xs : List A) (n : ℕ) (x : A) → n < length xs → x ≡ get_or xs n x → slice_get xs n ≡ Some x
get_at [] n x l e = absurd (omega (arith, l))
get_at (y ∷ ys) zero x l e = ap Some (sym e)
get_at (y ∷ ys) (suc n) x l e = get_at ys n x (omega (arith, l)) e

-- the block of the machine's top frame
block_at : (code : Parts) (m : Machine) (b : Block) → ComesToAsk code m → b ≡ get_or code.blocks m.top.block b → slice_get code.blocks m.top.block ≡ Some b
block_at code m b d e = get_at code.blocks m.top.block b (block_in code m d) e

-- its instructions
pub at_work : (code : Parts) (m : Machine) (b : Block) → ComesToAsk code m → b ≡ get_or code.blocks m.top.block b → instructions_in code m.top.block ≡ Some b.instructions
at_work code m b d e = ap instructions_of (block_at code m b d e)

-- the instructions of a block that was found among these
pub work_of : (code code' : Parts) (blocks : List Block) (n : ℕ) (b : Block) → code' ≡ code → blocks ≡ code'.blocks → n < length blocks → b ≡ get_or blocks n b → instructions_in code n ≡ Some b.instructions
work_of code code' blocks n b same is l e =
    ap (λ l. instructions_of (slice_get l n)) (ap (λ p. p.blocks) (sym same) ∙ sym is) ∙ ap instructions_of (get_at blocks n b l e)

-- the instruction at a place of a block is that of its instructions
instr_of : (o : Option Block) (xs : List Instruction) (p : ℕ) → instructions_of o ≡ Some xs → instr_in o p ≡ slice_get xs p
instr_of None xs p e = absurd (no e)
  where
    no : None ≡ Some xs → ⊥
    no e = cc
instr_of (Some b) xs p e = (let z : b.instructions ≡ xs = cc in ap (λ l. slice_get l p) z)

-- what is fetched is one of the instructions at work
pub fetch_at : (code : Parts) (m : Machine) (xs : List Instruction) → instructions_in code m.top.block ≡ Some xs → fetch code m.top.block m.top.place ≡ slice_get xs m.top.place
fetch_at code m xs e = instr_of (slice_get code.blocks m.top.block) xs m.top.place e

-- the place is one of theirs
pub place_at : (code : Parts) (m : Machine) (xs : List Instruction) → ComesToAsk code m → instructions_in code m.top.block ≡ Some xs → m.top.place < length xs
place_at code m xs d e =
    ⊎_elim (λ lt. lt)
    (λ le. absurd (fetch_some code m d (fetch_at code m xs e ∙ slice_get_past xs m.top.place le)))
    (cases_lt m.top.place (length xs))

-- the instruction of the machine's place
pub fetched : (code : Parts) (m : Machine) (xs : List Instruction) (x : Instruction) → ComesToAsk code m → instructions_in code m.top.block ≡ Some xs → x ≡ get_or xs m.top.place x → fetch code m.top.block m.top.place ≡ Some x
fetched code m xs x d e f = fetch_at code m xs e ∙ get_at xs m.top.place x (place_at code m xs d e) f

-- the machine whose instruction pushes a number
pub number_pushed : (code : Parts) (m : Machine) (n : ℤ) → fetch code m.top.block m.top.place ≡ Some (instr.Int n) → step code m ≡ Goes (with_pushed (a_value.Int n) m)
number_pushed code m n e = ap (λ o. act code o m) e

-- a value that may be loaded is there
loaded : (m : Machine) (o : Option Value) → (loads m o ≡ Bad → ⊥) → (v : Value) × (o ≡ Some v)
loaded m None g = absurd (g refl)
loaded m (Some v) g = (v, refl)

-- the machine whose instruction pushes this value of a slot
pub value_pushed : (code : Parts) (m : Machine) (i : ℕ) (v : Value) → fetch code m.top.block m.top.place ≡ Some (instr.Load i) → slice_get m.top.slots i ≡ Some v → step code m ≡ Goes (with_pushed v m)
value_pushed code m i v e s = ap (λ o. act code o m) e ∙ ap (loads m) s

-- the machine whose instruction pushes what stands in a slot
pub load_pushed : (code : Parts) (m : Machine) (i : ℕ) → ComesToAsk code m → fetch code m.top.block m.top.place ≡ Some (instr.Load i) → (v : Value) × (slice_get m.top.slots i ≡ Some v) × (step code m ≡ Goes (with_pushed v m))
load_pushed code m i d e =
    let s : step code m ≡ loads m (slice_get m.top.slots i) = ap (λ o. act code o m) e in
    let v = loaded m (slice_get m.top.slots i) (λ b. not_bad code m d (s ∙ b)) in
    (v.0, v.1, value_pushed code m i v.0 e v.1)

-- the place behind an instruction that pushes is in the code
pub place_past : (code : Parts) (m : Machine) (xs : List Instruction) (v : Value) → ComesToAsk code m → instructions_in code m.top.block ≡ Some xs → step code m ≡ Goes (with_pushed v m) → m.top.place + 1 < length xs
place_past code m xs v d h e =
    let r : suc m.top.place < length xs = place_at code (with_pushed v m) xs (defined_on code m (with_pushed v m) e d) h in omega (arith, r)

-- the place behind a number is in the code
pub place_behind : (code : Parts) (m : Machine) (xs : List Instruction) (n : ℤ) → ComesToAsk code m → instructions_in code m.top.block ≡ Some xs → fetch code m.top.block m.top.place ≡ Some (instr.Int n) → m.top.place + 1 < length xs
place_behind code m xs n d h e = place_past code m xs (a_value.Int n) d h (number_pushed code m n e)

-- the machine whose instruction is its end
end_here : (code : Parts) (m : Machine) (f : Frames) → fetch code m.top.block m.top.place ≡ Some instr.End → Advanced code m (ask.End (Gives a_value.Unit)) f
end_here code m f e =
    let w : Waiting = record { machine = m; awaited = ForNothing } in
    (w, now code m (Ended (Gives a_value.Unit)) w (ap (λ o. act code o m) e))

-- the machine behind a jump to this place
abbrev jumped : ℕ → Machine → Machine
jumped p m = record { top = frame_with m.top p m.top.stack m.top.slots; below = m.below; turns = m.turns }

-- the machine whose instruction is its end, or a jump to it
pub advanced_to_end : (code : Parts) (m : Machine) (xs : List Instruction) (p : ℕ) (f : Frames) → instructions_in code m.top.block ≡ Some xs → (p ≡ m.top.place) ⊎ (slice_get xs m.top.place ≡ Some (instr.Jump p)) → slice_get xs p ≡ Some instr.End → Advanced code m (ask.End (Gives a_value.Unit)) f
advanced_to_end code m xs p f h (inl e) end = end_here code m f (fetch_at code m xs h ∙ ap (slice_get xs) (sym e) ∙ end)
advanced_to_end code m xs p f h (inr j) end =
    advanced_on code m (jumped p m) (ask.End (Gives a_value.Unit)) f (ap (λ o. act code o m) (fetch_at code m xs h ∙ j))
    (end_here code (jumped p m) f (fetch_at code (jumped p m) xs h ∙ end))

-- a number, and the operator behind it, where nothing else was done before
pub ran_operator : (code : Parts) (f f' : Frames) (m : Machine) (n : ℤ) (op : Operation) (i : Instruction) → f' ≡ f → step code (machine_of f) ≡ Goes (with_pushed (a_value.Int n) (machine_of f)) → fetch code f.top.block (suc f.top.place) ≡ Some i → ((k : Machine) → act code (Some i) k ≡ operate op k k.top.stack) → operate op (with_pushed (a_value.Int n) (machine_of f')) (a_value.Int n ∷ (machine_of f').top.stack) ≡ Goes m → run code 2 (machine_of f) ≡ Goes m
ran_operator code f f' m n op i same pushed behind acts goes =
    let between = with_pushed (a_value.Int n) (machine_of f) in
    let went = subst (λ (x : Frames). operate op (with_pushed (a_value.Int n) (machine_of x)) (a_value.Int n ∷ (machine_of x).top.stack) ≡ Goes m) same goes in
    first_of code 1 (machine_of f) between (Goes m) pushed (ran_once code between ∙ ap (λ o. act code o between) behind ∙ acts between ∙ went)

-- a run at work: the instruction at its place, that it comes to what it came to where it began, and that nothing is asked yet
pub record IsAtWork (code : Parts) (start : Frames) (xs : List Instruction) (f : Frames) (i : Instruction) (asked : Option Ask) : Type 0 where
  pub fetched : fetch code f.top.block f.top.place ≡ Some i
  pub here : instructions_in code f.top.block ≡ Some xs
  pub within : IsInstructionWithin i
  pub fits : f.top.place + 1 < 2 ^ 64
  pub defined : ComesToAsk code (machine_of f)
  pub goes_on : (a : Ask) (g : Frames) → Advanced code (machine_of f) a g → Advanced code (machine_of start) a g
  pub came : (n : ℕ) × (run code n (machine_of start) ≡ Goes (machine_of f))
  pub empty : asked ≡ None

-- a run at work still is after instructions that go on
pub works_on : (code : Parts) (n : ℕ) (start : Frames) (xs xs' : List Instruction) (f f' : Frames) (i i' : Instruction) (asked asked' : Option Ask) → IsAtWork code start xs f i asked → run code n (machine_of f) ≡ Goes (machine_of f') → instructions_in code f'.top.block ≡ Some xs' → fetch code f'.top.block f'.top.place ≡ Some i' → IsInstructionWithin i' → f'.top.place + 1 < 2 ^ 64 → asked' ≡ None → IsAtWork code start xs' f' i' asked'
works_on code n start xs xs' f f' i i' asked asked' w ran here fetched within fits empty = record {
  fetched = fetched;
  here = here;
  within = within;
  fits = fits;
  defined = ran_defined code n (machine_of f) (machine_of f') ran w.defined;
  goes_on = λ a g h. w.goes_on a g (ran_advanced code n (machine_of f) (machine_of f') a g ran h);
  came = ran_on code w.came.0 n (machine_of start) (machine_of f) (Goes (machine_of f')) w.came.1 ran;
  empty = empty;
}
