-- Each instruction makes the machine lighter.
use Rattle.std.proofs.Common.{◌≡◌, ℕ, zero, suc, ◌+◌, ◌*◌, ◌<◌, ◌≤◌, List, [], ◌∷◌, true, false, Option, Some, None, length, refl, sym, ◌∙◌, ap, subst, arith, ⊎_elim, drop}
use Rattle.std.specs.Prelude.{slice_get}
use Rattle.std.proofs.lemmas.Option.{slice_get_past}
use Rattle.std.proofs.lemmas.Bool.{cases_lt}
use Rattle.chord_base.specs.declared.value.Value.{Value}
use Rattle.chord_base.specs.declared.value.Value.TheVariants as a_value
use Rattle.chord_base.specs.declared.event.What.{What}
use Rattle.chord_base.specs.declared.operation.Operation.{Operation}
use Rattle.chord_base.specs.declared.operation.Operation.TheVariants as ops
use Rattle.chord_code.specs.declared.instruction.Instruction.{Instruction}
use Rattle.chord_code.specs.declared.instruction.Instruction.TheVariants as instr
use Rattle.chord_code.specs.declared.parts.Block.{Block}
use Rattle.chord_code.specs.declared.parts.Parts.{Parts}
use Rattle.chord_base.specs.Operators.{Computed, Is, Trapped, Mistyped, compute, negated, denied, text_of}
use Rattle.chord_code.specs.Slots.{set_slot, first_slots}
use Rattle.chord_code.specs.Machine
use Rattle.chord_code.specs.Meaning.{IsAsked}
use Rattle.chord_code.specs.Fuel.{entered, items_of, sum_with, cost_with, whole, left, waits, below_sum, total, weight}

-- instructions from a place on cost at most what all cost
drop_less : (w : Instruction → ℕ) (p : ℕ) (xs : List Instruction) → sum_with w (drop p xs) ≤ sum_with w xs
drop_less w zero xs = omega arith
drop_less w (suc p) [] = omega arith
drop_less w (suc p) (x ∷ xs) = let h = drop_less w p xs in omega arith

-- instructions from a later place on cost at most what those from an earlier one on cost
drop_more : (w : Instruction → ℕ) (p q : ℕ) (xs : List Instruction) → p ≤ q → sum_with w (drop q xs) ≤ sum_with w (drop p xs)
drop_more w zero q xs h = drop_less w q xs
drop_more w (suc p) zero xs h = absurd (omega arith)
drop_more w (suc p) (suc q) [] h = omega arith
drop_more w (suc p) (suc q) (x ∷ xs) h = drop_more w p q xs (omega arith)

-- instructions from a place on cost what the one there costs and what those after it cost
left_at : (w : Instruction → ℕ) (xs : List Instruction) (p : ℕ) (i : Instruction) → slice_get xs p ≡ Some i → sum_with w (drop p xs) ≡ w i + sum_with w (drop (suc p) xs)
left_at w [] p i e = absurd (no e)
  where
    no : None ≡ Some i → ⊥
    no e = cc
left_at w (x ∷ xs) zero i e = let e' : x ≡ i = cc in ap (λ z. w z + sum_with w xs) e'
left_at w (x ∷ xs) (suc p) i e = left_at w xs p i e

-- a block below a number weighs at most what all blocks below it weigh
below_in : (code : Parts) (n b : ℕ) → b < n → left code b 0 ≤ below_sum code n
below_in code zero b h = absurd (omega arith)
below_in code (suc n) b h = ⊎_elim (λ lt. let r = below_in code n b lt in omega arith) (λ le. let e : b ≡ n = omega arith in subst (λ k. left code b 0 ≤ left code k 0 + below_sum code n) e (omega arith)) (cases_lt b n)

-- what is left of a block that has an instruction weighs at most what all blocks weigh
left-le_total : (code : Parts) (b p : ℕ) (i : Instruction) (q : ℕ) → slice_get (items_of (slice_get code.blocks b)) q ≡ Some i → left code b p ≤ total code
left-le_total code b p i q e =
    let w = drop_less (cost_with code (whole b code)) p (items_of (slice_get code.blocks b)) in
    ⊎_elim (λ lt. let r = below_in code (length code.blocks) b lt in omega arith)
    (λ le. absurd (no (sym (ap (λ o. slice_get (items_of o) q) (slice_get_past code.blocks b le)) ∙ e)))
    (cases_lt b (length code.blocks))
  where
    no : None ≡ Some i → ⊥
    no e = cc

-- an instruction that goes on leaves less to do, and one that asks waits for the answer of its ask
abbrev Lighter : Parts → Machine.Machine → Machine.Did → Type 0
Lighter code m (Machine.Goes m') = weight code m' < weight code m
Lighter code m (Machine.Asking a w) = IsAsked a w.awaited
Lighter code m Machine.Bad = Unit {0}

-- each instruction costs at least 1
some_cost : (code : Parts) (w : ℕ → ℕ) (i : Instruction) → 1 ≤ cost_with code w i
some_cost code w (instr.Init c) = omega arith
some_cost code w (instr.Int n) = omega arith
some_cost code w (instr.Text x) = omega arith
some_cost code w (instr.Flag b) = omega arith
some_cost code w (instr.Load i) = omega arith
some_cost code w (instr.Store i) = omega arith
some_cost code w instr.Drop = omega arith
some_cost code w instr.Neg = omega arith
some_cost code w instr.Not = omega arith
some_cost code w instr.Add = omega arith
some_cost code w instr.Sub = omega arith
some_cost code w instr.Mul = omega arith
some_cost code w instr.Div = omega arith
some_cost code w instr.Rem = omega arith
some_cost code w instr.Cat = omega arith
some_cost code w instr.Eq = omega arith
some_cost code w instr.Ne = omega arith
some_cost code w instr.Lt = omega arith
some_cost code w instr.Le = omega arith
some_cost code w instr.Gt = omega arith
some_cost code w instr.Ge = omega arith
some_cost code w (instr.Jump a) = omega arith
some_cost code w (instr.Skip a) = omega arith
some_cost code w (instr.Again a) = omega arith
some_cost code w (instr.New c n) = omega arith
some_cost code w (instr.Send j n) = omega arith
some_cost code w (instr.Call j n) = omega arith
some_cost code w instr.Print = omega arith
some_cost code w instr.End = omega arith
some_cost code w instr.Endv = omega arith
some_cost code w instr.Back = omega arith

-- an instruction that is there is the same where its options are
same_instr : (x y : Instruction) → Some x ≡ Some y → x ≡ y
same_instr x y e = cc

-- the instruction at a place of a block, if there is one, is that of its instructions
items_in : (o : Option Block) (p : ℕ) → slice_get (items_of o) p ≡ Machine.instr_in o p
items_in None p = refl
items_in (Some b) p = refl

-- the instruction at a place among those of a block is what is fetched there
items_fetch : (code : Parts) (b p : ℕ) → slice_get (items_of (slice_get code.blocks b)) p ≡ Machine.fetch code b p
items_fetch code b p = items_in (slice_get code.blocks b) p

-- each `init` of a list enters a block below b
abbrev Enters : Parts → ℕ → List Instruction → Type 0
Enters code b is = (q c : ℕ) → slice_get is q ≡ Some (instr.Init c) → (k n : ℕ) → Machine.builder_of code c ≡ Some (Some (k, n)) → k < b

-- two weights that are equal below b give one weight to what is entered below b
same_cost : (code : Parts) (b : ℕ) (f g : ℕ → ℕ) → ((k : ℕ) → k < b → f k ≡ g k) → (o : Option (Option (ℕ × ℕ))) → ((k n : ℕ) → o ≡ Some (Some (k, n)) → k < b) → entered f o ≡ entered g o
same_cost code b f g h None e = refl
same_cost code b f g h (Some None) e = refl
same_cost code b f g h (Some (Some p)) e = h p.0 (e p.0 p.1 refl)

-- two weights that are equal below b give one cost to an instruction that enters blocks below b only
same_one : (code : Parts) (b : ℕ) (f g : ℕ → ℕ) → ((k : ℕ) → k < b → f k ≡ g k) → (i : Instruction) → ((c : ℕ) → i ≡ instr.Init c → (k n : ℕ) → Machine.builder_of code c ≡ Some (Some (k, n)) → k < b) → cost_with code f i ≡ cost_with code g i
same_one code b f g h (instr.Init c) e = ap (λ n. suc (suc n)) (same_cost code b f g h (Machine.builder_of code c) (e c refl))
same_one code b f g h (instr.Int n) e = refl
same_one code b f g h (instr.Text x) e = refl
same_one code b f g h (instr.Flag x) e = refl
same_one code b f g h (instr.Load i) e = refl
same_one code b f g h (instr.Store i) e = refl
same_one code b f g h instr.Drop e = refl
same_one code b f g h instr.Neg e = refl
same_one code b f g h instr.Not e = refl
same_one code b f g h instr.Add e = refl
same_one code b f g h instr.Sub e = refl
same_one code b f g h instr.Mul e = refl
same_one code b f g h instr.Div e = refl
same_one code b f g h instr.Rem e = refl
same_one code b f g h instr.Cat e = refl
same_one code b f g h instr.Eq e = refl
same_one code b f g h instr.Ne e = refl
same_one code b f g h instr.Lt e = refl
same_one code b f g h instr.Le e = refl
same_one code b f g h instr.Gt e = refl
same_one code b f g h instr.Ge e = refl
same_one code b f g h (instr.Jump a) e = refl
same_one code b f g h (instr.Skip a) e = refl
same_one code b f g h (instr.Again a) e = refl
same_one code b f g h (instr.New c n) e = refl
same_one code b f g h (instr.Send j n) e = refl
same_one code b f g h (instr.Call j n) e = refl
same_one code b f g h instr.Print e = refl
same_one code b f g h instr.End e = refl
same_one code b f g h instr.Endv e = refl
same_one code b f g h instr.Back e = refl

-- two weights that are equal below b give one cost to instructions that enter blocks below b only
same_sum : (code : Parts) (b : ℕ) (f g : ℕ → ℕ) → ((k : ℕ) → k < b → f k ≡ g k) → (is : List Instruction) → Enters code b is → sum_with (cost_with code f) is ≡ sum_with (cost_with code g) is
same_sum code b f g h [] e = refl
same_sum code b f g h (i ∷ is) e =
    let a = same_one code b f g h i (λ c x. e 0 c (ap Some x)) in
    let r = same_sum code b f g h is (λ q c x. e (suc q) c x) in
    omega arith

-- two depths that are deep enough give one weight
same_whole : (code : Parts) → Machine.IsForward code → (n m b : ℕ) → b < n → b < m → whole n code b ≡ whole m code b
same_whole code fwd zero m b h k = absurd (omega arith)
same_whole code fwd (suc n) zero b h k = absurd (omega arith)
same_whole code fwd (suc n) (suc m) b h k =
    same_sum code b (whole n code) (whole m code) (λ j l. same_whole code fwd n m j (omega arith) (omega arith)) (items_of (slice_get code.blocks b))
    (λ q c x j i e. fwd.inits b q c j i (sym (items_fetch code b q) ∙ x) e)

module _ (code : Parts) (m : Machine.Machine) (here : Instruction) (within : slice_get (items_of (slice_get code.blocks m.top.block)) m.top.place ≡ Some here) where
  -- a machine at a later place of its block weighs less
  moves : (p : ℕ) (s vs : List Value) → m.top.place < p → weight code (Machine.with_top m p s vs m.turns) < weight code m
  moves p s vs h =
      let w = cost_with code (whole m.top.block code) in
      let xs = items_of (slice_get code.blocks m.top.block) in
      let a = left_at w xs m.top.place here within in
      let b = drop_more w (suc m.top.place) p xs h in
      let c = some_cost code (whole m.top.block code) here in
      omega arith

  -- a load leaves less to do
  loads_lighter : (o : Option Value) → Lighter code m (Machine.loads m o)
  loads_lighter None = tt
  loads_lighter (Some v) = moves (suc m.top.place) (v ∷ m.top.stack) m.top.slots (omega arith)

  -- new slots at the next place leave less to do
  stores_lighter : (s : List Value) (o : Option (List Value)) → Lighter code m (Machine.stores m s o)
  stores_lighter s None = tt
  stores_lighter s (Some vs) = moves (suc m.top.place) s vs (omega arith)

  -- a store leaves less to do
  store_lighter : (i : ℕ) (s : List Value) → Lighter code m (Machine.store_top i m s)
  store_lighter i [] = tt
  store_lighter i (v ∷ s) = stores_lighter s (set_slot i v m.top.slots)

  -- a drop leaves less to do
  pop_lighter : (s : List Value) → Lighter code m (Machine.pop_top m s)
  pop_lighter [] = tt
  pop_lighter (v ∷ s) = moves (suc m.top.place) s m.top.slots (omega arith)

  -- to push what was computed leaves less to do
  pushes_lighter : (s : List Value) (c : Computed) → Lighter code m (Machine.pushes m s c)
  pushes_lighter s (Is v) = moves (suc m.top.place) (v ∷ s) m.top.slots (omega arith)
  pushes_lighter s (Trapped t) = tt
  pushes_lighter s Mistyped = tt

  -- unary `-` leaves less to do
  negates_lighter : (s : List Value) → Lighter code m (Machine.negates m s)
  negates_lighter [] = tt
  negates_lighter (x ∷ s) = pushes_lighter s (negated x)

  -- `!` leaves less to do
  denies_lighter : (s : List Value) → Lighter code m (Machine.denies m s)
  denies_lighter [] = tt
  denies_lighter (x ∷ s) = pushes_lighter s (denied x)

  -- an operator leaves less to do
  operate_lighter : (op : Operation) (s : List Value) → Lighter code m (Machine.operate op m s)
  operate_lighter op [] = tt
  operate_lighter op (y ∷ []) = tt
  operate_lighter op (y ∷ x ∷ s) = pushes_lighter s (compute op x y)

  -- a jump forward on false leaves less to do
  skips_lighter : (a : ℕ) → m.top.place < a → (s : List Value) → Lighter code m (Machine.skips a m s)
  skips_lighter a h [] = tt
  skips_lighter a h (a_value.Unit ∷ s) = tt
  skips_lighter a h (a_value.Int n ∷ s) = tt
  skips_lighter a h (a_value.Text x ∷ s) = tt
  skips_lighter a h (a_value.Flag true ∷ s) = moves (suc m.top.place) s m.top.slots (omega arith)
  skips_lighter a h (a_value.Flag false ∷ s) = moves a s m.top.slots h
  skips_lighter a h (a_value.Ref o ∷ s) = tt

  -- a jump back that counts a turn leaves less to do
  turns_lighter : (a : ℕ) (s : List Value) (t : ℕ) → m.turns ≡ t → Lighter code m (Machine.turns_to a m s t)
  turns_lighter a s zero e = tt
  turns_lighter a s (suc t) e =
      let h = left-le_total code m.top.block a here m.top.place within in
      let T = total code in
      let k : m.turns * suc T ≡ t * suc T + suc T = ap (λ n. n * suc T) e ∙ omega arith in
      omega arith

  -- a jump back on true leaves less to do
  again_lighter : (a : ℕ) (s : List Value) → Lighter code m (Machine.again a m s)
  again_lighter a [] = tt
  again_lighter a (a_value.Unit ∷ s) = tt
  again_lighter a (a_value.Int n ∷ s) = tt
  again_lighter a (a_value.Text x ∷ s) = tt
  again_lighter a (a_value.Flag true ∷ s) = turns_lighter a s m.turns refl
  again_lighter a (a_value.Flag false ∷ s) = moves (suc m.top.place) s m.top.slots (omega arith)
  again_lighter a (a_value.Ref o ∷ s) = tt

  -- a `new` waits for its object
  makes_lighter : (c n r : ℕ) (o : Option (Option (ℕ × ℕ))) → Lighter code m (Machine.if_deeper r m (Machine.makes_object c n m o))
  makes_lighter c n zero o = tt
  makes_lighter c n (suc r) None = tt
  makes_lighter c n (suc r) (Some b) = (b, n, refl)

  -- a message waits for nothing
  send_lighter : (j : ℕ) (o : Option (List Value × List Value)) → Lighter code m (Machine.send_by j m o)
  send_lighter j None = tt
  send_lighter j (Some (xs, [])) = tt
  send_lighter j (Some (xs, a_value.Unit ∷ s)) = tt
  send_lighter j (Some (xs, a_value.Int n ∷ s)) = tt
  send_lighter j (Some (xs, a_value.Text x ∷ s)) = tt
  send_lighter j (Some (xs, a_value.Flag b ∷ s)) = tt
  send_lighter j (Some (xs, a_value.Ref o ∷ s)) = refl

  -- an ask that waits for its answer does so where it may trap for depth
  deeper_lighter : (r : ℕ) (a : What) (w : Machine.Waiting) → IsAsked a w.awaited → Lighter code m (Machine.if_deeper r m (Machine.Asking a w))
  deeper_lighter zero a w h = tt
  deeper_lighter (suc r) a w h = h

  -- a call waits for a value
  call_lighter : (j : ℕ) (o : Option (List Value × List Value)) → Lighter code m (Machine.call_by j m o)
  call_lighter j None = tt
  call_lighter j (Some (xs, [])) = tt
  call_lighter j (Some (xs, a_value.Unit ∷ s)) = tt
  call_lighter j (Some (xs, a_value.Int n ∷ s)) = tt
  call_lighter j (Some (xs, a_value.Text x ∷ s)) = tt
  call_lighter j (Some (xs, a_value.Flag b ∷ s)) = tt
  call_lighter j (Some (xs, a_value.Ref o ∷ s)) = deeper_lighter m.top.room _ _ refl

  -- a line waits for nothing
  print_by_lighter : (s : List Value) (t : Option (List ℕ)) → Lighter code m (Machine.print_by m s t)
  print_by_lighter s None = tt
  print_by_lighter s (Some t) = refl

  -- a line of the value on top waits for nothing
  print_lighter : (s : List Value) → Lighter code m (Machine.print_top m s)
  print_lighter [] = tt
  print_lighter (v ∷ s) = print_by_lighter s (text_of v)

  -- an end with the value on top may wait for anything
  end_lighter : (s : List Value) → Lighter code m (Machine.end_with m s)
  end_lighter [] = tt
  end_lighter (v ∷ s) = tt

  -- a way back leaves less to do
  back_lighter : (fs : List Machine.Frame) → m.below ≡ fs → Lighter code m (Machine.goes_back m fs)
  back_lighter [] e = tt
  back_lighter (f ∷ fs) e = let h : waits code m.below ≡ suc (left code f.block f.place) + waits code fs = ap (waits code) e in omega arith

  -- a block that an `init` enters leaves less to do
  enter_lighter : (c k : ℕ) (v : Value) (n : ℕ) → Machine.IsForward code → Machine.fetch code m.top.block m.top.place ≡ Some (instr.Init c) → Machine.builder_of code c ≡ Some (Some (k, n)) → (o : Option (List Value)) → Lighter code m (Machine.enters (Machine.begins_block k m.top.room m.turns (Machine.next_place m.top ∷ m.below) o))
  enter_lighter c k v n fwd f e None = tt
  enter_lighter c k v n fwd f e (Some vs) =
      let b = m.top.block in
      let h = fwd.inits b m.top.place c k n f e in
      let i : here ≡ instr.Init c = same_instr here (instr.Init c) (sym within ∙ items_fetch code b m.top.place ∙ f) in
      let l = left_at (cost_with code (whole b code)) (items_of (slice_get code.blocks b)) m.top.place (instr.Init c) (within ∙ ap Some i) in
      let w : entered (whole b code) (Machine.builder_of code c) ≡ whole b code k = ap (entered (whole b code)) e in
      let q : left code k 0 ≡ whole b code k = same_whole code fwd (suc k) b k (omega arith) h in
      omega arith

  -- an `init` leaves less to do
  init_lighter : Machine.IsForward code → (c : ℕ) → Machine.fetch code m.top.block m.top.place ≡ Some (instr.Init c) → (o : Option Value) (p : Option (Option (ℕ × ℕ))) → Machine.builder_of code c ≡ p → Lighter code m (Machine.init_by m o p)
  init_lighter fwd c f None p e = tt
  init_lighter fwd c f (Some v) None e = tt
  init_lighter fwd c f (Some v) (Some None) e = tt
  init_lighter fwd c f (Some v) (Some (Some b)) e = enter_lighter c b.0 v b.1 fwd f e (first_slots b.1 (v ∷ []))

  -- each instruction that goes on leaves less to do, and each that asks waits for the answer of its ask
  act_lighter : Machine.IsForward code → (i : Instruction) → Machine.fetch code m.top.block m.top.place ≡ Some i → Lighter code m (Machine.act code (Some i) m)
  act_lighter fwd (instr.Int n) e = loads_lighter (Some (a_value.Int n))
  act_lighter fwd (instr.Text t) e = loads_lighter (Some (a_value.Text t))
  act_lighter fwd (instr.Flag b) e = loads_lighter (Some (a_value.Flag b))
  act_lighter fwd (instr.Load i) e = loads_lighter (slice_get m.top.slots i)
  act_lighter fwd (instr.Store i) e = store_lighter i m.top.stack
  act_lighter fwd instr.Drop e = pop_lighter m.top.stack
  act_lighter fwd instr.Neg e = negates_lighter m.top.stack
  act_lighter fwd instr.Not e = denies_lighter m.top.stack
  act_lighter fwd instr.Add e = operate_lighter ops.Add m.top.stack
  act_lighter fwd instr.Sub e = operate_lighter ops.Subtract m.top.stack
  act_lighter fwd instr.Mul e = operate_lighter ops.Multiply m.top.stack
  act_lighter fwd instr.Div e = operate_lighter ops.Divide m.top.stack
  act_lighter fwd instr.Rem e = operate_lighter ops.Remainder m.top.stack
  act_lighter fwd instr.Cat e = operate_lighter ops.Join m.top.stack
  act_lighter fwd instr.Eq e = operate_lighter ops.Equal m.top.stack
  act_lighter fwd instr.Ne e = operate_lighter ops.NotEqual m.top.stack
  act_lighter fwd instr.Lt e = operate_lighter ops.Less m.top.stack
  act_lighter fwd instr.Le e = operate_lighter ops.LessOrEqual m.top.stack
  act_lighter fwd instr.Gt e = operate_lighter ops.Greater m.top.stack
  act_lighter fwd instr.Ge e = operate_lighter ops.GreaterOrEqual m.top.stack
  act_lighter fwd (instr.Jump a) e = moves a m.top.stack m.top.slots (fwd.jumps _ _ a e)
  act_lighter fwd (instr.Skip a) e = skips_lighter a (fwd.skips _ _ a e) m.top.stack
  act_lighter fwd (instr.Again a) e = again_lighter a m.top.stack
  act_lighter fwd (instr.New c n) e = makes_lighter c n m.top.room (Machine.builder_of code c)
  act_lighter fwd (instr.Init c) e = init_lighter fwd c e (slice_get m.top.slots 0) (Machine.builder_of code c) refl
  act_lighter fwd (instr.Send j n) e = send_lighter j (Machine.pops n [] m.top.stack)
  act_lighter fwd (instr.Call j n) e = call_lighter j (Machine.pops n [] m.top.stack)
  act_lighter fwd instr.Print e = print_lighter m.top.stack
  act_lighter fwd instr.End e = tt
  act_lighter fwd instr.Endv e = end_lighter m.top.stack
  act_lighter fwd instr.Back e = back_lighter m.below refl

-- an instruction that goes on leaves less to do
pub lighter : (code : Parts) (m m' : Machine.Machine) (i : Instruction) → Machine.IsForward code → Machine.fetch code m.top.block m.top.place ≡ Some i → Machine.act code (Some i) m ≡ Machine.Goes m' → weight code m' < weight code m
lighter code m m' i fwd e g =
    subst (Lighter code m) g (act_lighter code m i (items_fetch code m.top.block m.top.place ∙ e) fwd i e)

-- an instruction that asks waits for the answer of its ask
pub act_asked : (code : Parts) (m : Machine.Machine) (i : Instruction) (a : What) (w : Machine.Waiting) → Machine.IsForward code → Machine.fetch code m.top.block m.top.place ≡ Some i → Machine.act code (Some i) m ≡ Machine.Asking a w → IsAsked a w.awaited
act_asked code m i a w fwd e g =
    subst (Lighter code m) g (act_lighter code m i (items_fetch code m.top.block m.top.place ∙ e) fwd i e)
