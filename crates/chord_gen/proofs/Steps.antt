-- How a machine follows a play, one instruction at a time.
use Rattle.std.proofs.Common.{◌≡◌, ℕ, zero, suc, ◌+◌, List, [], ◌∷◌, ◌++◌, true, false, Option, Some, None, length, refl, sym, ◌∙◌, ap, subst, arith}
use Rattle.chord_base.specs.declared.value.Object.{Object}
use Rattle.chord_base.specs.declared.value.Value.{Value}
use Rattle.chord_base.specs.declared.value.Value.TheVariants.{Unit as NoValue, Int, Flag, Text, Ref}
use Rattle.chord_base.specs.declared.event.Trap.TheVariants.{OutOfTurns, TooDeep}
use Rattle.chord_base.specs.declared.event.End.{End}
use Rattle.chord_base.specs.declared.event.End.TheVariants.{Traps}
use Rattle.chord_base.specs.declared.event.What.{What}
use Rattle.chord_base.specs.declared.event.What.TheVariants.{Made, Sent, Called, Printed, Ended}
use Rattle.chord_code.specs.declared.instruction.Instruction.{Instruction}
use Rattle.chord_code.specs.declared.parts.Parts.{Parts}
use Rattle.chord_code.specs.declared.awaited.Awaited.TheVariants.{ForNothing, ForValue}
use Rattle.chord_base.specs.Operators.{Computed, Is, Trapped, Mistyped}
use Rattle.chord_code.specs.Machine.{Frame, Machine, Waiting, Goes, Asking, fetch, with_top, pops, pushes, skips, turns_to, again, call_by, send_by, print_by, enters, step, goes_on, run, ComesTo}
use Rattle.chord_code.specs.Plays.{Play, MakesObject, SendsMessage, CallsMethod, PrintsLine, EndsBody, GoesWrong, Plays}
use Rattle.chord_source.specs.Continuing.{on_computed, on_found, with_room, call_on, send_to, branch, take_turn}

-- these instructions stand at this place of a block
abbrev pub HasAt : Parts → ℕ → ℕ → List Instruction → Type 0
HasAt code b p [] = Unit {0}
HasAt code b p (x ∷ xs) = (fetch code b p ≡ Some x) × HasAt code b (suc p) xs

-- where a list of instructions stands, its front stands
pub front_at : (code : Parts) (b p : ℕ) (xs ys : List Instruction) → HasAt code b p (xs ++ ys) → HasAt code b p xs
front_at code b p [] ys h = tt
front_at code b p (x ∷ xs) ys h = (h.0, front_at code b (suc p) xs ys h.1)

-- where a list of instructions stands, its back stands behind the front
pub back_at : (code : Parts) (b p : ℕ) (xs ys : List Instruction) → HasAt code b p (xs ++ ys) → HasAt code b (p + length xs) ys
back_at code b p [] ys h = let e : p ≡ p + 0 = omega arith in subst (λ q. HasAt code b q ys) e h
back_at code b p (x ∷ xs) ys h =
    let e : suc p + length xs ≡ p + suc (length xs) = omega arith in
    subst (λ q. HasAt code b q ys) e (back_at code b (suc p) xs ys h.1)

-- a machine in a block, at this place
abbrev pub here : ℕ → ℕ → List Frame → ℕ → List Value → List Value → ℕ → Machine
here b room below p s vs t = record {
  top = record { block = b; place = p; room = room; stack = s; slots = vs };
  below = below;
  turns = t;
}

-- the stack once these values were pushed
abbrev pub all_pushed : List Value → List Value → List Value
all_pushed [] s = s
all_pushed (x ∷ xs) s = all_pushed xs (x ∷ s)

-- what pops values that were pushed pops those below them next
pops_more : (xs : List Value) (m : ℕ) (ys s : List Value) → pops (length xs + m) ys (all_pushed xs s) ≡ pops m (xs ++ ys) s
pops_more [] m ys s = let e : 0 + m ≡ m = omega arith in ap (λ n. pops n ys s) e
pops_more (x ∷ xs) m ys s =
    let e : suc (length xs) + m ≡ length xs + suc m = omega arith in
    ap (λ n. pops n ys (all_pushed xs (x ∷ s))) e ∙ pops_more xs (suc m) ys (x ∷ s)

-- nothing behind values changes nothing
append_nil : (xs : List Value) → xs ++ [] ≡ xs
append_nil [] = refl
append_nil (x ∷ xs) = ap (λ ys. x ∷ ys) (append_nil xs)

-- as many values as were pushed are popped, in their order
pub pushed_are_popped : (xs s : List Value) → pops (length xs) [] (all_pushed xs s) ≡ Some (xs, s)
pushed_are_popped xs s =
    let e : length xs ≡ length xs + 0 = omega arith in
    ap (λ n. pops n [] (all_pushed xs s)) e ∙ pops_more xs 0 [] s ∙ ap (λ ys. Some (ys, s)) (append_nil xs)

-- the same where their number is told
pub pushed_are_popped_as : (xs : List Value) (n : ℕ) (s : List Value) → length xs ≡ n → pops n [] (all_pushed xs s) ≡ Some (xs, s)
pushed_are_popped_as xs n s e = ap (λ m. pops m [] (all_pushed xs s)) (sym e) ∙ pushed_are_popped xs s

module _ (code : Parts) where
  -- what a machine comes to, one that goes to it comes to
  comes_later : (m m' : Machine) (a : What) (w : Waiting) → step code m ≡ Goes m' → ComesTo code m' a w → ComesTo code m a w
  comes_later m m' a w e c = record { count = suc c.count; by = ap (goes_on (run code c.count)) e ∙ c.by }

  -- a machine comes to what its instruction asks
  pub comes_now : (m : Machine) (a : What) (w : Waiting) → step code m ≡ Asking a w → ComesTo code m a w
  comes_now m a w e = record { count = 1; by = ap (goes_on (run code 0)) e }

  -- a machine plays what the one plays to which its instruction goes
  pub plays_on : (m m' : Machine) (q : Play) → step code m ≡ Goes m' → Plays code q (Some m') → Plays code q (Some m)
  plays_on m m' (MakesObject c k) e h = (h.0, comes_later m m' (Made c) h.0 e h.1, h.2)
  plays_on m m' (SendsMessage o j xs q) e h = (h.0, comes_later m m' (Sent o j xs) h.0 e h.1, h.2)
  plays_on m m' (CallsMethod r o j xs k) e h = (h.0, comes_later m m' (Called o j xs) h.0 e h.1, h.2, h.3)
  plays_on m m' (PrintsLine v q) e h = (h.0, comes_later m m' (Printed v) h.0 e h.1, h.2)
  plays_on m m' (EndsBody x) e h = (h.0, comes_later m m' (Ended x) h.0 e h.1)
  plays_on m m' GoesWrong e h = tt

  -- a machine that asks an end plays it
  pub plays_end : (m : Machine) (x : End) → step code m ≡ Asking (Ended x) (record { machine = m; awaited = ForNothing }) → Plays code (EndsBody x) (Some m)
  plays_end m x e = (record { machine = m; awaited = ForNothing }, comes_now m (Ended x) _ e)

  -- a machine that goes on with a value that is there plays what goes on with it
  pub plays_found : (m : Machine) (o : Option Value) (m' : Value → Machine) (k : Value → Play) → ((v : Value) → o ≡ Some v → step code m ≡ Goes (m' v)) → ((v : Value) → Plays code (k v) (Some (m' v))) → Plays code (on_found o k) (Some m)
  plays_found m None m' k e h = tt
  plays_found m (Some v) m' k e h = plays_on m (m' v) (k v) (e v refl) (h v)

  -- a machine that goes on with slots that are there plays what goes on with them
  pub plays_stored : (m : Machine) (o : Option (List Value)) (m' : List Value → Machine) (k : List Value → Play) → ((v : List Value) → o ≡ Some v → step code m ≡ Goes (m' v)) → ((v : List Value) → Plays code (k v) (Some (m' v))) → Plays code (on_found o k) (Some m)
  plays_stored m None m' k e h = tt
  plays_stored m (Some v) m' k e h = plays_on m (m' v) (k v) (e v refl) (h v)

  -- a machine that pushes what an operator gives plays what goes on with it
  pub plays_computed : (m : Machine) (s : List Value) (c : Computed) (k : Value → Play) → step code m ≡ pushes m s c → ((v : Value) → Plays code (k v) (Some (with_top m (suc m.top.place) (v ∷ s) m.top.slots m.turns))) → Plays code (on_computed c k) (Some m)
  plays_computed m s (Is v) k e h = plays_on m _ (k v) e (h v)
  plays_computed m s (Trapped t) k e h = plays_end m (Traps t) e
  plays_computed m s Mistyped k e h = tt

  -- a machine that skips where a value is false plays what branches by it
  pub plays_branch : (m : Machine) (v : Value) (a : ℕ) (s : List Value) (p q : Play) → step code m ≡ skips a m (v ∷ s) → Plays code p (Some (with_top m (suc m.top.place) s m.top.slots m.turns)) → Plays code q (Some (with_top m a s m.top.slots m.turns)) → Plays code (branch v p q) (Some m)
  plays_branch m NoValue a s p q e hp hq = tt
  plays_branch m (Int n) a s p q e hp hq = tt
  plays_branch m (Text x) a s p q e hp hq = tt
  plays_branch m (Flag true) a s p q e hp hq = plays_on m _ p e hp
  plays_branch m (Flag false) a s p q e hp hq = plays_on m _ q e hq
  plays_branch m (Ref o) a s p q e hp hq = tt

  -- a machine that counts a turn and goes back plays what takes a turn
  plays_turn : (m : Machine) (t a : ℕ) (s : List Value) (k : ℕ → Play) → step code m ≡ turns_to a m s t → ((t' : ℕ) → Plays code (k t') (Some (with_top m a s m.top.slots t'))) → Plays code (take_turn t k) (Some m)
  plays_turn m zero a s k e h = plays_end m (Traps OutOfTurns) e
  plays_turn m (suc t) a s k e h = plays_on m _ (k t) e (h t)

  -- a machine that goes back where a value is true plays what takes a turn there
  pub plays_again : (m : Machine) (v : Value) (a : ℕ) (s : List Value) (k : ℕ → Play) (q : Play) → step code m ≡ again a m (v ∷ s) → ((t' : ℕ) → Plays code (k t') (Some (with_top m a s m.top.slots t'))) → Plays code q (Some (with_top m (suc m.top.place) s m.top.slots m.turns)) → Plays code (branch v (take_turn m.turns k) q) (Some m)
  plays_again m NoValue a s k q e h hq = tt
  plays_again m (Int n) a s k q e h hq = tt
  plays_again m (Text x) a s k q e h hq = tt
  plays_again m (Flag true) a s k q e h hq = plays_turn m m.turns a s k e h
  plays_again m (Flag false) a s k q e h hq = plays_on m _ q e hq
  plays_again m (Ref o) a s k q e h hq = tt

  -- a machine that calls where there is room plays the call, and else the trap
  plays_room : (room : ℕ) (m : Machine) (o : Object) (j : ℕ) (xs s : List Value) (k : Value → Play) → m.top.room ≡ room → step code m ≡ call_by j m (Some (xs, Ref o ∷ s)) → ((v : Value) → Plays code (k v) (Some (with_top m (suc m.top.place) (v ∷ s) m.top.slots m.turns))) → Plays code (with_room room (CallsMethod room o j xs k)) (Some m)
  plays_room zero m o j xs s k e st h = plays_end m (Traps TooDeep) (st ∙ rw e refl)
  plays_room (suc r) m o j xs s k e st h =
      (record { machine = with_top m (suc m.top.place) s m.top.slots m.turns; awaited = ForValue }, comes_now m _ _ (st ∙ rw e refl), e, h)

  -- a machine that calls a receiver plays the call
  pub plays_call : (m : Machine) (r : Value) (j : ℕ) (xs s : List Value) (k : Value → Play) → step code m ≡ call_by j m (Some (xs, r ∷ s)) → ((v : Value) → Plays code (k v) (Some (with_top m (suc m.top.place) (v ∷ s) m.top.slots m.turns))) → Plays code (call_on m.top.room r j xs k) (Some m)
  plays_call m NoValue j xs s k e h = tt
  plays_call m (Int n) j xs s k e h = tt
  plays_call m (Text x) j xs s k e h = tt
  plays_call m (Flag b) j xs s k e h = tt
  plays_call m (Ref o) j xs s k e h = plays_room m.top.room m o j xs s k refl e h

  -- a machine that sends to a receiver plays the message
  pub plays_send : (m : Machine) (r : Value) (j : ℕ) (xs s : List Value) (q : Play) → step code m ≡ send_by j m (Some (xs, r ∷ s)) → Plays code q (Some (with_top m (suc m.top.place) s m.top.slots m.turns)) → Plays code (send_to r j xs q) (Some m)
  plays_send m NoValue j xs s q e h = tt
  plays_send m (Int n) j xs s q e h = tt
  plays_send m (Text x) j xs s q e h = tt
  plays_send m (Flag b) j xs s q e h = tt
  plays_send m (Ref o) j xs s q e h =
      (record { machine = with_top m (suc m.top.place) s m.top.slots m.turns; awaited = ForNothing }, comes_now m _ _ e, h)

  -- a machine that prints a text that is there plays the line
  pub plays_print : (m : Machine) (o : Option (List ℕ)) (s : List Value) (q : Play) → step code m ≡ print_by m s o → Plays code q (Some (with_top m (suc m.top.place) s m.top.slots m.turns)) → Plays code (on_found o (λ t. PrintsLine t q)) (Some m)
  plays_print m None s q e h = tt
  plays_print m (Some t) s q e h = (record { machine = with_top m (suc m.top.place) s m.top.slots m.turns; awaited = ForNothing }, comes_now m _ _ e, h)

  -- a machine that enters a block plays what the block does
  pub plays_enter : (m : Machine) (o : Option Machine) (q : Play) → step code m ≡ enters o → Plays code q o → Plays code q (Some m)
  plays_enter m (Some m') q e h = plays_on m m' q e h
  plays_enter m None (MakesObject c k) e h = absurd h
  plays_enter m None (SendsMessage o j xs q) e h = absurd h
  plays_enter m None (CallsMethod r o j xs k) e h = absurd h
  plays_enter m None (PrintsLine v q) e h = absurd h
  plays_enter m None (EndsBody x) e h = absurd h
  plays_enter m None GoesWrong e h = tt
