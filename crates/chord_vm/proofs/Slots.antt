-- Slots that are set, and values that are taken off the stack.
use Rattle.std.proofs.Common.{◌≡◌, ◌≢◌, ℕ, zero, suc, ◌+◌, ◌-◌, ◌<◌, ◌≤◌, List, [], ◌∷◌, ◌++◌, Option, Some, None, length, refl, sym, ◌∙◌, ap, arith, append_assoc, take, drop, length-drop, ⊎_elim, replicate}
use Rattle.std.specs.Prelude.{slice_get, slice_set, slice_index_or, reverse}
use Rattle.std.proofs.lemmas.Option.{slice_get_past}
use Rattle.std.proofs.lemmas.List.{take_all, reverse-append, length-reverse, take-append-drop}
use Rattle.std.proofs.lemmas.Bool.{cases_lt}
use Rattle.std.proofs.Math.Seq.{take-length}
use Rattle.chord_base.specs.declared.value.Value.{Value}
use Rattle.chord_base.specs.declared.value.Value.TheVariants as a_value
use Rattle.chord_code.specs.Slots.{set_slot, with_first, first_slots}
use Rattle.chord_base.specs.declared.operation.Operation.{Operation}
use Rattle.chord_base.specs.Operators.{Is, compute}
use Rattle.chord_code.specs.Machine.{Machine, Goes, Bad, with_top, stores, store_top, pops, pushes, operate}
use Rattle.chord_vm.specs.Frames.{frame_with, with_pushed}

-- a slot that is there is set
pub slots_set : (i : ℕ) (v : Value) (xs : List Value) → i < length xs → set_slot i v xs ≡ Some (slice_set xs i v)
slots_set i v [] h = absurd (omega arith)
slots_set zero v (x ∷ xs) h = refl
slots_set (suc i) v (x ∷ xs) h = ap (with_first x) (slots_set i v xs (omega arith))

-- a slot that is not there is not set
pub slots_past : (i : ℕ) (v : Value) (xs : List Value) → length xs ≤ i → set_slot i v xs ≡ None
slots_past i v [] h = refl
slots_past zero v (x ∷ xs) h = absurd (omega arith)
slots_past (suc i) v (x ∷ xs) h = ap (with_first x) (slots_past i v xs (omega arith))

-- a slot that is set is there
pub slots_within : (i : ℕ) (v : Value) (xs : List Value) → set_slot i v xs ≢ None → i < length xs
slots_within i v xs h = ⊎_elim (λ lt. lt) (λ le. absurd (h (slots_past i v xs le))) (cases_lt i (length xs))

-- a slot that has a value is there
pub slot_within : (i : ℕ) (v : Value) (xs : List Value) → slice_get xs i ≡ Some v → i < length xs
slot_within i v xs h = ⊎_elim (λ lt. lt) (λ le. absurd (no (sym (slice_get_past xs i le) ∙ h))) (cases_lt i (length xs))
  where
    no : None ≡ Some v → ⊥
    no e = cc

-- the values below the one on top of a stack
pub below_top : (v : Value) (xs : List Value) → slice_get xs 0 ≡ Some v → (s : List Value) × (xs ≡ v ∷ s)
below_top v [] e = cc
below_top v (x ∷ s) e = (let z : x ≡ v = cc in (s, ap (λ y. y ∷ s) z))

-- to pop a list that was pushed in its order, and then m more, is to pop these m before the list
pops_more : (b : List Value) (m : ℕ) (ys t : List Value) → pops (length b + m) ys (reverse b ++ t) ≡ pops m (b ++ ys) t
pops_more [] m ys t = let e : 0 + m ≡ m = omega arith in ap (λ n. pops n ys t) e
pops_more (x ∷ b) m ys t =
    let e : suc (length b) + m ≡ length b + suc m = omega arith in
    ap (λ l. pops (suc (length b) + m) ys (l ++ t)) (reverse-append (x ∷ []) b)
    ∙ ap (λ n. pops n ys ((reverse b ++ x ∷ []) ++ t)) e ∙ ap (λ l. pops (length b + suc m) ys l) (append_assoc (reverse b) (x ∷ []) t) ∙ pops_more b (suc m) ys (x ∷ t)

-- nothing more at the end
pub append_nil : (xs : List Value) → xs ++ [] ≡ xs
append_nil [] = refl
append_nil (x ∷ xs) = ap (λ ys. x ∷ ys) (append_nil xs)

-- the end of a list is popped in its order
pub pops_tail : (a b : List Value) (n : ℕ) → length b ≡ n → pops n [] (reverse (a ++ b)) ≡ Some (b, reverse a)
pops_tail a b n e =
    ap (λ m. pops m [] (reverse (a ++ b))) (sym e)
    ∙ ap (λ l. pops (length b) [] l) (reverse-append a b)
    ∙ (let z : length b ≡ length b + 0 = omega arith in ap (λ m. pops m [] (reverse b ++ reverse a)) z)
    ∙ pops_more b 0 [] (reverse a)
    ∙ ap (λ l. Some (l, reverse a)) (append_nil b)

-- no more is popped than is there
pub pops_short : (n : ℕ) (ys r : List Value) → length r < n → pops n ys r ≡ None
pops_short zero ys r h = absurd (omega arith)
pops_short (suc n) ys [] h = refl
pops_short (suc n) ys (x ∷ r) h = pops_short n (x ∷ ys) r (omega arith)

-- where `store` is defined the slot is there
pub stored_within : (i : ℕ) (m : Machine) (v : Value) (s vs : List Value) → m.top.stack ≡ v ∷ s → m.top.slots ≡ vs → (store_top i m m.top.stack ≡ Bad → ⊥) → i < length vs
stored_within i m v s vs st sl h =
    slots_within i v vs (λ e. h (ap (store_top i m) st ∙ ap (stores m s) (ap (set_slot i v) sl ∙ e)))

-- what `store` comes to
pub stored_goes : (i : ℕ) (m : Machine) (v : Value) (s vs : List Value) → m.top.stack ≡ v ∷ s → m.top.slots ≡ vs → i < length vs → store_top i m m.top.stack ≡ Goes (with_top m (suc m.top.place) s (slice_set vs i v) m.turns)
stored_goes i m v s vs st sl h =
    ap (store_top i m) st ∙ ap (stores m s) (ap (set_slot i v) sl ∙ slots_set i v vs h)

-- where values are popped they are there
pub pops_fits : (n : ℕ) (s : List Value) → (pops n [] (reverse s) ≡ None → ⊥) → n ≤ length s
pops_fits n s h = ⊎_elim (λ lt. absurd (h (pops_short n [] (reverse s) (omega (arith, length-reverse s))))) (λ le. le) (cases_lt (length s) n)

-- what is popped, and what is left
pub pops_split : (s : List Value) (n k : ℕ) → n ≤ length s → k + n ≡ length s → pops n [] (reverse s) ≡ Some (drop k s, reverse (take k s))
pops_split s n k h e =
    ap (λ l. pops n [] (reverse l)) (sym (take-append-drop k s))
    ∙ pops_tail (take k s) (drop k s) n (omega (arith, length-drop k s))

-- the rest of a list, read as a slice
pub slice_rest : (k : ℕ) (d items : List Value) → d ≡ items → take (length d - k) (drop k d) ≡ drop k items
slice_rest k d items e =
    ap (λ n. take n (drop k d)) (sym (length-drop k d)) ∙ take-length (drop k d) ∙ ap (drop k) e

-- a value goes before others that are there
with_first_some : (x : Value) (o : Option (List Value)) (xs : List Value) → o ≡ Some xs → with_first x o ≡ Some (x ∷ xs)
with_first_some x o xs e = ap (with_first x) e

-- the slots with which a block begins without values hold the unit value each
slots_of_nil : (n : ℕ) → first_slots n [] ≡ Some (replicate n a_value.Unit)
slots_of_nil zero = refl
slots_of_nil (suc n) = ap (with_first a_value.Unit) (slots_of_nil n)

-- the slots with which a block begins, where the values fit
pub slots_of_fits : (n : ℕ) (xs : List Value) → length xs ≤ n → first_slots n xs ≡ Some (xs ++ replicate (n - length xs) a_value.Unit)
slots_of_fits n [] h = slots_of_nil n ∙ (let e : n ≡ n - 0 = omega arith in ap (λ k. Some (replicate k a_value.Unit)) e)
slots_of_fits zero (x ∷ xs) h = absurd (omega arith)
slots_of_fits (suc n) (x ∷ xs) h =
    let e : n - length xs ≡ suc n - suc (length xs) = omega arith in
    ap (with_first x) (slots_of_fits n xs (omega arith)) ∙ ap (λ k. Some (x ∷ (xs ++ replicate k a_value.Unit))) e

-- a block does not begin with more values than it has slots
slots_of_short : (n : ℕ) (xs : List Value) → n < length xs → first_slots n xs ≡ None
slots_of_short n [] h = absurd (omega arith)
slots_of_short zero (x ∷ xs) h = refl
slots_of_short (suc n) (x ∷ xs) h = ap (with_first x) (slots_of_short n xs (omega arith))

-- where a block begins the values fit
pub slots_room : (n : ℕ) (xs : List Value) → (first_slots n xs ≡ None → ⊥) → length xs ≤ n
slots_room n xs h = ⊎_elim (λ lt. absurd (h (slots_of_short n xs lt))) (λ le. le) (cases_lt n (length xs))

-- the slots with which a block begins
pub slots_filled : (n : ℕ) (xs : List Value) → (first_slots n xs ≡ None → ⊥) → first_slots n xs ≡ Some (take n xs ++ replicate (n - length xs) a_value.Unit)
slots_filled n xs h =
    let le = slots_room n xs h in
    slots_of_fits n xs le ∙ ap (λ l. Some (l ++ replicate (n - length xs) a_value.Unit)) (sym (take_all n xs le))

-- a list whose last item is set
last_split : (xs : List Value) (i : ℕ) (x v : Value) → i + 1 ≡ length xs → x ≡ slice_index_or xs i x → (init : List Value) × (xs ≡ init ++ x ∷ []) × (slice_set xs i v ≡ init ++ v ∷ [])
last_split [] i x v l e = absurd (omega (arith, l))
last_split (y ∷ []) zero x v l e = ([], ap (λ z. z ∷ []) (sym e), refl)
last_split (y ∷ []) (suc i) x v l e = absurd (omega (arith, l))
last_split (y ∷ z ∷ ys) zero x v l e = absurd (omega (arith, l))
last_split (y ∷ z ∷ ys) (suc i) x v l e =
    let r = last_split (z ∷ ys) i x v (omega (arith, l)) e in (
      y ∷ r.0,
      ap (λ t. y ∷ t) r.1,
      ap (λ t. y ∷ t) r.2,
    )

-- an operator whose left operand is set
pub operated : (op : Operation) (m : Machine) (k : Value) (xs : List Value) (i p : ℕ) (x v : Value) → i + 1 ≡ length xs → x ≡ slice_index_or xs i x → compute op x k ≡ Is v → p ≡ suc (suc m.top.place) → operate op (with_pushed k m) (k ∷ reverse xs) ≡ Goes (record { top = frame_with m.top p (reverse (slice_set xs i v)) m.top.slots; below = m.below; turns = m.turns })
operated op m k xs i p x v l e c q =
    let t = last_split xs i x v l e in
    let before : reverse xs ≡ x ∷ reverse t.0 = ap reverse t.1 ∙ reverse-append t.0 (x ∷ []) in
    let after : reverse (slice_set xs i v) ≡ v ∷ reverse t.0 = ap reverse t.2 ∙ reverse-append t.0 (v ∷ []) in
    ap (λ s. operate op (with_pushed k m) (k ∷ s)) before
    ∙ ap (pushes (with_pushed k m) (reverse t.0)) c
    ∙ ap (λ s. Goes (record { top = frame_with m.top (suc (suc m.top.place)) s m.top.slots; below = m.below; turns = m.turns })) (sym after)
    ∙ ap (λ j. Goes (record { top = frame_with m.top j (reverse (slice_set xs i v)) m.top.slots; below = m.below; turns = m.turns })) (sym q)
