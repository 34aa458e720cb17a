-- Values that go from the end of one list to the end of another.
use Rattle.std.proofs.Common.{◌≡◌, ℕ, zero, suc, ◌+◌, ◌-◌, ◌<◌, ◌≤◌, List, [], ◌∷◌, ◌++◌, Option, Some, None, length, refl, sym, ◌∙◌, ap, subst, arith, append_assoc, replicate, ⊎_elim, take, drop, length-drop}
use Rattle.std.specs.Prelude.{reverse, slice_get}
use Rattle.std.proofs.lemmas.Bool.{cases_lt}
use Rattle.std.proofs.lemmas.List.{reverse-append}
use Rattle.chord_base.specs.declared.value.Object.{Object}
use Rattle.chord_base.specs.declared.value.Value.{Value}
use Rattle.chord_base.specs.declared.value.Value.TheVariants as a_value
use Rattle.chord_code.specs.declared.parts.Block.{Block}
use Rattle.chord_code.specs.Slots.{first_slots}
use Rattle.chord_code.specs.Machine.{Machine, pops, begins_block, body_in, with_object, with_stack, pred_of}
use Rattle.chord_vm.specs.declared.frames.Frames.{Frames}
use Rattle.chord_vm.specs.Frames.{IsMoved, IsSpacious}
use Rattle.chord_vm.proofs.Slots.{slots_room, slots_of_fits, pops_fits, pops_split, append_nil}

-- one more value moves
pub moved_more : (n k : ℕ) (from mid from' to between to' : List Value) (v : Value) → suc k ≡ n → from ≡ mid ++ v ∷ [] → IsMoved k mid from' to between → to' ≡ between ++ v ∷ [] → IsMoved n from from' to to'
moved_more n k from mid from' to between to' v e f m t =
    let r : reverse from ≡ v ∷ reverse mid = ap reverse f ∙ reverse-append mid (v ∷ []) in (
      m.0 ++ v ∷ [],
      t ∙ ap (λ l. l ++ v ∷ []) m.1 ∙ append_assoc to m.0 (v ∷ []),
      λ acc.
          ap (λ l. pops n acc l) r ∙ ap (λ i. pops i acc (v ∷ reverse mid)) (sym e) ∙ m.2 (v ∷ acc)
          ∙ ap (λ l. Some (l, reverse from')) (sym (append_assoc m.0 (v ∷ []) acc)),
    )

-- the slots of a block, filled from the end of a list
pub filled : (n k : ℕ) (this : Value) (from from' first to : List Value) → k < n → k ≤ length from → IsMoved k from from' (this ∷ []) first → to ≡ first ++ replicate (n - 1 - k) a_value.Unit → (xs : List Value) × (first_slots n (this ∷ xs) ≡ Some to) × (pops k [] (reverse from) ≡ Some (xs, reverse from'))
filled n k this from from' first to l h m t =
    let p : pops k [] (reverse from) ≡ Some (m.0, reverse from') = m.2 [] ∙ ap (λ z. Some (z, reverse from')) (append_nil m.0) in
    let c : length m.0 ≡ k = pops_length k [] (reverse from) m.0 (reverse from') p ∙ omega arith in
    let e : n - 1 - k ≡ n - suc (length m.0) = omega (arith, c) in (
      m.0,
      slots_fit n (this ∷ m.0) (omega (arith, c, l)) ∙ ap (λ z. Some ((this ∷ m.0) ++ replicate z a_value.Unit)) (sym e) ∙ ap Some (sym (t ∙ ap (λ z. z ++ replicate (n - 1 - k) a_value.Unit) m.1)),
      p,
    )
  where
    pops_length : (k : ℕ) (ys s xs s' : List Value) → pops k ys s ≡ Some (xs, s') → length xs ≡ k + length ys
    pops_length zero ys s xs s' e = (let z : ◌≡◌ {A = List Value × List Value} (ys, s) (xs, s') = cc in omega (arith, ap (λ p. length p.0) z))
    pops_length (suc k) ys [] xs s' e = cc
    pops_length (suc k) ys (x ∷ s) xs s' e = (let r = pops_length k (x ∷ ys) s xs s' e in omega (arith, r))

    slots_fit : (n : ℕ) (xs : List Value) → length xs ≤ n → first_slots n xs ≡ Some (xs ++ replicate (n - length xs) a_value.Unit)
    slots_fit n xs h = slots_of_fits n xs h

-- a block for which there is room is there
pub spacious_block : (f : Frames) (o : Option Block) → IsSpacious f o → (b : Block) × (o ≡ Some b)
spacious_block f None h = absurd h
spacious_block f (Some b) h = (b, refl)

-- where a body begins, its values fit the block
pub started_room : (b : Block) (n room turns : ℕ) (xs : List Value) → (body_in (Some b) n room xs turns ≡ None → ⊥) → length xs ≤ b.slots
started_room b n room turns xs h = slots_room b.slots xs (λ e. h (ap (begins_block n room turns []) e))

-- the machine that begins with these slots
pub started_is : (b : Block) (n room turns : ℕ) (xs vs : List Value) → first_slots b.slots xs ≡ Some vs → body_in (Some b) n room xs turns ≡ Some (record { top = record { block = n; place = 0; room = room; stack = []; slots = vs }; below = []; turns = turns })
started_is b n room turns xs vs e = ap (begins_block n room turns []) e

-- one more block
pub most_more : (blocks : List Block) (i most more : ℕ) (b : Block) → slice_get blocks i ≡ Some b → b.slots ≤ more → most ≤ more → ((j : ℕ) (c : Block) → j < i → slice_get blocks j ≡ Some c → c.slots ≤ most) → (j : ℕ) (c : Block) → j < i + 1 → slice_get blocks j ≡ Some c → c.slots ≤ more
most_more blocks i most more b e l m h j c k s =
    ⊎_elim (λ lt. let r = h j c lt s in omega (arith, r, m))
    (λ le.
    let q : j ≡ i = omega (arith, le, k) in
    let z : Some b ≡ Some c = sym e ∙ ap (slice_get blocks) (sym q) ∙ s in
    let w : b ≡ c = cc in
    let r : c.slots ≤ more = subst (λ (d : Block). d.slots ≤ more) w l in r)
    (cases_lt j i)

-- where the object comes, its arguments are there
pub with_object_pops : (m : Machine) (b : Option (ℕ × ℕ)) (o : Object) (n : ℕ) (s : List Value) → (with_object m b o (pops n [] (reverse s)) ≡ None → ⊥) → n ≤ length s
with_object_pops m b o n s h = pops_fits n s (λ e. h (ap (with_object m b o) e))

-- where it has a builder, the builder has room for the object and the arguments
pub with_object_fits : (m : Machine) (b k : ℕ) (o : Object) (n : ℕ) (s : List Value) → (with_object m (Some (b, k)) o (pops n [] (reverse s)) ≡ None → ⊥) → n < k
with_object_fits m b k o n s h =
    let le = with_object_pops m (Some (b, k)) o n s h in
    let p = pops_split s n (length s - n) le (omega (arith, le)) in
    let xs = drop (length s - n) s in
    let r = slots_room k (a_value.Ref o ∷ xs) (λ e. h (ap (with_object m (Some (b, k)) o) p ∙ ap (begins_block b (pred_of m.top.room) m.turns (with_stack m.top (a_value.Ref o ∷ reverse (take (length s - n) s)) ∷ m.below)) e)) in
    omega (arith, r, le, length-drop (length s - n) s)
