-- The blocks of a code do what the bodies and constructors of the source do.
use Rattle.std.proofs.Common.{◌≡◌, ℕ, zero, suc, ◌+◌, ◌-◌, ◌<◌, ◌≤◌, ◌==◌, List, [], ◌∷◌, ◌++◌, Bool, true, false, ◌||◌, cond, Option, Some, None, length, map, refl, sym, ◌∙◌, ap, subst, arith, length-append, append_assoc, slice_get}
use Rattle.std.proofs.Math.Seq.{get_or-append_seam}
use Rattle.std.specs.Prelude.{option_map, option_and_then, unwrap_or}
use Rattle.std.proofs.lemmas.Bool.{false≢true, eqb-true}
use Rattle.std.proofs.lemmas.Option.{none-some, same_Some, slice_get-get_or, slice_get-map, slice_get_within}
use Rattle.chord_base.specs.Messages.{has}
use Rattle.chord_base.specs.Meaning.{Start, Main, Chord}
use Rattle.chord_base.specs.Types.{Signatures}
use Rattle.chord_base.specs.declared.static_type.StaticType.{StaticType}
use Rattle.chord_base.specs.declared.value.Object.{Object}
use Rattle.chord_base.specs.declared.value.Value.{Value}
use Rattle.chord_base.specs.declared.value.Value.TheVariants.{Unit as NoValue, Ref}
use Rattle.chord_base.specs.declared.event.End.TheVariants.{Gives, Traps}
use Rattle.chord_base.specs.declared.event.Trap.TheVariants.{TooDeep}
use Rattle.chord_base.specs.declared.event.Limits.{Limits}
use Rattle.chord_bodies.specs.Resolved.{BodyOf, ClassOf, ChordOf, MethodOf, Resolved}
use Rattle.chord_bodies.specs.Resolved as body
use Rattle.chord_code.specs.declared.instruction.Instruction.{Instruction}
use Rattle.chord_code.specs.declared.instruction.Instruction.TheVariants as i
use Rattle.chord_code.specs.declared.parts.Block.{Block}
use Rattle.chord_code.specs.declared.parts.ClassLine.{ClassLine}
use Rattle.chord_code.specs.declared.parts.Parts.{Parts}
use Rattle.chord_code.specs.declared.awaited.Awaited.TheVariants.{ForObject}
use Rattle.chord_code.specs.Slots.{with_first, first_slots}
use Rattle.chord_code.specs.Machine.{Frame, instr_in, builder_in, builder_by, builder_of_line, builder_of, makes_object, init_by, enters, next_place, with_stack, with_object, begins_block, body_in, body_in_block, act, step, pops}
use Rattle.chord_code.specs.Meaning as meaning
use Rattle.chord_code.specs.Plays.{Play, MakesObject, Plays}
use Rattle.chord_code.specs.Sound.{HasMethod}
use Rattle.chord_code.specs.Valid.{line_is_sync}
use Rattle.chord_source.specs.Continuing.{Maker, on_found, return_nothing}
use Rattle.chord_source.specs.Statements.{execute_all, run_body}
use Rattle.chord_source.specs.Objects.{constructor_of, base_class, constructor_arity, class_arity, run_constructor, build, if_arity, make_object}
use Rattle.chord_source.specs.Source.{chord_body, class_chords, class_methods, plan_is_sync, play_of, source_program}
use Rattle.chord_source.specs.Laws.{StartFits}
use Rattle.chord_gen.specs.Emitted.{then_code, stmts_code}
use Rattle.chord_gen.specs.Translation.{has_own, builds, has_builder, Origin, OfMain, OfBuilder, OfBody, origins, block_number, body_block, init_code, own_code, own_slots, builder_block, block_of, method_line, chord_line, class_line, code_of}
use Rattle.chord_gen.proofs.Steps.{HasAt, front_at, back_at, here, all_pushed, pushed_are_popped, comes_now, plays_on, plays_end, plays_enter}
use Rattle.chord_gen.proofs.Follows.{MakerPlays, LeavingPlays, one_step, statements_play}
use Rattle.chord_gen.proofs.Numbers.{origin_at, body_numbered, builder_numbered, builder_absent, line_at, builds_alike}

-- the instructions of a block stand in it, from each place of it on
stands_from : (code : Parts) (b : ℕ) (k : Block) → slice_get code.blocks b ≡ Some k → (is pre : List Instruction) → k.instructions ≡ pre ++ is → HasAt code b (length pre) is
stands_from code b k e [] pre l = tt
stands_from code b k e (x ∷ is) pre l =
    let within : length pre < length (pre ++ x ∷ is) = omega (arith, length-append pre (x ∷ is)) in
    let at = slice_get-get_or (pre ++ x ∷ is) (length pre) x within ∙ ap Some (get_or-append_seam pre x is x) in
    let n : length (pre ++ x ∷ []) ≡ suc (length pre) = omega (arith, length-append pre (x ∷ [])) in
    let rest = stands_from code b k e is (pre ++ x ∷ []) (l ∙ sym (append_assoc pre (x ∷ []) is)) in
    (ap (λ o. instr_in o (length pre)) e ∙ ap (λ xs. slice_get xs (length pre)) l ∙ at, subst (λ m. HasAt code b m is) n rest)

-- no more values than there are slots fill them
enough_slots : (m : ℕ) (xs : List Value) → length xs ≤ m → (vs : List Value) × (first_slots m xs ≡ Some vs)
enough_slots zero [] h = ([], refl)
enough_slots zero (x ∷ xs) h = absurd (omega (arith, h))
enough_slots (suc m) [] h = let q = enough_slots m [] (omega arith) in (NoValue ∷ q.0, ap (with_first NoValue) q.1)
enough_slots (suc m) (x ∷ xs) h = let q = enough_slots m xs (omega (arith, h)) in (x ∷ q.0, ap (with_first x) q.1)

-- the first slot holds the first value
first_slot_is : (m : ℕ) (x : Value) (xs vs : List Value) → first_slots m (x ∷ xs) ≡ Some vs → slice_get vs 0 ≡ Some x
first_slot_is zero x xs vs e = absurd (none-some _ e)
first_slot_is (suc m) x xs vs e = by_rest (first_slots m xs) e
  where
    by_rest : (o : Option (List Value)) → with_first x o ≡ Some vs → slice_get vs 0 ≡ Some x
    by_rest None e = absurd (none-some _ e)
    by_rest (Some ws) e = ap (λ z. slice_get z 0) (sym (same_Some _ _ e))

-- the slots of a constructor suffice for the object and as many arguments as it takes
own_slots_suffice : (o : Option BodyOf) (x : Value) (xs : List Value) → length xs ≤ constructor_arity o → length (x ∷ xs) ≤ own_slots o
own_slots_suffice None x xs h = omega (arith, h)
own_slots_suffice (Some b) x xs h = omega (arith, h)

-- what builds an object of a class without a builder does nothing
nothing_is_built : (p : Resolved) (room : ℕ) (maker : Maker) (o : Option ClassOf) (n : ℕ) (v : Value) (xs : List Value) (k : ℕ → Play) (t : ℕ) → builds p o n ≡ false → build p room maker o n v xs k t ≡ k t
nothing_is_built p room maker None n v xs k t e = refl
nothing_is_built p room maker (Some x) zero v xs k t e = absurd (false≢true (sym e))
nothing_is_built p room maker (Some x) (suc n) v xs k t e =
    nothing_is_built p room maker (base_class p x) n v [] (run_constructor room maker (constructor_of p x) v xs k) t (right (has_own (constructor_of p x)) (builds p (base_class p x) n) e) ∙ by_own (constructor_of p x) (left (has_own (constructor_of p x)) (builds p (base_class p x) n) e)
  where
    left : (a b : Bool) → (a || b) ≡ false → a ≡ false
    left true b e = absurd (false≢true (sym e))
    left false b e = refl

    right : (a b : Bool) → (a || b) ≡ false → b ≡ false
    right true b e = absurd (false≢true (sym e))
    right false b e = e

    by_own : (o : Option BodyOf) → has_own o ≡ false → run_constructor room maker o v xs k t ≡ k t
    by_own None e = refl
    by_own (Some b) e = absurd (false≢true (sym e))

module _ (p : Resolved) (code : Parts) (is : code ≡ code_of p) (bases : (c b : ℕ) (x : ClassOf) → slice_get p.classes c ≡ Some x → x.base ≡ Some b → b < c) where
  -- at the number of an origin stands the block that is made from it
  block_there : (o : Origin) (n : ℕ) → block_number o (origins p) ≡ Some n → (k : Block) × (slice_get code.blocks n ≡ Some k) × (k ≡ block_of p o)
  block_there o n e = (block_of p o, ap (λ (z : Parts). slice_get z.blocks n) is ∙ slice_get-map (block_of p) (origins p) n ∙ ap (option_map (block_of p)) (origin_at o (origins p) n e), refl)

  -- the instructions of a block stand in it
  has_block : (n : ℕ) (k z : Block) → slice_get code.blocks n ≡ Some k → k ≡ z → HasAt code n 0 z.instructions
  has_block n k z e s = stands_from code n k e z.instructions [] (ap (λ (y : Block). y.instructions) s)

  -- the code's class of a number is the line of the plan's
  class_behind : (c : ℕ) → slice_get code.classes c ≡ option_map (class_line p c) (slice_get p.classes c)
  class_behind c = ap (λ (z : Parts). slice_get z.classes c) is ∙ line_at p c

  -- the line of a class of the plan is there
  class_there : (c : ℕ) (x : ClassOf) → slice_get p.classes c ≡ Some x → (k : ClassLine) × (slice_get code.classes c ≡ Some k) × (k ≡ class_line p c x)
  class_there c x e = (class_line p c x, class_behind c ∙ ap (option_map (class_line p c)) e, refl)

  -- the builder of a class is the block at the number that is told for it
  builder_by_number : (c : ℕ) (x : ClassOf) → slice_get p.classes c ≡ Some x → builder_of code c ≡ builder_by code (block_number (OfBuilder c) (origins p))
  builder_by_number c x e = let q = class_there c x e in ap (builder_of_line code) q.1 ∙ ap (λ (z : ClassLine). builder_by code z.builder) q.2

  -- a class without a builder is told none
  builder_is_absent : (c : ℕ) (x : ClassOf) → slice_get p.classes c ≡ Some x → has_builder p c ≡ false → builder_of code c ≡ Some None
  builder_is_absent c x e h = builder_by_number c x e ∙ ap (builder_by code) (builder_absent p c h)

  -- the block of the builder of a class, with its number
  record BuilderThere (c : ℕ) (x : ClassOf) : Type 0 where
    number : ℕ
    block : Block
    there : slice_get code.blocks number ≡ Some block
    same : block ≡ builder_block p (Some x)
    named : builder_of code c ≡ Some (Some (number, block.slots))

  -- a class with a builder is told its block, which is there
  builder_is_there : (c : ℕ) (x : ClassOf) → slice_get p.classes c ≡ Some x → has_builder p c ≡ true → BuilderThere c x
  builder_is_there c x e h =
      let n = builder_numbered p c x e h in
      let q = block_there (OfBuilder c) n.0 n.1 in
      record { number = n.0; block = q.0; there = q.1; same = q.2 ∙ ap (builder_block p) e; named = builder_by_number c x e ∙ ap (builder_by code) n.1 ∙ ap (λ o. builder_in o n.0) q.1 }

  -- `back` goes on with what follows a builder
  builder_goes_back : (room : ℕ) (np : MakerPlays code room (make_object p room)) (b : ℕ) (f : Frame) (below : List Frame) (k : ℕ → Play) → ((t : ℕ) → Plays code (k t) (Some (record { top = f; below = below; turns = t }))) → LeavingPlays code room (make_object p room) np b (f ∷ below) true (Some k)
  builder_goes_back room np b f below k h q vs t at =
      plays_on code (here b room (f ∷ below) q [] vs t) (record { top = f; below = below; turns = t }) (k t) (one_step code room (make_object p room) np b (f ∷ below) q [] vs t i.Back at) (h t)

  -- the code of a class's own constructor does what that does, and goes back
  constructor_plays : (room : ℕ) (np : MakerPlays code room (make_object p room)) (n : ℕ) (f : Frame) (below : List Frame) (own : Option BodyOf) (o : Value) (xs vs : List Value) → first_slots (own_slots own) (o ∷ xs) ≡ Some vs → (k : ℕ → Play) → ((t : ℕ) → Plays code (k t) (Some (record { top = f; below = below; turns = t })))
      → (q : ℕ) → HasAt code n q (own_code own q ++ i.Back ∷ []) → (t : ℕ) → Plays code (run_constructor room (make_object p room) own o xs k t) (Some (here n room (f ∷ below) q [] vs t))
  constructor_plays room np n f below None o xs vs e k h q at t = builder_goes_back room np n f below k h q vs t at.0
  constructor_plays room np n f below (Some b) o xs vs e k h q at t =
      let c = stmts_code true b.stmts q in
      let leaves = builder_goes_back room np n f below k h in
      subst (λ z. Plays code (on_found z (λ vs. execute_all room (make_object p room) (Some k) b.stmts (λ vs'. return_nothing (Some k)) vs t)) (Some (here n room (f ∷ below) q [] vs t))) (sym e)
      (statements_play code room (make_object p room) np n (f ∷ below) true (Some k) leaves b.stmts q (front_at code n q c _ at) (λ vs'. return_nothing (Some k)) (λ vs' t'. leaves (q + length c) vs' t' (back_at code n q c _ at).0) vs t)

  -- the builder of a class does what the constructors of the class and of those above it do
  builder_plays : (room : ℕ) (np : MakerPlays code room (make_object p room)) (count c : ℕ) (x : ClassOf) → c < count → slice_get p.classes c ≡ Some x → (n : ℕ) (k : Block) → slice_get code.blocks n ≡ Some k → k ≡ builder_block p (Some x) → (f : Frame) (below : List Frame) (o : Value) (xs : List Value) → length xs ≤ class_arity p x
      → (then : ℕ → Play) → ((t : ℕ) → Plays code (then t) (Some (record { top = f; below = below; turns = t }))) → (t : ℕ) → Plays code (build p room (make_object p room) (Some x) count o xs then t) (begins_block n room t (f ∷ below) (first_slots (own_slots (constructor_of p x)) (o ∷ xs)))
  builder_plays room np zero c x l e n k there same f below o xs few then h t = absurd (omega (arith, l))
  builder_plays room np (suc count) c x l e n k there same f below o xs few then h t =
      let slots = enough_slots (own_slots (constructor_of p x)) (o ∷ xs) (own_slots_suffice (constructor_of p x) o xs few) in
      let at = has_block n k (builder_block p (Some x)) there same in
      subst (λ z. Plays code (build p room (make_object p room) (Some x) (suc count) o xs then t) (begins_block n room t (f ∷ below) z)) (sym slots.1)
      (by_base slots.0 slots.1
      (λ b y less there2 m kb at2 is2 g then2 h2. builder_plays room np count b y less there2 m kb at2 is2 g (f ∷ below) o [] (omega arith) then2 h2 t)
      x.base refl at)
    where
      own : (vs : List Value) → first_slots (own_slots (constructor_of p x)) (o ∷ xs) ≡ Some vs → (q : ℕ) → HasAt code n q (own_code (constructor_of p x) q ++ i.Back ∷ []) → (t' : ℕ) → Plays code (run_constructor room (make_object p room) (constructor_of p x) o xs then t') (Some (here n room (f ∷ below) q [] vs t'))
      own vs e2 q at t' = constructor_plays room np n f below (constructor_of p x) o xs vs e2 then h q at t'

      -- a base with a builder: it begins, and goes back to the own constructor
      with_base : (vs : List Value) → first_slots (own_slots (constructor_of p x)) (o ∷ xs) ≡ Some vs → (b : ℕ) (y : ClassOf) → b < c → slice_get p.classes b ≡ Some y → has_builder p b ≡ true → HasAt code n 0 (then_code 0 (i.Init b ∷ []) (λ a. own_code (constructor_of p x) a ++ i.Back ∷ []))
          → ((m : ℕ) (kb : Block) → slice_get code.blocks m ≡ Some kb → kb ≡ builder_block p (Some y) → (g : Frame) (then2 : ℕ → Play) → ((t : ℕ) → Plays code (then2 t) (Some (record { top = g; below = f ∷ below; turns = t }))) → Plays code (build p room (make_object p room) (Some y) count o [] then2 t) (begins_block m room t (g ∷ f ∷ below) (first_slots (own_slots (constructor_of p y)) (o ∷ []))))
          → Plays code (build p room (make_object p room) (Some y) count o [] (run_constructor room (make_object p room) (constructor_of p x) o xs then) t) (Some (here n room (f ∷ below) 0 [] vs t))
      with_base vs e2 b y less there2 has at ih =
          let base = builder_is_there b y there2 has in
          let m = here n room (f ∷ below) 0 [] vs t in
          let slots : base.block.slots ≡ own_slots (constructor_of p y) = ap (λ (z : Block). z.slots) base.same in
          let then2 = run_constructor room (make_object p room) (constructor_of p x) o xs then in
          plays_enter code m (begins_block base.number room t (next_place m.top ∷ f ∷ below) (first_slots (own_slots (constructor_of p y)) (o ∷ []))) (build p room (make_object p room) (Some y) count o [] then2 t)
          (one_step code room (make_object p room) np n (f ∷ below) 0 [] vs t (i.Init b) at.0 ∙ ap (λ z. init_by m z (builder_of code b)) (first_slot_is (own_slots (constructor_of p x)) o xs vs e2) ∙ ap (init_by m (Some o)) base.named ∙ ap (λ z. enters (begins_block base.number room t (next_place m.top ∷ f ∷ below) (first_slots z (o ∷ [])))) slots)
          (ih base.number base.block base.there base.same (next_place m.top) then2 (λ t'. own vs e2 1 at.1 t'))

      without : (vs : List Value) → first_slots (own_slots (constructor_of p x)) (o ∷ xs) ≡ Some vs → (z : Option ClassOf) → builds p z count ≡ false → HasAt code n 0 (own_code (constructor_of p x) 0 ++ i.Back ∷ []) → Plays code (build p room (make_object p room) z count o [] (run_constructor room (make_object p room) (constructor_of p x) o xs then) t) (Some (here n room (f ∷ below) 0 [] vs t))
      without vs e2 z none at =
          subst (λ q. Plays code q (Some (here n room (f ∷ below) 0 [] vs t))) (sym (nothing_is_built p room (make_object p room) z count o [] (run_constructor room (make_object p room) (constructor_of p x) o xs then) t none)) (own vs e2 0 at t)

      by_base : (vs : List Value) → first_slots (own_slots (constructor_of p x)) (o ∷ xs) ≡ Some vs
          → ((b : ℕ) (y : ClassOf) → b < count → slice_get p.classes b ≡ Some y → (m : ℕ) (kb : Block) → slice_get code.blocks m ≡ Some kb → kb ≡ builder_block p (Some y) → (g : Frame) (then2 : ℕ → Play) → ((t : ℕ) → Plays code (then2 t) (Some (record { top = g; below = f ∷ below; turns = t }))) → Plays code (build p room (make_object p room) (Some y) count o [] then2 t) (begins_block m room t (g ∷ f ∷ below) (first_slots (own_slots (constructor_of p y)) (o ∷ []))))
          → (base : Option ℕ) → x.base ≡ base → HasAt code n 0 (then_code 0 (init_code p base) (λ a. own_code (constructor_of p x) a ++ i.Back ∷ []))
          → Plays code (build p room (make_object p room) (option_and_then (λ b. slice_get p.classes b) base) count o [] (run_constructor room (make_object p room) (constructor_of p x) o xs then) t) (Some (here n room (f ∷ below) 0 [] vs t))
      by_base vs e2 ih None q at = own vs e2 0 at t
      by_base vs e2 ih (Some b) q at = by_has (has_builder p b) refl at
        where
          less : b < c
          less = bases c b x e q

          same_count : builds p (slice_get p.classes b) count ≡ has_builder p b
          same_count = let w = slice_get_within p.classes c x e in let s = bases c b x e q in builds_alike p bases count (length p.classes) b (omega (arith, s, l)) (omega (arith, s, w))

          by_there : (z : Option ClassOf) → slice_get p.classes b ≡ z → has_builder p b ≡ true → HasAt code n 0 (then_code 0 (i.Init b ∷ []) (λ a. own_code (constructor_of p x) a ++ i.Back ∷ [])) → Plays code (build p room (make_object p room) z count o [] (run_constructor room (make_object p room) (constructor_of p x) o xs then) t) (Some (here n room (f ∷ below) 0 [] vs t))
          by_there None w has at = absurd (false≢true (sym (ap (λ z. builds p z (length p.classes)) w) ∙ has))
          by_there (Some y) w has at = let s = bases c b x e q in with_base vs e2 b y s w has at (ih b y (omega (arith, s, l)) w)

          by_has : (z : Bool) → has_builder p b ≡ z → HasAt code n 0 (then_code 0 (cond z (i.Init b ∷ []) []) (λ a. own_code (constructor_of p x) a ++ i.Back ∷ [])) → Plays code (build p room (make_object p room) (slice_get p.classes b) count o [] (run_constructor room (make_object p room) (constructor_of p x) o xs then) t) (Some (here n room (f ∷ below) 0 [] vs t))
          by_has true w at = by_there (slice_get p.classes b) refl w at
          by_has false w at = without vs e2 (slice_get p.classes b) (same_count ∙ w) at

  -- the instruction `new` does what `new` does in the source, at each depth
  pub objects_play : (room : ℕ) → MakerPlays code room (make_object p room)
  objects_play zero b below c xs k q s vs t at h =
      plays_end code (here b zero below q (all_pushed xs s) vs t) (Traps TooDeep) (ap (λ o. act code o (here b zero below q (all_pushed xs s) vs t)) at)
  objects_play (suc room) b below c xs k q s vs t at h = by_class (slice_get p.classes c) refl (objects_play room)
    where
      makes_it : (z : Option (Option (ℕ × ℕ))) → builder_of code c ≡ z → step code (here b (suc room) below q (all_pushed xs s) vs t) ≡ makes_object c (length xs) (here b (suc room) below q (all_pushed xs s) vs t) z
      makes_it z w = ap (λ o. act code o (here b (suc room) below q (all_pushed xs s) vs t)) at ∙ ap (makes_object c (length xs) (here b (suc room) below q (all_pushed xs s) vs t)) w

      by_builder : (x : ClassOf) → slice_get p.classes c ≡ Some x → length xs ≡ class_arity p x → MakerPlays code room (make_object p room) → (z : Bool) → has_builder p c ≡ z →
          Plays code (MakesObject c (λ o. build p room (make_object p room) (Some x) (length p.classes) (Ref o) xs (k (Ref o)) t)) (Some (here b (suc room) below q (all_pushed xs s) vs t))
      by_builder x e few np false w = (
        record { machine = here b (suc room) below (suc q) (all_pushed xs s) vs t; awaited = ForObject None (length xs) },
        comes_now code _ _ _ (makes_it (Some None) (builder_is_absent c x e w)),
        λ o.
            subst (λ z. Plays code z (with_object (here b (suc room) below (suc q) (all_pushed xs s) vs t) None o (pops (length xs) [] (all_pushed xs s)))) (sym (nothing_is_built p room (make_object p room) (Some x) (length p.classes) (Ref o) xs (k (Ref o)) t (sym (ap (λ z. builds p z (length p.classes)) e) ∙ w)))
            (subst (λ z. Plays code (k (Ref o) t) z) (sym (ap (with_object (here b (suc room) below (suc q) (all_pushed xs s) vs t) None o) (pushed_are_popped xs s))) (h (Ref o) t)),
      )
      by_builder x e few np true w =
          let builder = builder_is_there c x e w in
          let slots : builder.block.slots ≡ own_slots (constructor_of p x) = ap (λ (z : Block). z.slots) builder.same in
          let within = slice_get_within p.classes c x e in (
            record { machine = here b (suc room) below (suc q) (all_pushed xs s) vs t; awaited = ForObject (Some (builder.number, builder.block.slots)) (length xs) },
            comes_now code _ _ _ (makes_it (Some (Some (builder.number, builder.block.slots))) builder.named),
            λ o.
                subst (λ z. Plays code (build p room (make_object p room) (Some x) (length p.classes) (Ref o) xs (k (Ref o)) t) z)
                (sym (ap (with_object (here b (suc room) below (suc q) (all_pushed xs s) vs t) (Some (builder.number, builder.block.slots)) o) (pushed_are_popped xs s)
                ∙ ap (λ z. begins_block builder.number room t (with_stack (here b (suc room) below (suc q) (all_pushed xs s) vs t).top (Ref o ∷ s) ∷ below) (first_slots z (Ref o ∷ xs))) slots))
                (builder_plays room np (length p.classes) c x within e builder.number builder.block builder.there builder.same (with_stack (here b (suc room) below (suc q) (all_pushed xs s) vs t).top (Ref o ∷ s)) below (Ref o) xs (omega (arith, few)) (k (Ref o)) (λ t'. h (Ref o) t') t),
          )

      by_right : (x : ClassOf) → slice_get p.classes c ≡ Some x → MakerPlays code room (make_object p room) → (z : Bool) → (length xs == class_arity p x) ≡ z →
          Plays code (if_arity z (MakesObject c (λ o. build p room (make_object p room) (Some x) (length p.classes) (Ref o) xs (k (Ref o)) t))) (Some (here b (suc room) below q (all_pushed xs s) vs t))
      by_right x e np false w = tt
      by_right x e np true w = by_builder x e (eqb-true (length xs) (class_arity p x) w) np (has_builder p c) refl

      by_class : (z : Option ClassOf) → slice_get p.classes c ≡ z → MakerPlays code room (make_object p room) →
          Plays code (on_found z (λ x. if_arity (length xs == class_arity p x) (MakesObject c (λ o. build p room (make_object p room) (Some x) (length p.classes) (Ref o) xs (k (Ref o)) t)))) (Some (here b (suc room) below q (all_pushed xs s) vs t))
      by_class None e np = tt
      by_class (Some x) e np = by_right x e np (length xs == class_arity p x) refl

  -- `end` ends a body without a value
  body_ends : (room : ℕ) (np : MakerPlays code room (make_object p room)) (b : ℕ) (below : List Frame) → LeavingPlays code room (make_object p room) np b below false None
  body_ends room np b below q vs t at = plays_end code (here b room below q [] vs t) (Gives NoValue) (one_step code room (make_object p room) np b below q [] vs t i.End at)

  -- the block of a body does what the body does
  body_plays : (room n : ℕ) (k : Block) → slice_get code.blocks n ≡ Some k → (b : BodyOf) → k ≡ body_block (Some b) → (xs : List Value) (t : ℕ) → Plays code (run_body room (make_object p room) None b xs t) (body_in_block code n room xs t)
  body_plays room n k there b same xs t =
      let slots : k.slots ≡ body.slots_of b = ap (λ (z : Block). z.slots) same in
      let at = has_block n k (body_block (Some b)) there same in
      let begun : body_in_block code n room xs t ≡ begins_block n room t [] (first_slots (body.slots_of b) xs) = ap (λ o. body_in o n room xs t) there ∙ ap (λ z. begins_block n room t [] (first_slots z xs)) slots in
      subst (Plays code (run_body room (make_object p room) None b xs t)) (sym begun) (by_slots at (first_slots (body.slots_of b) xs))
    where
      by_slots : HasAt code n 0 (stmts_code false b.stmts 0 ++ i.End ∷ []) → (o : Option (List Value)) → Plays code (on_found o (λ vs. execute_all room (make_object p room) None b.stmts (λ vs'. return_nothing None) vs t)) (begins_block n room t [] o)
      by_slots at None = tt
      by_slots at (Some vs) =
          let c = stmts_code false b.stmts 0 in
          let leaves = body_ends room (objects_play room) n [] in
          statements_play code room (make_object p room) (objects_play room) n [] false None leaves b.stmts 0 (front_at code n 0 c _ at) (λ vs'. return_nothing None) (λ vs' t'. leaves (0 + length c) vs' t' (back_at code n 0 c _ at).0) vs t

  -- block 0 does what `Main` does
  main_plays : (limits : Limits) (d : ℕ) → Plays code (play_of p limits Main d) (meaning.begins code limits Main d)
  main_plays limits d = by_body (slice_get p.bodies p.main) refl
    where
      by_body : (o : Option BodyOf) → slice_get p.bodies p.main ≡ o → Plays code (on_found o (λ b. run_body (limits.depth - d) (make_object p (limits.depth - d)) None b (NoValue ∷ []) limits.turns)) (meaning.begins code limits Main d)
      by_body None e = tt
      by_body (Some b) e =
          let q = block_there OfMain 0 refl in
          body_plays (limits.depth - d) 0 q.0 q.1 b (q.2 ∙ ap body_block e) (NoValue ∷ []) limits.turns

  -- the chords of a class are the lines of the plan's chords
  chords_behind : (c : ℕ) → meaning.chord_lines code c ≡ map (chord_line p) (class_chords (slice_get p.classes c))
  chords_behind c = ap meaning.chords_of_line (class_behind c) ∙ by_class (slice_get p.classes c)
    where
      by_class : (x : Option ClassOf) → meaning.chords_of_line (option_map (class_line p c) x) ≡ map (chord_line p) (class_chords x)
      by_class None = refl
      by_class (Some x) = refl

  -- the methods of a class are the lines of the plan's methods
  methods_behind : (c : ℕ) → meaning.listed_methods code c ≡ map method_line (class_methods (slice_get p.classes c))
  methods_behind c = ap meaning.methods_of_line (class_behind c) ∙ by_class (slice_get p.classes c)
    where
      by_class : (x : Option ClassOf) → meaning.methods_of_line (option_map (class_line p c) x) ≡ map method_line (class_methods x)
      by_class None = refl
      by_class (Some x) = refl

  module _ (owned : (c k : ℕ) (x : ClassOf) (y : ChordOf) → slice_get p.classes c ≡ Some x → slice_get x.chords k ≡ Some y → (d : ℕ) × (z : ClassOf) × (slice_get p.classes d ≡ Some z) × (has y.body z.own ≡ true)) where
    -- the block of a chord does what the chord's body does
    chord_plays : (limits : Limits) (k : ℕ) (o : Object) (vs : List Value) (d : ℕ) (b : BodyOf) → chord_body p (slice_get (class_chords (slice_get p.classes o.class)) k) ≡ Some b → Plays code (play_of p limits (Chord k o vs) d) (meaning.begins code limits (Chord k o vs) d)
    chord_plays limits k o vs d b e = by_chord (slice_get (class_chords (slice_get p.classes o.class)) k) refl e
      where
        in_class : (y : ChordOf) (z : Option ClassOf) → slice_get p.classes o.class ≡ z → slice_get (class_chords z) k ≡ Some y → (d : ℕ) × (w : ClassOf) × (slice_get p.classes d ≡ Some w) × (has y.body w.own ≡ true)
        in_class y None w f = absurd (none-some _ f)
        in_class y (Some x) w f = owned o.class k x y w f

        by_chord : (z : Option ChordOf) → slice_get (class_chords (slice_get p.classes o.class)) k ≡ z → chord_body p z ≡ Some b → Plays code (play_of p limits (Chord k o vs) d) (meaning.begins code limits (Chord k o vs) d)
        by_chord None q f = absurd (none-some _ f)
        by_chord (Some y) q f =
            let own = in_class y (slice_get p.classes o.class) refl q in
            let n = body_numbered p y.body own.0 own.1 own.2 own.3 in
            let there = block_there (OfBody y.body) n.0 n.1 in
            let line : slice_get (meaning.chord_lines code o.class) k ≡ Some (chord_line p y) = ap (λ z. slice_get z k) (chords_behind o.class) ∙ slice_get-map (chord_line p) (class_chords (slice_get p.classes o.class)) k ∙ ap (option_map (chord_line p)) q in
            let number : unwrap_or (block_number (OfBody y.body) (origins p)) 0 ≡ n.0 = ap (λ z. unwrap_or z 0) n.1 in
            let begun : meaning.begins code limits (Chord k o vs) d ≡ body_in_block code n.0 (limits.depth - d) (Ref o ∷ vs) limits.turns =
            ap (meaning.start_line code limits o vs d) line ∙ ap (λ z. body_in_block code z (limits.depth - d) (Ref o ∷ vs) limits.turns) number in
            let played : play_of p limits (Chord k o vs) d ≡ run_body (limits.depth - d) (make_object p (limits.depth - d)) None b (Ref o ∷ vs) limits.turns =
            ap (λ z. on_found z (λ b. run_body (limits.depth - d) (make_object p (limits.depth - d)) None b (Ref o ∷ vs) limits.turns)) (ap (chord_body p) q ∙ f) in
            subst (Plays code (play_of p limits (Chord k o vs) d)) (sym begun)
            (subst (λ z. Plays code z (body_in_block code n.0 (limits.depth - d) (Ref o ∷ vs) limits.turns)) (sym played)
            (body_plays (limits.depth - d) n.0 there.0 there.1 b (there.2 ∙ ap body_block f) (Ref o ∷ vs) limits.turns))

    -- each body that begins as it may plays what the source's does
    pub bodies_play : (sig : Signatures) (limits : Limits) (s : Start) (d : ℕ) (r : Option StaticType) → StartFits sig p s r → Plays code (play_of p limits s d) (meaning.begins code limits s d)
    bodies_play sig limits Main d r f = main_plays limits d
    bodies_play sig limits (Chord k o vs) d r f = chord_plays limits k o vs d f.0 f.1

  -- the code has the plan's chords
  pub same_chords : (limits : Limits) → (meaning.code_program code limits).chords ≡ (source_program p limits).chords
  same_chords limits = λ j c. one_class c j
    where
      methods_told : (ys : List ChordOf) → map meaning.methods_of (map (chord_line p) ys) ≡ map (λ (y : ChordOf). y.methods) ys
      methods_told [] = refl
      methods_told (y ∷ ys) = ap (λ zs. y.methods ∷ zs) (methods_told ys)

      one_class : (c : ℕ) → map meaning.methods_of (meaning.chord_lines code c) ≡ map (λ (y : ChordOf). y.methods) (class_chords (slice_get p.classes c))
      one_class c = ap (map meaning.methods_of) (chords_behind c) ∙ methods_told (class_chords (slice_get p.classes c))

  -- the code tells of each method what the plan tells, whether its callers wait
  pub same_kinds : (limits : Limits) → (meaning.code_program code limits).is_sync ≡ (source_program p limits).is_sync
  same_kinds limits = λ q c j. one_method c j q
    where
      by_plan : (o : Option MethodOf) → line_is_sync (option_map method_line o) ≡ plan_is_sync o
      by_plan None = refl
      by_plan (Some m) = refl

      one_method : (c j : ℕ) → meaning.method_is_sync code c j ≡ plan_is_sync (slice_get (class_methods (slice_get p.classes c)) j)
      one_method c j = ap (λ z. line_is_sync (slice_get z j)) (methods_behind c) ∙ ap line_is_sync (slice_get-map method_line (class_methods (slice_get p.classes c)) j) ∙ by_plan (slice_get (class_methods (slice_get p.classes c)) j)

  -- the code has each method of the plan, with as many parameters
  pub plan_methods_there : (c j : ℕ) (m : MethodOf) → slice_get (class_methods (slice_get p.classes c)) j ≡ Some m → HasMethod code c j m.parameters
  plan_methods_there c j m e = record {
    line = method_line m;
    found = ap (λ z. slice_get z j) (methods_behind c) ∙ slice_get-map method_line (class_methods (slice_get p.classes c)) j ∙ ap (option_map method_line) e;
    parameters_are = refl;
  }
