-- The code of a source is valid.
use Rattle.std.proofs.Common.{◌≡◌, ℕ, zero, suc, ◌+◌, ◌-◌, ◌<◌, ◌≤◌, List, [], ◌∷◌, ◌++◌, Bool, true, false, cond, Option, Some, None, length, refl, sym, ◌∙◌, ap, subst, arith, length-append, append_assoc, slice_get}
use Rattle.std.proofs.Math.Seq.{get_or-append_seam}
use Rattle.std.specs.Prelude.{option_map, option_and_then, unwrap_or}
use Rattle.std.proofs.lemmas.Bool.{false≢true}
use Rattle.std.proofs.lemmas.Option.{none-some, same_Some, slice_get-get_or, slice_get_within, slice_get-map}
use Rattle.chord_base.specs.Meaning.{OneSync}
use Rattle.chord_base.specs.Types.{Signature, Signatures}
use Rattle.chord_base.specs.declared.static_type.StaticType.{StaticType}
use Rattle.chord_bodies.specs.Resolved.{BodyOf, ClassOf, ChordOf, MethodOf, Resolved, slots_of}
use Rattle.chord_bodies.specs.Types.{opening, slot_types}
use Rattle.chord_bodies.specs.Planned.{AreConcatenated, is_sync_in, IsPlanned}
use Rattle.chord_code.specs.declared.instruction.Instruction.{Instruction}
use Rattle.chord_code.specs.declared.instruction.Instruction.TheVariants as i
use Rattle.chord_code.specs.declared.parts.MethodLine.{MethodLine}
use Rattle.chord_code.specs.declared.parts.ChordLine.{ChordLine}
use Rattle.chord_code.specs.declared.parts.ClassLine.{ClassLine}
use Rattle.chord_code.specs.declared.parts.Block.{Block}
use Rattle.chord_code.specs.Valid.{BuildsBefore, IsRight, Closes, IsBlock, AllLess, line_is_sync, class_is_sync, IsChordLine, IsClassLine, IsValid}
use Rattle.chord_source.specs.Objects.{constructor_of}
use Rattle.chord_source.specs.Laws.{AreWellTyped}
use Rattle.chord_gen.specs.Emitted.{stmts_code}
use Rattle.chord_gen.specs.Translation.{has_builder, builds, Origin, OfMain, OfBuilder, OfBody, origins, block_number, body_block, init_code, own_code, own_slots, builder_block, block_of, method_line, chord_line, class_line, lines_from, code_of}
use Rattle.chord_gen.specs.Laws.{TranslationValid}
use Rattle.chord_gen.proofs.Numbers.{origin_at, builder_numbered, builders_rise, line_at}
use Rattle.chord_gen.proofs.PartsRight.{RightIn, AllRightIn, joined_right, right_higher, opening_length, statements_part}
use Rattle.chord_gen.proofs.Emits.{mapped_length}

-- a builder enters that of its base class alone, if it has one; no other block enters one
abbrev Entered : Resolved → Origin → ℕ → Type 0
Entered p OfMain c = ⊥
Entered p (OfBody j) c = ⊥
Entered p (OfBuilder d) c = (x : ClassOf) × (slice_get p.classes d ≡ Some x) × (x.base ≡ Some c) × (has_builder p c ≡ true)

-- the last instruction stands at the last place
last_at : (xs : List Instruction) (x : Instruction) → slice_get (xs ++ x ∷ []) (length (xs ++ x ∷ []) - 1) ≡ Some x
last_at xs x =
    let n : length (xs ++ x ∷ []) - 1 ≡ length xs = omega (arith, length-append xs (x ∷ [])) in
    let within : length xs < length (xs ++ x ∷ []) = omega (arith, length-append xs (x ∷ [])) in
    ap (slice_get (xs ++ x ∷ [])) n ∙ slice_get-get_or (xs ++ x ∷ []) (length xs) x within ∙ ap Some (get_or-append_seam xs x [] x)

-- a block whose instructions are right, and which ends by this one
record RightBlock (cs : ℕ) (Q : ℕ → Type 0) (k : Block) : Type 0 where
  front : List Instruction
  last : Instruction
  is : k.instructions ≡ front ++ last ∷ []
  closes : Closes (Some last)
  right : AllRightIn k.slots cs Q (length front) 0 k.instructions

module _ (sig : Signatures) (p : Resolved) (typed : AreWellTyped sig p) (plan : IsPlanned sig p) where
  -- the block of a body is right
  body_right : (Q : ℕ → Type 0) (j : ℕ) → RightBlock (length p.classes) Q (body_block (slice_get p.bodies j))
  body_right Q j = by_body (slice_get p.bodies j) refl
    where
      by_body : (o : Option BodyOf) → slice_get p.bodies j ≡ o → RightBlock (length p.classes) Q (body_block o)
      by_body None e = record { front = []; last = i.End; is = refl; closes = tt; right = (tt, tt) }
      by_body (Some b) e =
          let is = typed j b e in
          let c = stmts_code false b.stmts 0 in
          let zero_end : 0 + length c ≡ length c = omega arith in
          record {
            front = c;
            last = i.End;
            is = refl;
            closes = tt;
            right = joined_right (slots_of b) (length p.classes) Q (length c) 0 c (i.End ∷ [])
                (subst (λ z. AllRightIn (slots_of b) (length p.classes) Q z 0 c) zero_end (statements_part sig p plan (slots_of b) Q false (slot_types b) b.result b.stmts (opening b) is.last is.stmts (opening_length b) 0)) (tt, tt);
          }

  -- the code of a class's own constructor, with `back`, is right
  own_right : (Q : ℕ → Type 0) (c : ℕ) (x : ClassOf) → slice_get p.classes c ≡ Some x → (a : ℕ) → AllRightIn (own_slots (constructor_of p x)) (length p.classes) Q (a + length (own_code (constructor_of p x) a)) a (own_code (constructor_of p x) a ++ i.Back ∷ [])
  own_right Q c x e a = by_own x.constructor_body refl
    where
      by_there : (j : ℕ) (o : Option BodyOf) → slice_get p.bodies j ≡ o → AllRightIn (own_slots o) (length p.classes) Q (a + length (own_code o a)) a (own_code o a ++ i.Back ∷ [])
      by_there j None f = (tt, tt)
      by_there j (Some b) f =
          let is = typed j b f in
          let code = stmts_code true b.stmts a in
          joined_right (slots_of b) (length p.classes) Q (a + length code) a code (i.Back ∷ []) (statements_part sig p plan (slots_of b) Q true (slot_types b) b.result b.stmts (opening b) is.last is.stmts (opening_length b) a) (tt, tt)

      by_own : (o : Option ℕ) → x.constructor_body ≡ o → AllRightIn (own_slots (option_and_then (λ j. slice_get p.bodies j) o)) (length p.classes) Q (a + length (own_code (option_and_then (λ j. slice_get p.bodies j) o) a)) a (own_code (option_and_then (λ j. slice_get p.bodies j) o) a ++ i.Back ∷ [])
      by_own None f = (tt, tt)
      by_own (Some j) f = by_there j (slice_get p.bodies j) refl

  -- the instruction that runs the base class's builder is right
  init_right : (s d : ℕ) (x : ClassOf) → slice_get p.classes d ≡ Some x → (base : Option ℕ) → x.base ≡ base → (end : ℕ) → AllRightIn s (length p.classes) (Entered p (OfBuilder d)) end 0 (init_code p base)
  init_right s d x e None q end = tt
  init_right s d x e (Some b) q end = by_has (has_builder p b) refl
    where
      by_has : (z : Bool) → has_builder p b ≡ z → AllRightIn s (length p.classes) (Entered p (OfBuilder d)) end 0 (cond z (i.Init b ∷ []) [])
      by_has true w = ((x, e, q, w), tt)
      by_has false w = tt

  -- the block of a builder is right
  builder_right : (d : ℕ) (o : Option ClassOf) → slice_get p.classes d ≡ o → RightBlock (length p.classes) (Entered p (OfBuilder d)) (builder_block p o)
  builder_right d None e = record { front = []; last = i.Back; is = refl; closes = tt; right = (tt, tt) }
  builder_right d (Some x) e =
      let init = init_code p x.base in
      let own = own_code (constructor_of p x) (0 + length init) in
      let n = length-append init own in
      let s = own_slots (constructor_of p x) in
      let cs = length p.classes in
      record {
        front = init ++ own;
        last = i.Back;
        is = sym (append_assoc init own (i.Back ∷ []));
        closes = tt;
        right = joined_right s cs (Entered p (OfBuilder d)) (length (init ++ own)) 0 init (own ++ i.Back ∷ []) (init_right s d x e x.base refl (length (init ++ own)))
            (right_higher s cs (Entered p (OfBuilder d)) (0 + length init + length own) (length (init ++ own)) (0 + length init) (own ++ i.Back ∷ []) (omega (arith, n)) (own_right (Entered p (OfBuilder d)) d x e (0 + length init)));
      }

  -- each block is right
  origin_right : (o : Origin) → RightBlock (length p.classes) (Entered p o) (block_of p o)
  origin_right OfMain = body_right (λ c. ⊥) p.main
  origin_right (OfBody j) = body_right (λ c. ⊥) j
  origin_right (OfBuilder d) = builder_right d (slice_get p.classes d) refl

  -- there are as many lines as classes
  lines_length : (a : ℕ) (xs : List ClassOf) → length (lines_from p a xs) ≡ length xs
  lines_length a [] = refl
  lines_length a (x ∷ xs) = ap suc (lines_length (suc a) xs)

  -- a builder that a block enters stands before it
  entered_before : (b c : ℕ) (o : Origin) → slice_get (origins p) b ≡ Some o → Entered p o c → BuildsBefore (code_of p) b c
  entered_before b c OfMain w h = absurd h
  entered_before b c (OfBody j) w h = absurd h
  entered_before b c (OfBuilder d) w h = by_class (slice_get p.classes c) refl
    where
      by_class : (o : Option ClassOf) → slice_get p.classes c ≡ o → BuildsBefore (code_of p) b c
      by_class None e = absurd (false≢true (sym (ap (λ z. builds p z (length p.classes)) e) ∙ h.3))
      by_class (Some y) e =
          let n = builder_numbered p c y e h.3 in
          record { line = class_line p c y; builder = n.0; found = line_at p c ∙ ap (option_map (class_line p c)) e; has = n.1; before = builders_rise p c d n.0 b (plan.bases d c h.0 h.1 h.2) n.1 w }

  -- what is right in a part that ends before the block does is right in the block
  one_right : (b n s : ℕ) (o : Origin) → slice_get (origins p) b ≡ Some o → (end q : ℕ) (x : Instruction) → end < n → RightIn s (length p.classes) (Entered p o) end q x → IsRight (code_of p) b s n q x
  one_right b n s o w end q (i.Load k) l h = h
  one_right b n s o w end q (i.Store k) l h = h
  one_right b n s o w end q (i.Jump a) l h = (h.0, (let k = h.1 in omega (arith, k, l)))
  one_right b n s o w end q (i.Skip a) l h = (h.0, (let k = h.1 in omega (arith, k, l)))
  one_right b n s o w end q (i.Again a) l h = h
  one_right b n s o w end q (i.New c k) l h = (let less = h.0 in let lines = lines_length 0 p.classes in omega (arith, less, lines), h.1)
  one_right b n s o w end q (i.Init c) l h = entered_before b c o w h
  one_right b n s o w end q (i.Send j k) l h = h
  one_right b n s o w end q (i.Call j k) l h = h
  one_right b n s o w end q (i.Int v) l h = tt
  one_right b n s o w end q (i.Flag v) l h = tt
  one_right b n s o w end q (i.Text v) l h = tt
  one_right b n s o w end q i.Drop l h = tt
  one_right b n s o w end q i.Neg l h = tt
  one_right b n s o w end q i.Not l h = tt
  one_right b n s o w end q i.Add l h = tt
  one_right b n s o w end q i.Sub l h = tt
  one_right b n s o w end q i.Mul l h = tt
  one_right b n s o w end q i.Div l h = tt
  one_right b n s o w end q i.Rem l h = tt
  one_right b n s o w end q i.Cat l h = tt
  one_right b n s o w end q i.Eq l h = tt
  one_right b n s o w end q i.Ne l h = tt
  one_right b n s o w end q i.Lt l h = tt
  one_right b n s o w end q i.Le l h = tt
  one_right b n s o w end q i.Gt l h = tt
  one_right b n s o w end q i.Ge l h = tt
  one_right b n s o w end q i.Print l h = tt
  one_right b n s o w end q i.End l h = tt
  one_right b n s o w end q i.Endv l h = tt
  one_right b n s o w end q i.Back l h = tt

  -- each of right instructions is right at its place
  right_at : (s cs : ℕ) (Q : ℕ → Type 0) (end : ℕ) (xs : List Instruction) (a q : ℕ) (x : Instruction) → AllRightIn s cs Q end a xs → slice_get xs q ≡ Some x → RightIn s cs Q end (a + q) x
  right_at s cs Q end [] a q x h e = absurd (none-some _ e)
  right_at s cs Q end (y ∷ xs) a zero x h e =
      let z : a ≡ a + 0 = omega arith in
      subst (λ r. RightIn s cs Q end r x) z (subst (RightIn s cs Q end a) (same_Some _ _ e) h.0)
  right_at s cs Q end (y ∷ xs) a (suc q) x h e =
      let z : suc a + q ≡ a + suc q = omega arith in
      subst (λ r. RightIn s cs Q end r x) z (right_at s cs Q end xs (suc a) q x h.1 e)

  -- each block is valid
  block_valid : (b : ℕ) (k : Block) → slice_get (code_of p).blocks b ≡ Some k → IsBlock (code_of p) b k
  block_valid b k e = by_origin (slice_get (origins p) b) refl (sym (slice_get-map (block_of p) (origins p) b) ∙ e)
    where
      of_origin : (o : Origin) → slice_get (origins p) b ≡ Some o → IsBlock (code_of p) b (block_of p o)
      of_origin o w =
          let r = origin_right o in
          let z = block_of p o in
          let n = length-append r.front (r.last ∷ []) in
          let same : length z.instructions ≡ length (r.front ++ r.last ∷ []) = ap length r.is in
          record {
            closes = subst Closes (sym (ap (λ (xs : List Instruction). slice_get xs (length xs - 1)) r.is ∙ last_at r.front r.last)) r.closes;
            right = λ q x f. (let at : 0 + q ≡ q = omega arith in one_right b (length z.instructions) z.slots o w (length r.front) q x (omega (arith, same, n)) (subst (λ a. RightIn z.slots (length p.classes) (Entered p o) (length r.front) a x) at (right_at z.slots (length p.classes) (Entered p o) (length r.front) z.instructions 0 q x r.right f)));
          }

      by_origin : (o : Option Origin) → slice_get (origins p) b ≡ o → option_map (block_of p) o ≡ Some k → IsBlock (code_of p) b k
      by_origin None w f = absurd (none-some _ f)
      by_origin (Some o) w f = subst (IsBlock (code_of p) b) (same_Some _ _ f) (of_origin o w)

  -- the number of an origin is that of a block
  number_within : (o : Origin) (n : ℕ) → block_number o (origins p) ≡ Some n → n < length (code_of p).blocks
  number_within o n e = let w = slice_get_within (origins p) n o (origin_at o (origins p) n e) in let m = mapped_length (block_of p) (origins p) in omega (arith, w, m)

  -- the number that is told for a member is that of a block
  body_within : (o : Option ℕ) (j : ℕ) → block_number (OfBody j) (origins p) ≡ o → unwrap_or o 0 < length (code_of p).blocks
  body_within None j e = let m = mapped_length (block_of p) (origins p) in omega (arith, m)
  body_within (Some n) j e = number_within (OfBody j) n e

  -- the methods of a chord are among those of its class
  methods_there : (c : ℕ) (x : ClassOf) → slice_get p.classes c ≡ Some x → (js : List ℕ) (ts : List StaticType) → AreConcatenated sig c js ts → AllLess (length (class_line p c x).methods) js
  methods_there c x e [] ts l = tt
  methods_there c x e (j ∷ js) ts l =
      let q = plan.methods c j l.0 l.2 in
      let same : q.0 ≡ x = same_Some _ _ (sym q.2 ∙ e) in
      let within = slice_get_within x.methods j q.1 (ap (λ (z : ClassOf). slice_get z.methods j) (sym same) ∙ q.3) in
      let m = mapped_length method_line x.methods in
      (omega (arith, within, m), methods_there c x e js l.1 l.4)

  -- the line of a class tells of each number whether its method's callers wait as the signatures do
  waits_line : (c : ℕ) (x : ClassOf) → slice_get p.classes c ≡ Some x → (j : ℕ) → is_sync_in (sig.methods c j) ≡ class_is_sync (class_line p c x) j
  waits_line c x e j = by_method (slice_get x.methods j) refl ∙ ap line_is_sync (sym (slice_get-map method_line x.methods j))
    where
      by_none : slice_get x.methods j ≡ None → (o : Option Signature) → sig.methods c j ≡ o → is_sync_in o ≡ false
      by_none w None f = refl
      by_none w (Some m) f =
          let q = plan.methods c j m f in
          absurd (none-some _ (sym w ∙ ap (λ (z : ClassOf). slice_get z.methods j) (same_Some _ _ (sym e ∙ q.2)) ∙ q.3))

      by_method : (o : Option MethodOf) → slice_get x.methods j ≡ o → is_sync_in (sig.methods c j) ≡ line_is_sync (option_map method_line o)
      by_method None w = by_none w (sig.methods c j) refl
      by_method (Some y) w = let q = plan.kinds c j x y e w in ap is_sync_in q.1 ∙ sym q.2

  -- at most one of a chord's methods has callers that wait, by the line of its class
  one_sync_line : (c : ℕ) (x : ClassOf) → slice_get p.classes c ≡ Some x → (js : List ℕ) → OneSync (λ j. is_sync_in (sig.methods c j)) js → OneSync (class_is_sync (class_line p c x)) js
  one_sync_line c x e js h = subst (λ f. OneSync f js) (λ k j. waits_line c x e j k) h

  -- each class is valid
  class_valid : (c : ℕ) (x : ClassOf) → slice_get p.classes c ≡ Some x → IsClassLine (code_of p) (class_line p c x)
  class_valid c x e = record {
    builder = λ b f. number_within (OfBuilder c) b f;
    few_methods = (let m = mapped_length method_line x.methods in let few = plan.few_methods c x e in omega (arith, m, few));
    few_chords = (let m = mapped_length (chord_line p) x.chords in let few = plan.few_chords c x e in omega (arith, m, few));
    few_parameters = λ j m f. by_method j m (slice_get x.methods j) refl (sym (slice_get-map method_line x.methods j) ∙ f);
    chords = λ k line f. by_chord k line (slice_get x.chords k) refl (sym (slice_get-map (chord_line p) x.chords k) ∙ f);
  }
    where
      by_method : (j : ℕ) (m : MethodLine) (o : Option MethodOf) → slice_get x.methods j ≡ o → option_map method_line o ≡ Some m → m.parameters ≤ 8
      by_method j m None w f = absurd (none-some _ f)
      by_method j m (Some y) w f = subst (λ (z : MethodLine). z.parameters ≤ 8) (same_Some _ _ f) (plan.few_parameters c j x y e w)

      by_chord : (k : ℕ) (line : ChordLine) (o : Option ChordOf) → slice_get x.chords k ≡ o → option_map (chord_line p) o ≡ Some line → IsChordLine (code_of p) (class_line p c x) line
      by_chord k line None w f = absurd (none-some _ f)
      by_chord k line (Some y) w f =
          let is = plan.chords c k x y e w in
          subst (IsChordLine (code_of p) (class_line p c x)) (same_Some _ _ f)
          (record {
            block = body_within (block_number (OfBody y.body) (origins p)) y.body refl;
            some = is.some;
            few = is.few;
            there = methods_there c x e y.methods is.body.parameters is.parameters;
            different = is.different;
            one_sync = one_sync_line c x e y.methods is.one_sync;
          })

  -- the code of a source is valid
  all_valid : IsValid (code_of p)
  all_valid = record {
    main = (let m = mapped_length (block_of p) (origins p) in omega (arith, m));
    few = (let n = lines_length 0 p.classes in let few = plan.few in omega (arith, n, few));
    classes = λ c line e. by_class c line (slice_get p.classes c) refl (sym (line_at p c) ∙ e);
    blocks = block_valid;
  }
    where
      by_class : (c : ℕ) (line : ClassLine) (o : Option ClassOf) → slice_get p.classes c ≡ o → option_map (class_line p c) o ≡ Some line → IsClassLine (code_of p) line
      by_class c line None w f = absurd (none-some _ f)
      by_class c line (Some x) w f = subst (IsClassLine (code_of p)) (same_Some _ _ f) (class_valid c x w)

-- the code of each source that keeps to its types is valid
pub translation_valid : TranslationValid
translation_valid sig p typed plan = all_valid sig p typed plan
