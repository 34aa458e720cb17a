-- What a firing takes and is to give, in any meaning that has the chords and methods of a plan.
use Rattle.std.proofs.Common.{◌≡◌, ℕ, ◌<◌, ◌≤◌, List, [], ◌∷◌, ◌++◌, Bool, true, false, Option, Some, None, refl, sym, ◌∙◌, ap, subst, slice_get, length, map, inl, inr, ◌==◌, arith}
use Rattle.std.specs.Prelude.{◌⊎◌, option_map}
use Rattle.std.proofs.lemmas.Bool.{eq-eqb, eqb-true}
use Rattle.std.proofs.lemmas.List.{length-map}
use Rattle.std.proofs.lemmas.Option.{none-some, same_Some, slice_get-map, slice_get_within}
use Rattle.chord_base.specs.declared.value.Object.{Object}
use Rattle.chord_base.specs.declared.value.Value.{Value}
use Rattle.chord_base.specs.declared.event.Entry.{Entry}
use Rattle.chord_base.specs.declared.event.What.TheVariants.{Fired}
use Rattle.chord_base.specs.Meaning.{Program, Chord, OneSync}
use Rattle.chord_base.specs.Bodies.{serves, served_among, or_none}
use Rattle.chord_base.specs.Messages.{Message, AreDifferent, members_of, has, pending}
use Rattle.chord_base.specs.Machine.{Takes, Fires}
use Rattle.chord_base.specs.Story.{AllBelow}
use Rattle.chord_base.specs.declared.static_type.StaticType.{StaticType}
use Rattle.chord_base.specs.Types.{Signature, Signatures, HaveAll}
use Rattle.chord_base.proofs.Waits.{either}
use Rattle.chord_bodies.specs.Resolved.{MethodOf, ClassOf, ChordOf, Resolved}
use Rattle.chord_bodies.specs.Planned.{AreConcatenated, gives, if_sync, is_sync_in, ChordIs, IsPlanned}
use Rattle.chord_code.specs.Laws.{ChordsAreRight}
use Rattle.chord_code.specs.Runs.{sent, IsFitMessage, IsResultType}
use Rattle.chord_code.proofs.AllGood.{sent_more}
use Rattle.chord_source.specs.Source.{chord_body, class_chords, class_methods, plan_is_sync}
use Rattle.chord_source.specs.Laws.{StartFits}

-- values of some types and values of others, joined, have these types joined
have_types_together : (sig : Signatures) (ts us : List StaticType) (vs ws : List Value) → HaveAll sig ts vs → HaveAll sig us ws → HaveAll sig (ts ++ us) (vs ++ ws)
have_types_together sig [] us [] ws h k = k
have_types_together sig (t ∷ ts) us (v ∷ vs) ws h k = (h.0, have_types_together sig ts us vs ws h.1 k)
have_types_together sig [] us (v ∷ vs) ws h k = absurd h
have_types_together sig (t ∷ ts) us [] ws h k = absurd h

-- a pending message was sent
pending_sent : (n : ℕ) (m : Message) (h : List Entry) → pending n h ≡ Some m → sent n h ≡ Some m
pending_sent n m [] e = e
pending_sent n m (x ∷ h) e = by_number (x.number == n) (has n (members_of x.what)) refl refl (pending_sent n m h)
  where
    by_number : (b c : Bool) → (x.number == n) ≡ b → has n (members_of x.what) ≡ c → (pending n h ≡ Some m → sent n h ≡ Some m) → sent n (x ∷ h) ≡ Some m
    by_number true c q w f = rw q (rw q at e)
    by_number false true q w f = absurd (none-some _ (rw (q, w) at e))
    by_number false false q w f = rw q (f (rw (q, w) at e))

-- a firing serves a call, whose method gives this result
record ServesCall (sig : Signatures) (h : List Entry) (o : Object) (sync : ℕ → Bool) (js ms : List ℕ) (r : Option StaticType) : Type 0 where
  call : ℕ
  message : Message
  method : Signature
  served : served_among sync js ms ≡ Some call
  sent : sent call h ≡ Some message
  found : sig.methods message.object.class message.method ≡ Some method
  result : r ≡ method.result

-- the chords of a plan, as a meaning has them
abbrev pub plan_chords : Resolved → ℕ → List (List ℕ)
plan_chords p c = map (λ (k : ChordOf). k.methods) (class_chords (slice_get p.classes c))

-- which methods of a plan have callers that wait, as a meaning has it
abbrev pub plan_kinds : Resolved → ℕ → ℕ → Bool
plan_kinds p c j = plan_is_sync (slice_get (class_methods (slice_get p.classes c)) j)

module _ (sig : Signatures) (p : Resolved) (plan : IsPlanned sig p) (program : Program) (chords : program.chords ≡ plan_chords p) (sync : program.is_sync ≡ plan_kinds p) where
  -- the meaning tells of a method whether its callers wait as its signature does
  pub tells_kind : (k j : ℕ) (m : Signature) → sig.methods k j ≡ Some m → program.is_sync k j ≡ m.is_sync
  tells_kind k j m e =
      let q = plan.methods k j m e in
      let one : slice_get (class_methods (slice_get p.classes k)) j ≡ Some q.1 = ap (λ o. slice_get (class_methods o) j) q.2 ∙ q.3 in
      ap (λ (f : ℕ → ℕ → Bool). f k j) sync ∙ ap plan_is_sync one ∙ q.4

  -- a chord of the meaning is one of the plan
  chord_of_plan : (c k : ℕ) (js : List ℕ) → slice_get (program.chords c) k ≡ Some js → (y : ChordOf) × (slice_get (class_chords (slice_get p.classes c)) k ≡ Some y) × (y.methods ≡ js)
  chord_of_plan c k js e = by_chord (slice_get (class_chords (slice_get p.classes c)) k) refl
      (sym (slice_get-map (λ (y : ChordOf). y.methods) (class_chords (slice_get p.classes c)) k) ∙ ap (λ (f : ℕ → List (List ℕ)). slice_get (f c) k) (sym chords) ∙ e)
    where
      by_chord : (y : Option ChordOf) → slice_get (class_chords (slice_get p.classes c)) k ≡ y → option_map (λ (y : ChordOf). y.methods) y ≡ Some js → (y : ChordOf) × (slice_get (class_chords (slice_get p.classes c)) k ≡ Some y) × (y.methods ≡ js)
      by_chord None q e = absurd (none-some _ e)
      by_chord (Some y) q e = (y, q, same_Some _ _ e)

  -- a chord of a class is as the plan of sound code has it
  chord_is_planned : (c k : ℕ) (y : ChordOf) (x : Option ClassOf) → slice_get p.classes c ≡ x → slice_get (class_chords x) k ≡ Some y → ChordIs sig p c y
  chord_is_planned c k y None e f = absurd (none-some _ f)
  chord_is_planned c k y (Some x) e f = plan.chords c k x y e f

  module _ (h : List Entry) (fit : (n : ℕ) (m : Message) → sent n h ≡ Some m → IsFitMessage sig m) (o : Object) where
    -- the arguments of the messages that a chord takes have the types of its methods' parameters, joined
    arguments_have : (js ms : List ℕ) (vs : List Value) (ts : List StaticType) → AreConcatenated sig o.class js ts → Takes h o js ms vs → HaveAll sig ts vs
    arguments_have [] [] vs ts l t = subst (λ z. HaveAll sig z vs) (sym l) (subst (HaveAll sig []) (sym t) tt)
    arguments_have [] (i ∷ ms) vs ts l t = absurd t
    arguments_have (j ∷ js) [] vs ts l t = absurd t
    arguments_have (j ∷ js) (i ∷ ms) vs ts l t =
        let message : Message = record { object = o; method = j; arguments = t.0 } in
        let fits = fit i message (pending_sent i message h t.2) in
        let same : l.0 ≡ fits.method = same_Some _ _ (sym l.2 ∙ fits.found) in
        let first : HaveAll sig l.0.parameters t.0 = subst (λ (z : Signature). HaveAll sig z.parameters t.0) (sym same) fits.arguments in
        subst (λ z. HaveAll sig z vs) (sym l.3) (subst (HaveAll sig (l.0.parameters ++ l.1)) (sym t.3) (have_types_together sig l.0.parameters l.1 t.0 t.1 first (arguments_have js ms t.1 l.1 l.4 t.4)))

    -- a firing serves no call, and the chord's body is to give nothing, or it serves one whose method gives what the body is to give
    due_of_firing : (js ms : List ℕ) (vs : List Value) (r : Option StaticType) → gives sig o.class js r → Takes h o js ms vs → ((served_among (program.is_sync o.class) js ms ≡ None) × (r ≡ None)) ⊎ ServesCall sig h o (program.is_sync o.class) js ms r
    due_of_firing [] ms vs r g t = inl (refl, g)
    due_of_firing (j ∷ js) [] vs r g t = absurd t
    due_of_firing (j ∷ js) (i ∷ ms) vs r g t =
        by_kind g.0.is_sync (tells_kind o.class j g.0 g.1) g.2 (λ f. due_of_firing js ms t.1 r f t.4)
      where
        by_kind : (b : Bool) → program.is_sync o.class j ≡ b → if_sync b (r ≡ g.0.result) (gives sig o.class js r)
            → (gives sig o.class js r → ((served_among (program.is_sync o.class) js ms ≡ None) × (r ≡ None)) ⊎ ServesCall sig h o (program.is_sync o.class) js ms r)
            → ((served_among (program.is_sync o.class) (j ∷ js) (i ∷ ms) ≡ None) × (r ≡ None)) ⊎ ServesCall sig h o (program.is_sync o.class) (j ∷ js) (i ∷ ms) r
        by_kind true q f k =
            let message : Message = record { object = o; method = j; arguments = t.0 } in
            inr (record { call = i; message = message; method = g.0; served = rw q refl; sent = pending_sent i message h t.2; found = g.1; result = f })
        by_kind false q f k =
            elim (k f) [
              | inl none ↦ inl (let first = none.0 in rw (q, first) refl, none.1)
              | inr s ↦ inr (record { call = s.call; message = s.message; method = s.method; served = rw q s.served; sent = s.sent; found = s.found; result = s.result })
            ]

    -- the body of a firing begins as it may, and is to give what the method gives that it serves
    pub firing_fits : (n k : ℕ) (ms : List ℕ) (vs : List Value) → AllBelow n h → Fires program h k o ms vs → (r : Option StaticType) × (StartFits sig p) (Chord k o vs) r × IsResultType program sig (record { number = n; body = n; what = Fired k o ms vs } ∷ h) n r
    firing_fits n k ms vs below f =
        let y = chord_of_plan o.class k f.0 f.1 in
        let ch = chord_is_planned o.class k y.0 (slice_get p.classes o.class) refl y.1 in
        let values : HaveAll sig ch.body.parameters vs = arguments_have f.0 ms vs ch.body.parameters (subst (λ z. AreConcatenated sig o.class z ch.body.parameters) y.2 ch.parameters) f.2 in
        let body : chord_body p (slice_get (class_chords (slice_get p.classes o.class)) k) ≡ Some ch.body = ap (chord_body p) y.1 ∙ ch.there in
        (ch.body.result, (ch.body, body, values, refl), due (due_of_firing f.0 ms vs ch.body.result (subst (λ z. gives sig o.class z ch.body.result) y.2 ch.result) f.2))
      where
        own_number : serves program n (record { number = n; body = n; what = Fired k o ms vs } ∷ h) ≡ served_among (program.is_sync o.class) f.0 ms
        own_number = let q : (n == n) ≡ true = eq-eqb n n refl in rw q (ap (λ z. served_among (program.is_sync o.class) (or_none z) ms) f.1)

        due : {r : Option StaticType} → ((served_among (program.is_sync o.class) f.0 ms ≡ None) × (r ≡ None)) ⊎ ServesCall sig h o (program.is_sync o.class) f.0 ms r → IsResultType program sig (record { number = n; body = n; what = Fired k o ms vs } ∷ h) n r
        due (inl none) = inl (own_number ∙ none.0, none.1)
        due (inr s) =
            inr (
              s.method,
              record {
                call = s.call;
                message = s.message;
                serves_call = own_number ∙ s.served;
                is_message = sent_more (record { number = n; body = n; what = Fired k o ms vs }) s.call s.message h below s.sent;
                found = s.found;
              },
              s.result,
            )

  -- the plan tells of each number whether its method's callers wait as the signatures do, also where there is none
  tells_kind_of_all : (k j : ℕ) → plan_kinds p k j ≡ is_sync_in (sig.methods k j)
  tells_kind_of_all k j = by_signature (sig.methods k j) refl
    where
      no_method : (x : Option ClassOf) → slice_get p.classes k ≡ x → sig.methods k j ≡ None → (o : Option MethodOf) → slice_get (class_methods x) j ≡ o → plan_is_sync o ≡ false
      no_method x e f None w = refl
      no_method None e f (Some y) w = absurd (none-some _ w)
      no_method (Some x) e f (Some y) w = let q = plan.kinds k j x y e w in absurd (none-some _ (sym f ∙ q.1))

      by_signature : (o : Option Signature) → sig.methods k j ≡ o → plan_kinds p k j ≡ is_sync_in o
      by_signature None f = no_method (slice_get p.classes k) refl f (slice_get (class_methods (slice_get p.classes k)) j) refl
      by_signature (Some m) f =
          let q = plan.methods k j m f in
          ap (λ o. plan_is_sync (slice_get (class_methods o) j)) q.2 ∙ ap plan_is_sync q.3 ∙ q.4

  -- a method of a signature has a number below 16
  method_low : (c j : ℕ) (m : Signature) → sig.methods c j ≡ Some m → j < 16
  method_low c j m e =
      let q = plan.methods c j m e in
      let within = slice_get_within q.0.methods j q.1 q.3 in
      let few = plan.few_methods c q.0 q.2 in
      omega (arith, within, few)

  -- the methods of a chord have numbers below 16
  methods_low : (c j : ℕ) (js : List ℕ) (ts : List StaticType) → AreConcatenated sig c js ts → has j js ≡ true → j < 16
  methods_low c j [] ts l e = cc
  methods_low c j (k ∷ js) ts l e =
      elim (either (j == k)) [
        | inl y ↦ subst (λ z. z < 16) (sym (eqb-true j k y)) (method_low c k l.0 l.2)
        | inr f ↦ methods_low c j js l.1 l.4 (rw f at e)
      ]

  -- a class has few chords
  chords_few : (c : ℕ) (x : Option ClassOf) → slice_get p.classes c ≡ x → length (class_chords x) ≤ 256
  chords_few c None e = omega arith
  chords_few c (Some x) e = plan.few_chords c x e

  -- the chords of the meaning have methods, few and all different, at most one of which has callers that wait
  pub chords_right : ChordsAreRight program
  chords_right = record {
    one_sync = λ c k js e.
        let q = planned c k js e in
        subst (λ f. OneSync f js) (λ i j. (sym (tells_kind_of_all c j) ∙ sym (ap (λ (f : ℕ → ℕ → Bool). f c j) sync)) i) (subst (OneSync (λ j. is_sync_in (sig.methods c j))) q.1 q.2.one_sync);
    some = λ c k js e. (let q = planned c k js e in subst (λ (z : List ℕ). 0 < length z) q.1 q.2.some);
    different = λ c k js e. (let q = planned c k js e in subst AreDifferent q.1 q.2.different);
    few = λ c k j js e there. (let q = planned c k js e in methods_low c j js q.2.body.parameters (subst (λ z. AreConcatenated sig c z q.2.body.parameters) q.1 q.2.parameters) there);
    few_headers = λ c k js e. (let q = planned c k js e in subst (λ (z : List ℕ). length z ≤ 8) q.1 q.2.few);
    few_chords = λ c.
        subst (λ (f : ℕ → List (List ℕ)). length (f c) ≤ 256) (sym chords)
        (let n = length-map (class_chords (slice_get p.classes c)) (λ (y : ChordOf). y.methods) in let few = chords_few c (slice_get p.classes c) refl in omega (arith, n, few));
  }
    where
      planned : (c k : ℕ) (js : List ℕ) → slice_get (program.chords c) k ≡ Some js → (y : ChordOf) × (y.methods ≡ js) × ChordIs sig p c y
      planned c k js e =
          let y = chord_of_plan c k js e in
          (y.0, y.2, chord_is_planned c k y.0 (slice_get p.classes c) refl y.1)
