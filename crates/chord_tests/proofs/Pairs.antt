-- The codes of the tests by hand are sound.
use Rattle.std.proofs.Common.{◌≡◌, inl, inr, ℕ, zero, suc, ◌++◌, ◌-◌, ◌<◌, ◌==◌, Bool, true, false, List, [], ◌∷◌, length, Option, Some, None, refl, sym, ap, ◌∙◌, subst, slice_get, map}
use Rattle.std.proofs.lemmas.Bool.{eq-eqb}
use Rattle.chord_base.proofs.Waits.{either}
use mathlib.Core.Path.{Path}
use Rattle.chord_base.specs.declared.value.Object.{Object}
use Rattle.chord_base.specs.declared.value.Value.{Value}
use Rattle.chord_base.specs.declared.value.Value.TheVariants as a_value
use Rattle.chord_base.specs.declared.event.End.TheVariants.{Gives, Traps}
use Rattle.chord_base.specs.declared.event.Trap.TheVariants.{TooDeep}
use Rattle.chord_base.specs.declared.event.Entry.{Entry}
use Rattle.chord_base.specs.declared.event.Limits.{Limits}
use Rattle.chord_base.specs.declared.event.What.{What}
use Rattle.chord_base.specs.declared.event.What.TheVariants.{Begun, Made, Sent, Called, Printed, Fired, Ended}
use Rattle.chord_base.specs.declared.static_type.StaticType.{StaticType}
use Rattle.chord_base.specs.Bodies.{Doing, Absent, Unplaced, Ready, Waits, Over, doing, asked, served_among}
use Rattle.chord_base.specs.Machine.{IsPast, Comes, Takes}
use Rattle.chord_base.specs.Meaning.{Start, Main, Chord, Asked}
use Rattle.chord_base.specs.Messages.{Message, message_of, members_of, has, pending}
use Rattle.chord_base.specs.Story.{HasKind}
use Rattle.chord_base.specs.Types.{Signature, Signatures, HaveAll}
use Rattle.chord_code.specs.declared.instruction.Instruction.TheVariants as instr
use Rattle.chord_code.specs.Machine.{IsForward, fetch, body_in_block}
use Rattle.chord_code.specs.Meaning.{code_program, begins, chord_lines, method_is_sync, methods_of}
use Rattle.chord_code.specs.Plays.{Play, MakesObject, SendsMessage, CallsMethod, PrintsLine, EndsBody, GoesWrong, Good, Plays, what_of}
use Rattle.chord_code.specs.Runs.{AreLocal, IsPlan, AllGood, BodyPlays, IsFitMessage, sent}
use Rattle.chord_code.specs.Sound.{IsSoundCode, NamesMethod, HasMethod}
use Rattle.chord_space.specs.Desks.{heads}
use Rattle.chord_space.specs.Widest.{widest}
use Rattle.chord_space.specs.declared.space.Space.{Space}
use Rattle.chord_tests.specs.Pairs.{pair_code, IsPairTable}
use Rattle.chord_code.proofs.Runs.{playing_asks}
use Rattle.chord_code.proofs.Sound.{all_good, all_defined}

-- both methods
abbrev signature : Signature
signature = record { is_sync = false; parameters = []; result = None }

-- they are those of the first class
abbrev two_methods : ℕ → ℕ → Option Signature
two_methods zero zero = Some signature
two_methods zero (suc zero) = Some signature
two_methods zero (suc (suc j)) = None
two_methods (suc c) j = None

-- the signatures of the code: its two methods, no builder, and no class that derives from another
abbrev signatures : Signatures
signatures = record { methods = two_methods; builders = λ c. None; derives = λ c d. false }

-- `Main` sends both messages and ends
abbrev sends : Object → Object → Play
sends o q = SendsMessage o 0 [] (SendsMessage q 1 [] (EndsBody (Gives a_value.Unit)))

-- what `Main` does where it has so much room below the depth limit
abbrev in_room : Bool → ℕ → Play
in_room two zero = EndsBody (Traps TooDeep)
in_room false (suc n) = MakesObject 0 (λ o. sends o o)
in_room true (suc n) = MakesObject 0 (λ o. MakesObject 0 (λ q. sends o q))

-- what bodies do
abbrev plays : Bool → Limits → Start → ℕ → Play
plays two limits Main d = in_room two (limits.depth - d)
plays two limits (Chord k o vs) d = EndsBody (Gives a_value.Unit)

-- bodies begin so: `Main`, and the body of the one chord
abbrev fits : Start → Option StaticType → Type 0
fits Main r = r ≡ None
fits (Chord k o vs) r = (o.class ≡ 0) × (k ≡ 0) × (vs ≡ []) × (r ≡ None)

module _ (two : Bool) where
  -- no jump is in the code
  forward : IsForward (pair_code two)
  forward = record { jumps = λ b p a e. no_jump two b p a e; skips = λ b p a e. no_skip two b p a e; inits = λ b p c k n e f. no_init two b p c e }
    where
      no_jump : (two : Bool) (b p a : ℕ) → fetch (pair_code two) b p ≡ Some (instr.Jump a) → p < a
      no_jump false zero zero a e = absurd (cc)
      no_jump false zero (suc zero) a e = absurd (cc)
      no_jump false zero (suc (suc zero)) a e = absurd (cc)
      no_jump false zero (suc (suc (suc zero))) a e = absurd (cc)
      no_jump false zero (suc (suc (suc (suc zero)))) a e = absurd (cc)
      no_jump false zero (suc (suc (suc (suc (suc zero))))) a e = absurd (cc)
      no_jump false zero (suc (suc (suc (suc (suc (suc zero)))))) a e = absurd (cc)
      no_jump false zero (suc (suc (suc (suc (suc (suc (suc p))))))) a e = absurd (cc)
      no_jump true zero zero a e = absurd (cc)
      no_jump true zero (suc zero) a e = absurd (cc)
      no_jump true zero (suc (suc zero)) a e = absurd (cc)
      no_jump true zero (suc (suc (suc zero))) a e = absurd (cc)
      no_jump true zero (suc (suc (suc (suc zero)))) a e = absurd (cc)
      no_jump true zero (suc (suc (suc (suc (suc zero))))) a e = absurd (cc)
      no_jump true zero (suc (suc (suc (suc (suc (suc zero)))))) a e = absurd (cc)
      no_jump true zero (suc (suc (suc (suc (suc (suc (suc zero))))))) a e = absurd (cc)
      no_jump true zero (suc (suc (suc (suc (suc (suc (suc (suc zero)))))))) a e = absurd (cc)
      no_jump true zero (suc (suc (suc (suc (suc (suc (suc (suc (suc p))))))))) a e = absurd (cc)
      no_jump two (suc zero) zero a e = absurd (cc)
      no_jump two (suc zero) (suc p) a e = absurd (cc)
      no_jump two (suc (suc b)) p a e = absurd (cc)

      no_skip : (two : Bool) (b p a : ℕ) → fetch (pair_code two) b p ≡ Some (instr.Skip a) → p < a
      no_skip false zero zero a e = absurd (cc)
      no_skip false zero (suc zero) a e = absurd (cc)
      no_skip false zero (suc (suc zero)) a e = absurd (cc)
      no_skip false zero (suc (suc (suc zero))) a e = absurd (cc)
      no_skip false zero (suc (suc (suc (suc zero)))) a e = absurd (cc)
      no_skip false zero (suc (suc (suc (suc (suc zero))))) a e = absurd (cc)
      no_skip false zero (suc (suc (suc (suc (suc (suc zero)))))) a e = absurd (cc)
      no_skip false zero (suc (suc (suc (suc (suc (suc (suc p))))))) a e = absurd (cc)
      no_skip true zero zero a e = absurd (cc)
      no_skip true zero (suc zero) a e = absurd (cc)
      no_skip true zero (suc (suc zero)) a e = absurd (cc)
      no_skip true zero (suc (suc (suc zero))) a e = absurd (cc)
      no_skip true zero (suc (suc (suc (suc zero)))) a e = absurd (cc)
      no_skip true zero (suc (suc (suc (suc (suc zero))))) a e = absurd (cc)
      no_skip true zero (suc (suc (suc (suc (suc (suc zero)))))) a e = absurd (cc)
      no_skip true zero (suc (suc (suc (suc (suc (suc (suc zero))))))) a e = absurd (cc)
      no_skip true zero (suc (suc (suc (suc (suc (suc (suc (suc zero)))))))) a e = absurd (cc)
      no_skip true zero (suc (suc (suc (suc (suc (suc (suc (suc (suc p))))))))) a e = absurd (cc)
      no_skip two (suc zero) zero a e = absurd (cc)
      no_skip two (suc zero) (suc p) a e = absurd (cc)
      no_skip two (suc (suc b)) p a e = absurd (cc)

      no_init : (two : Bool) (b p c : ℕ) {k : ℕ} → fetch (pair_code two) b p ≡ Some (instr.Init c) → k < b
      no_init false zero zero c e = absurd (cc)
      no_init false zero (suc zero) c e = absurd (cc)
      no_init false zero (suc (suc zero)) c e = absurd (cc)
      no_init false zero (suc (suc (suc zero))) c e = absurd (cc)
      no_init false zero (suc (suc (suc (suc zero)))) c e = absurd (cc)
      no_init false zero (suc (suc (suc (suc (suc zero))))) c e = absurd (cc)
      no_init false zero (suc (suc (suc (suc (suc (suc zero)))))) c e = absurd (cc)
      no_init false zero (suc (suc (suc (suc (suc (suc (suc p))))))) c e = absurd (cc)
      no_init true zero zero c e = absurd (cc)
      no_init true zero (suc zero) c e = absurd (cc)
      no_init true zero (suc (suc zero)) c e = absurd (cc)
      no_init true zero (suc (suc (suc zero))) c e = absurd (cc)
      no_init true zero (suc (suc (suc (suc zero)))) c e = absurd (cc)
      no_init true zero (suc (suc (suc (suc (suc zero))))) c e = absurd (cc)
      no_init true zero (suc (suc (suc (suc (suc (suc zero)))))) c e = absurd (cc)
      no_init true zero (suc (suc (suc (suc (suc (suc (suc zero))))))) c e = absurd (cc)
      no_init true zero (suc (suc (suc (suc (suc (suc (suc (suc zero)))))))) c e = absurd (cc)
      no_init true zero (suc (suc (suc (suc (suc (suc (suc (suc (suc p))))))))) c e = absurd (cc)
      no_init two (suc zero) zero c e = absurd (cc)
      no_init two (suc zero) (suc p) c e = absurd (cc)
      no_init two (suc (suc b)) p c e = absurd (cc)

-- a message to the first class is sent to a method of it
sends_first : (o : Object) → o.class ≡ 0 → (m : Signature) × (signatures.methods o.class 0 ≡ Some m) × (m.is_sync ≡ false) × HaveAll signatures m.parameters []
sends_first o c = (signature, ap (λ (k : ℕ). two_methods k 0) c, refl, tt)

-- so is one to the second method
sends_second : (o : Object) → o.class ≡ 0 → (m : Signature) × (signatures.methods o.class 1 ≡ Some m) × (m.is_sync ≡ false) × HaveAll signatures m.parameters []
sends_second o c = (signature, ap (λ (k : ℕ). two_methods k 1) c, refl, tt)

-- `Main` plays what it does
plays_in_room : (two : Bool) (room turns : ℕ) → Good signatures None (in_room two room) × Plays (pair_code two) (in_room two room) (body_in_block (pair_code two) 0 room (a_value.Unit ∷ []) turns)
plays_in_room false zero turns = (tt, (_, record { count = 1; by = refl }))
plays_in_room true zero turns = (tt, (_, record { count = 1; by = refl }))
plays_in_room false (suc n) turns = (
  (λ o c. (sends_first o c, (sends_second o c, tt))),
  (_, record { count = 1; by = refl }, (λ o. (_, record { count = 3; by = refl }, (_, record { count = 2; by = refl }, (_, record { count = 1; by = refl }))))),
)
plays_in_room true (suc n) turns = (
  (λ o c q d. (sends_first o c, (sends_second q d, tt))),
  (_, record { count = 1; by = refl }, (λ o. (_, record { count = 2; by = refl }, (λ q. (_, record { count = 3; by = refl }, (_, record { count = 2; by = refl }, (_, record { count = 1; by = refl }))))))),
)

-- the body of the chord ends at once
ends_at_once : (two : Bool) (o : Object) (room turns : ℕ) → Plays (pair_code two) (EndsBody (Gives a_value.Unit)) (body_in_block (pair_code two) 1 room (a_value.Ref o ∷ []) turns)
ends_at_once two o room turns = (_, record { count = 1; by = refl })

-- a body of the code that begins as it may does what its play says, which is good
local : (two : Bool) (limits : Limits) → AreLocal (pair_code two) limits signatures (plays two limits) fits
local two limits = record { plays = go }
  where
    go : (s : Start) (d : ℕ) (r : Option StaticType) → fits s r → Good signatures r (plays two limits s d) × Plays (pair_code two) (plays two limits s d) (begins (pair_code two) limits s d)
    go Main d r f = let t = plays_in_room two (limits.depth - d) limits.turns in (subst (λ (y : Option StaticType). Good signatures y (in_room two (limits.depth - d))) (sym f) t.0, t.1)
    go (Chord k o vs) d r f = (
      subst (λ (y : Option StaticType). Good signatures y (EndsBody (Gives a_value.Unit))) (sym f.3) tt,
      chord_plays o.class k vs f.0 f.1 f.2,
    )
      where
        chord_plays : (c i : ℕ) (us : List Value) → c ≡ 0 → i ≡ 0 → us ≡ [] → Plays (pair_code two) (EndsBody (Gives a_value.Unit)) (begins (pair_code two) limits (Chord i (record { number = o.number; class = c }) us) d)
        chord_plays zero zero [] e f z = ends_at_once two (record { number = o.number; class = 0 }) (limits.depth - d) limits.turns
        chord_plays (suc c) i us e f z = absurd (cc)
        chord_plays zero (suc i) us e f z = absurd (cc)
        chord_plays zero zero (u ∷ us) e f z = absurd (cc)

-- the one chord is that of the first class
one_chord : (two : Bool) (c k : ℕ) (js : List ℕ) → slice_get (map methods_of (chord_lines (pair_code two) c)) k ≡ Some js → (c ≡ 0) × (k ≡ 0)
one_chord two zero zero js e = (refl, refl)
one_chord two zero (suc k) js e = let z : Path (Option (List ℕ)) None (Some js) = e in absurd (cc)
one_chord two (suc zero) k js e = let z : Path (Option (List ℕ)) None (Some js) = e in absurd (cc)
one_chord two (suc (suc c)) k js e = let z : Path (Option (List ℕ)) None (Some js) = e in absurd (cc)

-- the callers of no method wait
never_sync : (two : Bool) (c j : ℕ) → method_is_sync (pair_code two) c j ≡ false
never_sync two zero zero = refl
never_sync two zero (suc zero) = refl
never_sync two zero (suc (suc j)) = refl
never_sync two (suc zero) j = refl
never_sync two (suc (suc c)) j = refl

-- so no firing serves a call
serves_none : (two : Bool) (c : ℕ) (js ms : List ℕ) → served_among (method_is_sync (pair_code two) c) js ms ≡ None
serves_none two c [] ms = refl
serves_none two c (j ∷ js) [] = refl
serves_none two c (j ∷ js) (i ∷ ms) = rw (never_sync two c j) (serves_none two c js ms)

-- a method is not synchronous
is_async : (c j : ℕ) (m : Signature) → two_methods c j ≡ Some m → m.is_sync ≡ false
is_async zero zero m e = let z : signature ≡ m = cc in ap (λ (y : Signature). y.is_sync) (sym z)
is_async zero (suc zero) m e = let z : signature ≡ m = cc in ap (λ (y : Signature). y.is_sync) (sym z)
is_async zero (suc (suc j)) m e = absurd (cc)
is_async (suc c) j m e = absurd (cc)

-- a message without arguments fits a method without parameters
fits_none : (vs : List Value) (m : Signature) → signature ≡ m → HaveAll signatures m.parameters vs → vs ≡ []
fits_none [] m z a = refl
fits_none (v ∷ vs) m z a = absurd (subst (λ (y : Signature). HaveAll signatures y.parameters (v ∷ vs)) (sym z) a)

-- each method is one without parameters
is_signature : (c j : ℕ) (m : Signature) → two_methods c j ≡ Some m → signature ≡ m
is_signature zero zero m e = cc
is_signature zero (suc zero) m e = cc
is_signature zero (suc (suc j)) m e = absurd (cc)
is_signature (suc c) j m e = absurd (cc)

-- a pending message was sent
was_sent : (n : ℕ) (h : List Entry) (m : Message) → pending n h ≡ Some m → sent n h ≡ Some m
was_sent n [] m e = e
was_sent n (x ∷ h) m e =
    elim (either (x.number == n)) [
      | inl y ↦ rw y (rw y at e)
      | inr y ↦
          elim (either (has n (members_of x.what))) [
            | inl t ↦ (let z : ◌≡◌ {A = Option Message} None (Some m) = rw (y, t) at e in absurd (cc))
            | inr t ↦ rw y (was_sent n h m (rw (y, t) at e))
          ]
    ]

-- so the members of a firing have no arguments
take_none : (two : Bool) (limits : Limits) (h : List Entry) → AllGood (pair_code two) limits signatures (plays two limits) h → (o : Object) (js ms : List ℕ) (vs : List Value) → Takes h o js ms vs → vs ≡ []
take_none two limits h all o [] [] vs t = t
take_none two limits h all o [] (i ∷ ms) vs t = absurd t
take_none two limits h all o (j ∷ js) [] vs t = absurd t
take_none two limits h all o (j ∷ js) (i ∷ ms) vs t =
    let fit = all.messages i (record { object = o; method = j; arguments = t.0 }) (was_sent i h _ t.2) in
    let none = fits_none t.0 fit.method (is_signature o.class j fit.method fit.found) fit.arguments in
    t.3 ∙ ap (λ (us : List Value). us ++ t.1) none ∙ take_none two limits h all o js ms t.1 t.4

-- `Main` begins as it may, and so does the body of the chord
plan : (two : Bool) (limits : Limits) → IsPlan (pair_code two) limits signatures (plays two limits) fits
plan two limits = record {
  main = refl;
  fired = λ h n k o ms vs a all f. let t = one_chord two o.class k f.0 f.1 in (None, (t.0, t.1, take_none two limits h all o f.0 ms vs f.2, refl), inl (rw (eq-eqb n n refl) (serves_none two o.class _ ms), refl));
}

-- a message that fits names a method of its class
has_its_method : (two : Bool) (c j : ℕ) (m : Signature) (vs : List Value) → two_methods c j ≡ Some m → HaveAll signatures m.parameters vs → HasMethod (pair_code two) c j (length vs)
has_its_method two zero zero m vs e a = record { line = _; found = refl; parameters_are = sym (ap (λ (us : List Value). length us) (fits_none vs m (cc) a)) }
has_its_method two zero (suc zero) m vs e a = record { line = _; found = refl; parameters_are = sym (ap (λ (us : List Value). length us) (fits_none vs m (cc) a)) }
has_its_method two zero (suc (suc j)) m vs e a = absurd (cc)
has_its_method two (suc c) j m vs e a = absurd (cc)

-- no body calls
no_call_of_play : (r : Option StaticType) (p : Play) (o : Object) (j : ℕ) (vs : List Value) → Good signatures r p → what_of p ≡ Some (Called o j vs) → ⊥
no_call_of_play r (CallsMethod l q i us k) o j vs g e = let t = is_async q.class i g.0 g.1 in let z : true ≡ false = sym g.2 ∙ t in cc
no_call_of_play r (MakesObject c k) o j vs g e = (let z : Made c ≡ Called o j vs = cc in cc)
no_call_of_play r (SendsMessage q i us p) o j vs g e = (let z : Sent q i us ≡ Called o j vs = cc in cc)
no_call_of_play r (PrintsLine t p) o j vs g e = (let z : Printed t ≡ Called o j vs = cc in cc)
no_call_of_play r (EndsBody x) o j vs g e = (let z : Ended x ≡ Called o j vs = cc in cc)
no_call_of_play r GoesWrong o j vs g e = absurd g

-- the next ask of a body that does what is left of its play is no call
no_call : (two : Bool) (limits : Limits) (h : List Entry) (b : ℕ) (d : Doing) (o : Object) (j : ℕ) (vs : List Value) (l : ℕ) → BodyPlays (pair_code two) limits signatures (plays two limits) h b d → asked (code_program (pair_code two) limits) d ≡ Some (record { what = Called o j vs; depth = l }) → ⊥
no_call two limits h b (Ready s k rs) o j vs l is e = no_call_of_play is.kind is.play o j vs is.good (playing_asks (pair_code two) (forward two) limits signatures (plays two limits) h b s k rs is (Called o j vs) l e)
no_call two limits h b (Waits s k rs q m) o j vs l is e = (let z : Path (Option Asked) None (Some (record { what = Called o j vs; depth = l })) = e in cc)
no_call two limits h b Absent o j vs l is e = (let z : Path (Option Asked) None (Some (record { what = Called o j vs; depth = l })) = e in cc)
no_call two limits h b Unplaced o j vs l is e = (let z : Path (Option Asked) None (Some (record { what = Called o j vs; depth = l })) = e in cc)
no_call two limits h b (Over x) o j vs l is e = (let z : Path (Option Asked) None (Some (record { what = Called o j vs; depth = l })) = e in cc)

-- the code is sound
pub pair_is_sound : (two : Bool) → IsSoundCode (pair_code two)
pair_is_sound two limits some low = record {
  sound = record {
    is_defined = λ h b r. all_defined (pair_code two) (forward two) limits signatures (plays two limits) fits (local two limits) (plan two limits) h b r;
    kinds = λ h e r. kind h e e.what refl r;
  };
  methods = λ h e r. method h e e.what refl r;
}
  where
    good : (h : List Entry) → IsPast (code_program (pair_code two) limits) h → AllGood (pair_code two) limits signatures (plays two limits) h
    good h r = all_good (pair_code two) (forward two) limits signatures (plays two limits) fits (local two limits) (plan two limits) h r

    fit : (h : List Entry) (e : Entry) (m : Message) → IsPast (code_program (pair_code two) limits) (e ∷ h) → message_of e.what ≡ Some m → IsFitMessage signatures m
    fit h e m r says = (good (e ∷ h) r).messages e.number m (rw (eq-eqb e.number e.number refl) says)

    calls_none : (h : List Entry) (e : Entry) (o : Object) (j : ℕ) (vs : List Value) → e.what ≡ Called o j vs → IsPast (code_program (pair_code two) limits) (e ∷ h) → ⊥
    calls_none h e o j vs is r = let c = subst (λ (w : What). Comes (code_program (pair_code two) limits) h e.number e.body w) is r.1.comes in no_call two limits h e.body (doing (code_program (pair_code two) limits) h e.body) o j vs c.0 ((good h r.0).bodies e.body) c.1

    kind : (h : List Entry) (e : Entry) (w : What) → e.what ≡ w → IsPast (code_program (pair_code two) limits) (e ∷ h) → HasKind (code_program (pair_code two) limits) e.what
    kind h e (Sent o j vs) is r = subst (HasKind (code_program (pair_code two) limits)) (sym is) (never_sync two o.class j)
    kind h e (Called o j vs) is r = absurd (calls_none h e o j vs is r)
    kind h e Begun is r = subst (HasKind (code_program (pair_code two) limits)) (sym is) tt
    kind h e (Made c) is r = subst (HasKind (code_program (pair_code two) limits)) (sym is) tt
    kind h e (Printed t) is r = subst (HasKind (code_program (pair_code two) limits)) (sym is) tt
    kind h e (Fired k o ms vs) is r = subst (HasKind (code_program (pair_code two) limits)) (sym is) tt
    kind h e (Ended x) is r = subst (HasKind (code_program (pair_code two) limits)) (sym is) tt

    method : (h : List Entry) (e : Entry) (w : What) → e.what ≡ w → IsPast (code_program (pair_code two) limits) (e ∷ h) → NamesMethod (pair_code two) e.what
    method h e (Sent o j vs) is r = let t = fit h e (record { object = o; method = j; arguments = vs }) r (ap message_of is) in subst (NamesMethod (pair_code two)) (sym is) (has_its_method two o.class j t.method vs t.found t.arguments)
    method h e (Called o j vs) is r = absurd (calls_none h e o j vs is r)
    method h e Begun is r = subst (NamesMethod (pair_code two)) (sym is) tt
    method h e (Made c) is r = subst (NamesMethod (pair_code two)) (sym is) tt
    method h e (Printed t) is r = subst (NamesMethod (pair_code two)) (sym is) tt
    method h e (Fired k o ms vs) is r = subst (NamesMethod (pair_code two)) (sym is) tt
    method h e (Ended x) is r = subst (NamesMethod (pair_code two)) (sym is) tt

-- each object of their tables has two heads
pub pair_heads : {P : Type 0} (two : Bool) (s : Space P) → IsPairTable two s → heads s ≡ 2
pair_heads two s t = ap widest t.0
