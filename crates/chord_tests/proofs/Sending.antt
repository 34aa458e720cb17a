-- The code of the tests is sound: its `Main` makes an object, sends it one message and ends.
use Rattle.std.proofs.Common.{◌≡◌, inl, inr, ℕ, zero, suc, ◌+◌, ◌-◌, ◌<◌, true, false, List, [], ◌∷◌, length, Option, Some, None, refl, sym, ap, ◌∙◌, subst, arith, slice_get, map}
use Rattle.std.proofs.lemmas.Bool.{eq-eqb}
use mathlib.Core.Path.{Path}
use Rattle.chord_base.specs.declared.value.Object.{Object}
use Rattle.chord_base.specs.declared.value.Value.{Value}
use Rattle.chord_base.specs.declared.value.Value.TheVariants as a_value
use Rattle.chord_base.specs.declared.event.End.TheVariants.{Gives, Traps}
use Rattle.chord_base.specs.declared.event.Trap.TheVariants.{TooDeep}
use Rattle.chord_base.specs.declared.event.Entry.{Entry}
use Rattle.chord_base.specs.declared.event.Limits.{Limits}
use Rattle.chord_base.specs.declared.event.What.{What}
use Rattle.chord_base.specs.declared.event.What.TheVariants.{Begun, Made, Sent, Called, Printed, Fired, Ended}
use Rattle.chord_base.specs.declared.static_type.StaticType.{StaticType}
use Rattle.chord_base.specs.Bodies.{Doing, Absent, Unplaced, Ready, Waits, Over, doing, asked}
use Rattle.chord_base.specs.Machine.{IsPast, Comes}
use Rattle.chord_base.specs.Meaning.{Start, Main, Chord, Asked}
use Rattle.chord_base.specs.Messages.{Message, message_of}
use Rattle.chord_base.specs.Story.{HasKind}
use Rattle.chord_base.specs.Types.{Signature, Signatures, HaveAll}
use Rattle.chord_code.specs.declared.instruction.Instruction.TheVariants as instr
use Rattle.chord_code.specs.declared.parts.Parts.{Parts}
use Rattle.chord_code.specs.Machine.{IsForward, fetch, body_in_block}
use Rattle.chord_code.specs.Meaning.{code_program, begins, chord_lines, method_is_sync, methods_of}
use Rattle.chord_code.specs.Plays.{Play, MakesObject, SendsMessage, CallsMethod, PrintsLine, EndsBody, GoesWrong, Good, Plays, what_of}
use Rattle.chord_code.specs.Runs.{AreLocal, IsPlan, AllGood, BodyPlays, IsFitMessage}
use Rattle.chord_code.specs.Sound.{IsSoundCode, NamesMethod, HasMethod}
use Rattle.chord_base.specs.Bodies.{Asks}
use Rattle.chord_base.specs.Messages.{IsCall}
use Rattle.chord_base.specs.Story.{IsIn}
use Rattle.chord_rule.specs.declared.view.View.{View}
use Rattle.chord_rule.specs.Kinds.{newcomer_first, entry, drew, saw_count}
use Rattle.chord_rule.specs.Tells.{CameNext}
use Rattle.chord_space.specs.Desks.{heads, space_code}
use Rattle.chord_space.specs.Gives.{MayLink}
use Rattle.chord_space.specs.Widest.{widest}
use Rattle.chord_space.specs.declared.space.Space.{Space}
use Rattle.chord_code.proofs.Runs.{playing_asks}
use Rattle.chord_code.proofs.Sound.{all_good, all_defined}

-- a class with one asynchronous method and no chord; `Main` makes an object of it, sends it that message and ends
abbrev pub sending : Parts
sending = record {
  classes = record { name = 65 ∷ []; builder = None; methods = record { name = 120 ∷ []; sync = false; parameters = 0 } ∷ []; chords = [] } ∷ [];
  blocks = record { slots = 1; instructions = instr.New 0 0 ∷ instr.Send 0 0 ∷ instr.End ∷ [] } ∷ [];
}

-- the method
abbrev signature : Signature
signature = record { is_sync = false; parameters = []; result = None }

-- it is the only one
abbrev one_method : ℕ → ℕ → Option Signature
one_method zero zero = Some signature
one_method zero (suc j) = None
one_method (suc c) j = None

-- the signatures of the code: its one method, no builder, and no class that derives from another
abbrev signatures : Signatures
signatures = record { methods = one_method; builders = λ c. None; derives = λ c d. false }

-- what `Main` does where it has so much room below the depth limit
abbrev in_room : ℕ → Play
in_room zero = EndsBody (Traps TooDeep)
in_room (suc n) = MakesObject 0 (λ o. SendsMessage o 0 [] (EndsBody (Gives a_value.Unit)))

-- what bodies do
abbrev plays : Limits → Start → ℕ → Play
plays limits Main d = in_room (limits.depth - d)
plays limits (Chord k o vs) d = GoesWrong

-- `Main` begins so
abbrev fits : Start → Option StaticType → Type 0
fits Main r = r ≡ None
fits (Chord k o vs) r = ⊥

-- the jumps of the code go forward, but for those of loops
forward : IsForward sending
forward = record { jumps = λ b p a e. no_jump b p a e; skips = λ b p a e. no_skip b p a e; inits = λ b p c k n e f. no_init b p c e }
  where
    no_jump : (b p a : ℕ) → fetch sending b p ≡ Some (instr.Jump a) → p < a
    no_jump zero zero a e = absurd (cc)
    no_jump zero (suc zero) a e = absurd (cc)
    no_jump zero (suc (suc zero)) a e = absurd (cc)
    no_jump zero (suc (suc (suc p))) a e = absurd (cc)
    no_jump (suc b) p a e = absurd (cc)

    no_skip : (b p a : ℕ) → fetch sending b p ≡ Some (instr.Skip a) → p < a
    no_skip zero zero a e = absurd (cc)
    no_skip zero (suc zero) a e = absurd (cc)
    no_skip zero (suc (suc zero)) a e = absurd (cc)
    no_skip zero (suc (suc (suc p))) a e = absurd (cc)
    no_skip (suc b) p a e = absurd (cc)

    no_init : (b p c : ℕ) {k : ℕ} → fetch sending b p ≡ Some (instr.Init c) → k < b
    no_init zero zero c e = absurd (cc)
    no_init zero (suc zero) c e = absurd (cc)
    no_init zero (suc (suc zero)) c e = absurd (cc)
    no_init zero (suc (suc (suc p))) c e = absurd (cc)
    no_init (suc b) p c e = absurd (cc)

-- `Main` plays what it does
plays_in_room : (room turns : ℕ) → Good signatures None (in_room room) × Plays sending (in_room room) (body_in_block sending 0 room (a_value.Unit ∷ []) turns)
plays_in_room zero turns = (tt, (_, record { count = 1; by = refl }))
plays_in_room (suc n) turns = (
  (λ o c. ((signature, ap (λ (k : ℕ). one_method k 0) c, refl, tt), tt)),
  (_, record { count = 1; by = refl }, (λ o. (_, record { count = 1; by = refl }, (_, record { count = 1; by = refl })))),
)

-- a body of the code that begins as it may does what its play says, which is good
local : (limits : Limits) → AreLocal sending limits signatures (plays limits) fits
local limits = record { plays = go }
  where
    go : (s : Start) (d : ℕ) (r : Option StaticType) → fits s r → Good signatures r (plays limits s d) × Plays sending (plays limits s d) (begins sending limits s d)
    go Main d r f = let t = plays_in_room (limits.depth - d) limits.turns in (subst (λ (y : Option StaticType). Good signatures y (in_room (limits.depth - d))) (sym f) t.0, t.1)
    go (Chord k o vs) d r f = absurd f

-- no class has a chord
no_chords : (c k : ℕ) (js : List ℕ) → slice_get (map methods_of (chord_lines sending c)) k ≡ Some js → ⊥
no_chords zero k js e = let z : Path (Option (List ℕ)) None (Some js) = e in cc
no_chords (suc c) k js e = let z : Path (Option (List ℕ)) None (Some js) = e in cc

-- `Main` begins as it may, and no chord fires
plan : (limits : Limits) → IsPlan sending limits signatures (plays limits) fits
plan limits = record { main = refl; fired = λ h n k o ms vs a all f. absurd (no_chords o.class k f.0 f.1) }

-- a method is not synchronous
is_async : (c j : ℕ) (m : Signature) → one_method c j ≡ Some m → (m.is_sync ≡ false) × (method_is_sync sending c j ≡ false)
is_async zero zero m e = (let z : signature ≡ m = cc in ap (λ (y : Signature). y.is_sync) (sym z), refl)
is_async zero (suc j) m e = absurd (cc)
is_async (suc c) j m e = absurd (cc)

-- a message that fits names a method of its class
has_its_method : (c j : ℕ) (m : Signature) (vs : List Value) → one_method c j ≡ Some m → HaveAll signatures m.parameters vs → HasMethod sending c j (length vs)
has_its_method zero zero m vs e a = go vs (let z : signature ≡ m = cc in subst (λ (y : Signature). HaveAll signatures y.parameters vs) (sym z) a)
  where
    go : (vs : List Value) → HaveAll signatures [] vs → HasMethod sending 0 0 (length vs)
    go [] a = record { line = _; found = refl; parameters_are = refl }
    go (v ∷ vs) a = absurd a
has_its_method zero (suc j) m vs e a = absurd (cc)
has_its_method (suc c) j m vs e a = absurd (cc)

-- no body calls
no_call_of_play : (r : Option StaticType) (p : Play) (o : Object) (j : ℕ) (vs : List Value) → Good signatures r p → what_of p ≡ Some (Called o j vs) → ⊥
no_call_of_play r (CallsMethod l q i us k) o j vs g e = let t = (is_async q.class i g.0 g.1).0 in let z : true ≡ false = sym g.2 ∙ t in cc
no_call_of_play r (MakesObject c k) o j vs g e = (let z : Made c ≡ Called o j vs = cc in cc)
no_call_of_play r (SendsMessage q i us p) o j vs g e = (let z : Sent q i us ≡ Called o j vs = cc in cc)
no_call_of_play r (PrintsLine t p) o j vs g e = (let z : Printed t ≡ Called o j vs = cc in cc)
no_call_of_play r (EndsBody x) o j vs g e = (let z : Ended x ≡ Called o j vs = cc in cc)
no_call_of_play r GoesWrong o j vs g e = absurd g

-- the next ask of a body that does what is left of its play is no call
no_call : (limits : Limits) (h : List Entry) (b : ℕ) (d : Doing) (o : Object) (j : ℕ) (vs : List Value) (l : ℕ) → BodyPlays sending limits signatures (plays limits) h b d → asked (code_program sending limits) d ≡ Some (record { what = Called o j vs; depth = l }) → ⊥
no_call limits h b (Ready s k rs) o j vs l is e = no_call_of_play is.kind is.play o j vs is.good (playing_asks sending forward limits signatures (plays limits) h b s k rs is (Called o j vs) l e)
no_call limits h b (Waits s k rs q m) o j vs l is e = (let z : Path (Option Asked) None (Some (record { what = Called o j vs; depth = l })) = e in cc)
no_call limits h b Absent o j vs l is e = (let z : Path (Option Asked) None (Some (record { what = Called o j vs; depth = l })) = e in cc)
no_call limits h b Unplaced o j vs l is e = (let z : Path (Option Asked) None (Some (record { what = Called o j vs; depth = l })) = e in cc)
no_call limits h b (Over x) o j vs l is e = (let z : Path (Option Asked) None (Some (record { what = Called o j vs; depth = l })) = e in cc)

-- the code is sound
pub sending_is_sound : IsSoundCode sending
sending_is_sound limits some low = record {
  sound = record {
    is_defined = λ h b r. all_defined sending forward limits signatures (plays limits) fits (local limits) (plan limits) h b r;
    kinds = λ h e r. kind h e e.what refl r;
  };
  methods = λ h e r. method h e e.what refl r;
}
  where
    good : (h : List Entry) → IsPast (code_program sending limits) h → AllGood sending limits signatures (plays limits) h
    good h r = all_good sending forward limits signatures (plays limits) fits (local limits) (plan limits) h r

    fit : (h : List Entry) (e : Entry) (m : Message) → IsPast (code_program sending limits) (e ∷ h) → message_of e.what ≡ Some m → IsFitMessage signatures m
    fit h e m r says = (good (e ∷ h) r).messages e.number m (rw (eq-eqb e.number e.number refl) says)

    calls_none : (h : List Entry) (e : Entry) (o : Object) (j : ℕ) (vs : List Value) → e.what ≡ Called o j vs → IsPast (code_program sending limits) (e ∷ h) → ⊥
    calls_none h e o j vs is r = let c = subst (λ (w : What). Comes (code_program sending limits) h e.number e.body w) is r.1.comes in no_call limits h e.body (doing (code_program sending limits) h e.body) o j vs c.0 ((good h r.0).bodies e.body) c.1

    kind : (h : List Entry) (e : Entry) (w : What) → e.what ≡ w → IsPast (code_program sending limits) (e ∷ h) → HasKind (code_program sending limits) e.what
    kind h e (Sent o j vs) is r = let t = fit h e (record { object = o; method = j; arguments = vs }) r (ap message_of is) in subst (HasKind (code_program sending limits)) (sym is) (is_async o.class j t.method t.found).1
    kind h e (Called o j vs) is r = absurd (calls_none h e o j vs is r)
    kind h e Begun is r = subst (HasKind (code_program sending limits)) (sym is) tt
    kind h e (Made c) is r = subst (HasKind (code_program sending limits)) (sym is) tt
    kind h e (Printed t) is r = subst (HasKind (code_program sending limits)) (sym is) tt
    kind h e (Fired k o ms vs) is r = subst (HasKind (code_program sending limits)) (sym is) tt
    kind h e (Ended x) is r = subst (HasKind (code_program sending limits)) (sym is) tt

    method : (h : List Entry) (e : Entry) (w : What) → e.what ≡ w → IsPast (code_program sending limits) (e ∷ h) → NamesMethod sending e.what
    method h e (Sent o j vs) is r = let t = fit h e (record { object = o; method = j; arguments = vs }) r (ap message_of is) in subst (NamesMethod sending) (sym is) (has_its_method o.class j t.method vs t.found t.arguments)
    method h e (Called o j vs) is r = absurd (calls_none h e o j vs is r)
    method h e Begun is r = subst (NamesMethod sending) (sym is) tt
    method h e (Made c) is r = subst (NamesMethod sending) (sym is) tt
    method h e (Printed t) is r = subst (NamesMethod sending) (sym is) tt
    method h e (Fired k o ms vs) is r = subst (NamesMethod sending) (sym is) tt
    method h e (Ended x) is r = subst (NamesMethod sending) (sym is) tt

-- ## The desk that sends the message

-- what the desk knows that has drawn the beginning of `Main`, the object o and the message m
abbrev pub sent_by_hand : (b o m : ℕ) → View
sent_by_hand b o m = saw_count (drew (saw_count (drew (saw_count (drew newcomer_first b 0 Begun) (b + 1)) o 0 (Made 0)) (o + 1)) m 0 (Sent (record { number = o; class = 0 }) 0 [])) (m + 1)

-- `Main` first makes an object
pub asks_made : (limits : Limits) → limits.depth ≡ 9 → (b : ℕ) → Asks (code_program sending limits) (entry b 0 Begun ∷ []) 0 (Made 0)
asks_made limits deep b = (0, rw deep refl)

-- then it sends it a message
pub asks_sent : (limits : Limits) → limits.depth ≡ 9 → (b o : ℕ) → Asks (code_program sending limits) (entry o 0 (Made 0) ∷ entry b 0 Begun ∷ []) 0 (Sent (record { number = o; class = 0 }) 0 [])
asks_sent limits deep b o = (0, rw deep refl)

-- the first entry of a run is its beginning
pub begins_at_0 : (limits : Limits) (b : ℕ) → CameNext (code_program sending limits) (entry b 0 Begun) → b ≡ 0
begins_at_0 limits b came = came.1.1.numbered ∙ ap (λ (h : List Entry). length h) came.1.1.comes.0

-- the desk may link the message with a parcel that keeps nothing
pub may_link : (limits : Limits) → limits.depth ≡ 9 → (b o m : ℕ) → b ≡ 0 → b < o → o < m → MayLink (code_program sending limits) (sent_by_hand b o m) m (record { number = o; class = 0 }) 0 [] []
may_link limits deep b o m zero_b above later = record {
  fresh = inl refl;
  idle = refl;
  entry = entry m 0 (Sent (record { number = o; class = 0 }) 0 []);
  kept = inl refl;
  numbered = refl;
  message = refl;
  goes = record { part = refl; goes = tt; stays = (((tt, tt, sym zero_b), above, asks_made limits deep b), later, asks_sent limits deep b o) };
  others = λ e x is says. absurd is;
  call = λ e is call. no_call_there e is call;
  parked = λ b t. absurd t.1;
}
  where
    no_call_there : (e : Entry) → IsIn e (sent_by_hand b o m).kept → IsCall m e → IsIn e []
    no_call_there e (inl q) call = let t = subst (IsCall m) q call in absurd (let z = t in cc)
    no_call_there e (inr (inl q)) call = let t = subst (IsCall m) q call in absurd (let z = t in cc)
    no_call_there e (inr (inr (inl q))) call = let t = subst (IsCall m) q call in absurd (let z = t in cc)
    no_call_there e (inr (inr (inr k))) call = absurd k

-- each object of a table for the code has a head
pub sending_is_wide : {P : Type 0} (s : Space P) → space_code s ≡ sending → 0 < heads s
sending_is_wide s e = subst (λ (y : Parts). 0 < widest y) (sym e) (omega arith)
