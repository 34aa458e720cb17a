-- The steps of what holds in every run.
use Rattle.std.proofs.Common.{◌≡◌, ℕ, ◌<◌, length, inl, inr, false, List, [], ◌∷◌, ◌++◌, Option, Some, None, refl, sym, ap, ◌∙◌, subst}
use Rattle.std.specs.Prelude.{IsSome}
use Rattle.chord_base.specs.declared.value.Object.{Object}
use Rattle.chord_base.specs.declared.value.Value.{Value}
use Rattle.chord_base.specs.declared.event.End.{End}
use Rattle.chord_base.specs.declared.event.End.TheVariants.{Gives, Traps}
use Rattle.chord_base.specs.declared.event.Entry.{Entry}
use Rattle.chord_base.specs.declared.event.Limits.{Limits}
use Rattle.chord_base.specs.declared.event.What.{What}
use Rattle.chord_base.specs.declared.event.What.TheVariants.{Made, Sent, Called, Printed, Ended}
use Rattle.chord_base.specs.Meaning.{Program, Start, Asked}
use Rattle.chord_base.specs.Bodies.{Doing, Absent, Unplaced, Ready, Waits, Over, asked, serves}
use Rattle.chord_base.specs.Messages.{Message}
use Rattle.chord_base.specs.Story.{IsDefined}
use Rattle.chord_base.specs.declared.static_type.StaticType.{StaticType}
use Rattle.chord_base.specs.Types.{Has, HaveAll, Signature, Signatures}
use Rattle.chord_code.specs.declared.parts.Parts.{Parts}
use Rattle.chord_code.specs.Machine.{IsForward}
use Rattle.chord_code.specs.Meaning.{point_of, begins, code_program, stands, asked_of}
use Rattle.chord_code.specs.Plays.{Play, MakesObject, SendsMessage, CallsMethod, PrintsLine, EndsBody, GoesWrong, PlaysAt, Good, left_of, left_after, ask_of, EndFits, what_of}
use Rattle.chord_code.specs.Runs.{sent, IsFitMessage, IsResultType, IsPlaying, BodyPlays, AreLocal}
use Rattle.chord_code.proofs.Asks.{points_more}
use Rattle.chord_code.proofs.Plays.{good_left, plays_left, plays_asks, plays_point, asks_exactly}

-- what is there is something
some_is : {A : Type 0} (o : Option A) (x : A) → o ≡ Some x → IsSome o
some_is o x e = rw e refl

-- the traces of a good run are defined
pub good_defined : (code : Parts) → IsForward code → (limits : Limits) (sig : Signatures) (src : Start → ℕ → Play) (h : List Entry) (b : ℕ) (d : Doing) → BodyPlays code limits sig src h b d → IsDefined (code_program code limits) d
good_defined code fwd limits sig src h b (Ready s d rs) k = (let a = plays_asks code fwd limits sig k.kind k.play (stands code limits s d rs) k.good k.plays in some_is (asked_of code limits (stands code limits s d rs)) a.0 a.1)
good_defined code fwd limits sig src h b (Waits s d rs q l) k = (let a = plays_asks code fwd limits sig k.0.kind k.0.play (stands code limits s d rs) k.0.good k.0.plays in some_is (asked_of code limits (stands code limits s d rs)) a.0 a.1)
good_defined code fwd limits sig src h b (Over x) k = tt
good_defined code fwd limits sig src h b Absent k = tt
good_defined code fwd limits sig src h b Unplaced k = tt

-- what is left after one more answer
pub left_more : (p : Play) (rs : List End) (e : End) → left_after p (rs ++ e ∷ []) ≡ left_of (left_after p rs) e
left_more p [] e = refl
left_more p (r ∷ rs) e = left_more (left_of p r) rs e

-- one more answer that fits: for an own entry, and for the end of the body that serves the open call
pub playing_more : (code : Parts) → IsForward code → (limits : Limits) (sig : Signatures) (src : Start → ℕ → Play) (h : List Entry) (b : ℕ) (s : Start) (d : ℕ) (rs : List End) (e : End) (k : IsPlaying code limits sig src h b s d rs) → EndFits sig k.play e → IsPlaying code limits sig src h b s d (rs ++ e ∷ [])
playing_more code fwd limits sig src h b s d rs e k f =
    record {
      play = left_of k.play e;
      is = ap (λ (z : Play). left_of z e) k.is ∙ sym (left_more (src s d) rs e);
      kind = k.kind;
      good = good_left sig k.kind k.play e k.good f;
      plays = subst (PlaysAt code (left_of k.play e)) (sym (points_more code (point_of (begins code limits s d)) rs e)) (plays_left code fwd sig k.kind k.play (stands code limits s d rs) e k.good f k.plays);
      early = k.early;
      due = k.due;
    }

-- what a ready body asks is what its play asks
pub playing_asks : (code : Parts) → IsForward code → (limits : Limits) (sig : Signatures) (src : Start → ℕ → Play) (h : List Entry) (b : ℕ) (s : Start) (d : ℕ) (rs : List End) (k : IsPlaying code limits sig src h b s d rs) (w : What) (l : ℕ) → asked (code_program code limits) (Ready s d rs) ≡ Some (record { what = w; depth = l }) → what_of k.play ≡ Some w
playing_asks code fwd limits sig src h b s d rs k w l e =
    let a = plays_asks code fwd limits sig k.kind k.play (stands code limits s d rs) k.good k.plays in
    let z : Some a.0 ≡ Some (record { what = w; depth = l }) = sym a.1 ∙ e in
    let y : a.0 ≡ record { what = w; depth = l } = cc in
    a.2 ∙ ap (λ (x : Asked). Some x.what) y

-- a body that may go on asks just what is left of the source's play
pub source_asks : (code : Parts) → IsForward code → (limits : Limits) (sig : Signatures) (src : Start → ℕ → Play) (h : List Entry) (b : ℕ) (s : Start) (d : ℕ) (rs : List End) → IsPlaying code limits sig src h b s d rs → asked_of code limits (stands code limits s d rs) ≡ ask_of limits (left_after (src s d) rs)
source_asks code fwd limits sig src h b s d rs k = asks_exactly code fwd limits sig k.kind k.play (stands code limits s d rs) k.good k.plays ∙ ap (ask_of limits) k.is

-- a message of a good play has its kind and its arguments
pub message_kind : (sig : Signatures) (r : Option StaticType) (p : Play) (o : Object) (j : ℕ) (vs : List Value) → Good sig r p → (what_of p ≡ Some (Sent o j vs)) → (m : Signature) × (sig.methods o.class j ≡ Some m) × (m.is_sync ≡ false) × HaveAll sig m.parameters vs
message_kind sig r (SendsMessage o' j' vs' p) o j vs g e =
    let z : Sent o' j' vs' ≡ Sent o j vs = cc in
    let a : o' ≡ o = cc in
    let b : j' ≡ j = cc in
    let c : vs' ≡ vs = cc in
    let q = g.0 in
    (q.0, subst (λ (x : Object). sig.methods x.class j ≡ Some q.0) a (subst (λ x. sig.methods o'.class x ≡ Some q.0) b q.1), q.2, subst (HaveAll sig q.0.parameters) c q.3)
message_kind sig r (MakesObject c k) o j vs g e = (let z : Made c ≡ Sent o j vs = cc in cc)
message_kind sig r (CallsMethod l o' j' vs' k) o j vs g e = (let z : Called o' j' vs' ≡ Sent o j vs = cc in cc)
message_kind sig r (PrintsLine t p) o j vs g e = (let z : Printed t ≡ Sent o j vs = cc in cc)
message_kind sig r (EndsBody x) o j vs g e = (let z : Ended x ≡ Sent o j vs = cc in cc)
message_kind sig r GoesWrong o j vs g e = absurd g

-- a body that ended gave a value of its kind
pub ended_kind : (sig : Signatures) (r : Option StaticType) (p : Play) (v : Value) → Good sig r p → what_of p ≡ Some (Ended (Gives v)) → Has sig r v
ended_kind sig r (EndsBody (Gives u)) v g e = (let z : Ended (Gives u) ≡ Ended (Gives v) = cc in let y : u ≡ v = cc in subst (Has sig r) y g)
ended_kind sig r (EndsBody (Traps t)) v g e = (let z : Ended (Traps t) ≡ Ended (Gives v) = cc in cc)
ended_kind sig r (MakesObject c k) v g e = (let z : Made c ≡ Ended (Gives v) = cc in cc)
ended_kind sig r (SendsMessage o j vs p) v g e = (let z : Sent o j vs ≡ Ended (Gives v) = cc in cc)
ended_kind sig r (CallsMethod l o j vs k) v g e = (let z : Called o j vs ≡ Ended (Gives v) = cc in cc)
ended_kind sig r (PrintsLine t p) v g e = (let z : Printed t ≡ Ended (Gives v) = cc in cc)
ended_kind sig r GoesWrong v g e = absurd g

-- what is there is the same where its options are
same_some : {A : Type 0} (x y : A) → Some x ≡ Some y → x ≡ y
same_some x y e = cc

-- the kind of a body that serves this call
pub due_is : (p : Program) (sig : Signatures) (h : List Entry) (b q : ℕ) (r : Option StaticType) (m : Message) (method : Signature) → IsResultType p sig h b r → serves p b h ≡ Some q → sent q h ≡ Some m → sig.methods m.object.class m.method ≡ Some method → r ≡ method.result
due_is p sig h b q r m method due s t f =
    elim due [
      | inl none ↦ (let z : ◌≡◌ {A = Option ℕ} None (Some q) = sym none.0 ∙ s in cc)
      | inr d ↦
          (let a : d.1.call ≡ q = same_some d.1.call q (sym d.1.serves_call ∙ s) in
          let c : d.1.message ≡ m = same_some d.1.message m (sym d.1.is_message ∙ ap (λ z. sent z h) a ∙ t) in
          let g : d.0 ≡ method = same_some d.0 method (sym d.1.found ∙ ap (λ (z : Message). sig.methods z.object.class z.method) c ∙ f) in
          d.2 ∙ ap (λ (z : Signature). z.result) g)
    ]

-- that value fits the call that it answers
pub answer_fits : (code : Parts) (limits : Limits) (sig : Signatures) (src : Start → ℕ → Play) (h : List Entry) (b q : ℕ) (r : Option StaticType) (m : Message) (p : Play) (v : Value) → IsResultType (code_program code limits) sig h b r → Has sig r v → serves (code_program code limits) b h ≡ Some q → sent q h ≡ Some m → IsFitMessage sig m → what_of p ≡ Some (Called m.object m.method m.arguments) → EndFits sig p (Gives v)
answer_fits code limits sig src h b q r m (CallsMethod l o j vs k) v due is s t fit e =
    let z : Called o j vs ≡ Called m.object m.method m.arguments = cc in
    let a : m.object ≡ o = cc in
    let c : m.method ≡ j = cc in
    let f = subst (λ (x : Object). sig.methods x.class j ≡ Some fit.method) a (subst (λ x. sig.methods m.object.class x ≡ Some fit.method) c fit.found) in
    (fit.method, f, subst (λ x. Has sig x v) (due_is (code_program code limits) sig h b q r m fit.method due s t fit.found) is)
answer_fits code limits sig src h b q r m (MakesObject c k) v due is s t fit e = (let z : Made c ≡ Called m.object m.method m.arguments = cc in cc)
answer_fits code limits sig src h b q r m (SendsMessage o j vs p) v due is s t fit e = (let z : Sent o j vs ≡ Called m.object m.method m.arguments = cc in cc)
answer_fits code limits sig src h b q r m (PrintsLine x p) v due is s t fit e = (let z : Printed x ≡ Called m.object m.method m.arguments = cc in cc)
answer_fits code limits sig src h b q r m (EndsBody x) v due is s t fit e = (let z : Ended x ≡ Called m.object m.method m.arguments = cc in cc)
answer_fits code limits sig src h b q r m GoesWrong v due is s t fit e = (let z : ◌≡◌ {A = Option What} None (Some (Called m.object m.method m.arguments)) = e in cc)

-- a body that begins
pub playing_begins : (code : Parts) (limits : Limits) (sig : Signatures) (src : Start → ℕ → Play) (fits : Start → Option StaticType → Type 0) (h : List Entry) (b : ℕ) (s : Start) (d : ℕ) (r : Option StaticType) → AreLocal code limits sig src fits → fits s r → IsResultType (code_program code limits) sig h b r → b < length h → IsPlaying code limits sig src h b s d []
playing_begins code limits sig src fits h b s d r local f due early =
    let k = local.plays s d r f in
    record { play = src s d; is = refl; kind = r; good = k.0; plays = plays_point code sig r (src s d) (begins code limits s d) k.0 k.1; early = early; due = due }
