-- What holds in every run, after one more entry of a body.
use Rattle.std.proofs.Common.{◌≡◌, ℕ, ◌<◌, length, inl, inr, true, false, ◌==◌, List, [], ◌∷◌, ◌++◌, Option, Some, None, refl, sym, ap, ◌∙◌, subst, arith}
use Rattle.std.proofs.lemmas.Bool.{eq-eqb, eqb-true, ne_eqb}
use Rattle.chord_base.specs.declared.value.Object.{Object}
use Rattle.chord_base.specs.declared.value.Value.{Value}
use Rattle.chord_base.specs.declared.value.Value.TheVariants as a_value
use Rattle.chord_base.specs.declared.event.End.{End}
use Rattle.chord_base.specs.declared.event.End.TheVariants.{Gives, Traps}
use Rattle.chord_base.specs.declared.event.Entry.{Entry}
use Rattle.chord_base.specs.declared.event.Limits.{Limits}
use Rattle.chord_base.specs.declared.event.What.{What}
use Rattle.chord_base.specs.declared.event.What.TheVariants.{Begun, Made, Sent, Called, Printed, Fired, Ended}
use Rattle.chord_base.specs.Messages.{maker, Message, message_of}
use Rattle.chord_base.specs.Bodies.{own, Doing, Absent, Unplaced, Ready, Waits, Over, asked, answered, heard, doing, serves}
use Rattle.chord_base.specs.Story.{IsOwn, AllBelow}
use Rattle.chord_base.specs.Meaning.{Program, Start}
use Rattle.chord_base.proofs.Waits.{either}
use Rattle.chord_base.specs.declared.static_type.StaticType.{StaticType}
use Rattle.chord_base.specs.Types.{Signatures}
use Rattle.chord_code.specs.declared.parts.Parts.{Parts}
use Rattle.chord_code.specs.Machine.{IsForward}
use Rattle.chord_code.specs.Meaning.{code_program}
use Rattle.chord_code.specs.Plays.{Play, MakesObject, SendsMessage, CallsMethod, PrintsLine, EndsBody, GoesWrong, Good, EndFits, what_of}
use Rattle.chord_code.specs.Runs.{sent, IsFitMessage, IsResultType, IsPlaying, BodyPlays, AllGood}
use Rattle.chord_code.proofs.Runs.{playing_more, playing_asks, ended_kind, answer_fits}

-- a later entry changes nothing of earlier messages
pub sent_below : (n q : ℕ) (m : Message) (h : List Entry) → AllBelow n h → sent q h ≡ Some m → q < n
sent_below n q m [] a s = (let z : ◌≡◌ {A = Option Message} None (Some m) = s in cc)
sent_below n q m (e ∷ h) a s =
    elim (either (e.number == q)) [
      | inl y ↦ (let i = eqb-true e.number q y in omega (arith, i, a.0))
      | inr o ↦ sent_below n q m h a.1 (rw o at s)
    ]

-- a message that was sent stays one
pub sent_more : (e : Entry) (q : ℕ) (m : Message) (h : List Entry) → AllBelow e.number h → sent q h ≡ Some m → sent q (e ∷ h) ≡ Some m
sent_more e q m h a s = (let less = sent_below e.number q m h a s in let o : (e.number == q) ≡ false = ne_eqb e.number q (λ i. omega (arith, i, less)) in rw (o, s))

-- the result type of a body stays after one more entry
pub result_more : (p : Program) (sig : Signatures) (e : Entry) (h : List Entry) (b : ℕ) (r : Option StaticType) → AllBelow e.number h → b < e.number → IsResultType p sig h b r → IsResultType p sig (e ∷ h) b r
result_more p sig e h b r a l is =
    let o : (e.number == b) ≡ false = ne_eqb e.number b (λ i. omega (arith, i, l)) in
    elim is [
      | inl none ↦ inl (rw o none.0, none.1)
      | inr s ↦
          inr (
            s.0,
            record { call = s.1.call; message = s.1.message; serves_call = rw o s.1.serves_call; is_message = sent_more e s.1.call s.1.message h a s.1.is_message; found = s.1.found },
            s.2,
          )
    ]

-- a body that plays goes on so after an entry that leaves it as it is
abbrev pub playing_later : (code : Parts) (limits : Limits) (sig : Signatures) (src : Start → ℕ → Play) (e : Entry) (h : List Entry) (b : ℕ) (s : Start) (d : ℕ) (rs : List End) → AllBelow e.number h → e.number ≡ length h → IsPlaying code limits sig src h b s d rs → IsPlaying code limits sig src (e ∷ h) b s d rs
playing_later code limits sig src e h b s d rs a n k =
    record {
      play = k.play;
      is = k.is;
      kind = k.kind;
      good = k.good;
      early = (let i = k.early in omega (arith, i));
      plays = k.plays;
      due = result_more (code_program code limits) sig e h b k.kind a (let i = k.early in omega (arith, i, n)) k.due;
    }

-- a body that does what it did
pub body_later : (code : Parts) (limits : Limits) (sig : Signatures) (src : Start → ℕ → Play) (e : Entry) (h : List Entry) (b : ℕ) (d : Doing) → AllBelow e.number h → e.number ≡ length h → BodyPlays code limits sig src h b d → BodyPlays code limits sig src (e ∷ h) b d
body_later code limits sig src e h b (Ready s d rs) a n k = playing_later code limits sig src e h b s d rs a n k
body_later code limits sig src e h b (Waits s d rs q l) a n k = (playing_later code limits sig src e h b s d rs a n k.0, k.1, sent_more e q k.1 h a k.2, k.3)
body_later code limits sig src e h b (Over x) a n k = tt
body_later code limits sig src e h b Absent a n k = tt
body_later code limits sig src e h b Unplaced a n k = tt

-- a trap fits a play that asks a call
trap_fits : (sig : Signatures) (p : Play) (o : Object) (j : ℕ) (vs : List Value) (t : _) → what_of p ≡ Some (Called o j vs) → EndFits sig p (Traps t)
trap_fits sig (CallsMethod l o' j' vs' k) o j vs t e = tt
trap_fits sig (MakesObject c k) o j vs t e = (let z : Made c ≡ Called o j vs = cc in cc)
trap_fits sig (SendsMessage o' j' vs' p) o j vs t e = (let z : Sent o' j' vs' ≡ Called o j vs = cc in cc)
trap_fits sig (PrintsLine x p) o j vs t e = (let z : Printed x ≡ Called o j vs = cc in cc)
trap_fits sig (EndsBody x) o j vs t e = (let z : Ended x ≡ Called o j vs = cc in cc)
trap_fits sig GoesWrong o j vs t e = (let z : ◌≡◌ {A = Option What} None (Some (Called o j vs)) = e in cc)

-- the end of a body fits the call that it serves
end_fits : (code : Parts) → IsForward code → (limits : Limits) (sig : Signatures) (src : Start → ℕ → Play) (h : List Entry) (b : ℕ) (x : End) (l q : ℕ) (m : Message) (p : Play) (d : Doing) → BodyPlays code limits sig src h b d → asked (code_program code limits) d ≡ Some (record { what = Ended x; depth = l }) → serves (code_program code limits) b h ≡ Some q → sent q h ≡ Some m → IsFitMessage sig m → what_of p ≡ Some (Called m.object m.method m.arguments) → EndFits sig p x
end_fits code fwd limits sig src h b (Traps t) l q m p d k e s f fit w = trap_fits sig p m.object m.method m.arguments t w
end_fits code fwd limits sig src h b (Gives v) l q m p (Ready st dp rs) k e s f fit w =
    let i = playing_asks code fwd limits sig src h b st dp rs k (Ended (Gives v)) l e in
    answer_fits code limits sig src h b q k.kind m p v k.due (ended_kind sig k.kind k.play v k.good i) s f fit w
end_fits code fwd limits sig src h b (Gives v) l q m p (Waits st dp rs c pl) k e s f fit w = cc
end_fits code fwd limits sig src h b (Gives v) l q m p (Over y) k e s f fit w = cc
end_fits code fwd limits sig src h b (Gives v) l q m p Absent k e s f fit w = cc
end_fits code fwd limits sig src h b (Gives v) l q m p Unplaced k e s f fit w = cc

-- a caller hears the end of the body that serves its call
pub caller_good : (code : Parts) → IsForward code → (limits : Limits) (sig : Signatures) (src : Start → ℕ → Play) (e : Entry) (h : List Entry) (x : End) (l : ℕ) (b : ℕ) (d : Doing) → AllBelow e.number h → e.number ≡ length h → AllGood code limits sig src h → asked (code_program code limits) (doing (code_program code limits) h e.body) ≡ Some (record { what = Ended x; depth = l }) → BodyPlays code limits sig src h b d → BodyPlays code limits sig src (e ∷ h) b (answered x (serves (code_program code limits) e.body h) d)
caller_good code fwd limits sig src e h x l b d a n all asks k = by_call (serves (code_program code limits) e.body h) refl d k
  where
    by_call : (c : Option ℕ) → serves (code_program code limits) e.body h ≡ c → (d : Doing) → BodyPlays code limits sig src h b d → BodyPlays code limits sig src (e ∷ h) b (answered x c d)
    by_call None i d k = body_later code limits sig src e h b d a n k
    by_call (Some c) i (Ready s dp rs) k = body_later code limits sig src e h b (Ready s dp rs) a n k
    by_call (Some c) i (Over y) k = tt
    by_call (Some c) i Absent k = tt
    by_call (Some c) i Unplaced k = tt
    by_call (Some c) i (Waits s dp rs q pl) k =
        elim (either (c == q)) [
          | inl y ↦
              (let j : serves (code_program code limits) e.body h ≡ Some q = i ∙ ap Some (eqb-true c q y) in
              let f = end_fits code fwd limits sig src h e.body x l q k.1 k.0.play (doing (code_program code limits) h e.body) (all.bodies e.body) asks j k.2 (all.messages q k.1 k.2) k.3 in
              rw y (playing_later code limits sig src e h b s dp (rs ++ x ∷ []) a n (playing_more code fwd limits sig src h b s dp rs x k.0 f)))
          | inr o ↦ rw o (body_later code limits sig src e h b (Waits s dp rs q pl) a n k)
        ]

-- the answer to an own ask fits it
own_fits : (sig : Signatures) (p : Play) (n : ℕ) (c : ℕ) → what_of p ≡ Some (Made c) → EndFits sig p (Gives (a_value.Ref (record { number = n; class = c })))
own_fits sig (MakesObject d k) n c e = (let z : Made d ≡ Made c = cc in let i : d ≡ c = cc in sym i)
own_fits sig (SendsMessage o j vs p) n c e = (let z : Sent o j vs ≡ Made c = cc in cc)
own_fits sig (CallsMethod l o j vs k) n c e = (let z : Called o j vs ≡ Made c = cc in cc)
own_fits sig (PrintsLine x p) n c e = (let z : Printed x ≡ Made c = cc in cc)
own_fits sig (EndsBody x) n c e = (let z : Ended x ≡ Made c = cc in cc)
own_fits sig GoesWrong n c e = (let z : ◌≡◌ {A = Option What} None (Some (Made c)) = e in cc)

-- the unit value fits a play that sends a message
sent_fits : (sig : Signatures) (p : Play) (o : Object) (j : ℕ) (vs : List Value) → what_of p ≡ Some (Sent o j vs) → EndFits sig p (Gives a_value.Unit)
sent_fits sig (SendsMessage o' j' vs' p) o j vs e = tt
sent_fits sig (MakesObject d k) o j vs e = (let z : Made d ≡ Sent o j vs = cc in cc)
sent_fits sig (CallsMethod l o' j' vs' k) o j vs e = (let z : Called o' j' vs' ≡ Sent o j vs = cc in cc)
sent_fits sig (PrintsLine x p) o j vs e = (let z : Printed x ≡ Sent o j vs = cc in cc)
sent_fits sig (EndsBody x) o j vs e = (let z : Ended x ≡ Sent o j vs = cc in cc)
sent_fits sig GoesWrong o j vs e = (let z : ◌≡◌ {A = Option What} None (Some (Sent o j vs)) = e in cc)

-- the unit value fits a play that prints a line
printed_fits : (sig : Signatures) (p : Play) (t : List ℕ) → what_of p ≡ Some (Printed t) → EndFits sig p (Gives a_value.Unit)
printed_fits sig (PrintsLine x p) t e = tt
printed_fits sig (SendsMessage o' j' vs' p) t e = (let z : Sent o' j' vs' ≡ Printed t = cc in cc)
printed_fits sig (MakesObject d k) t e = (let z : Made d ≡ Printed t = cc in cc)
printed_fits sig (CallsMethod l o' j' vs' k) t e = (let z : Called o' j' vs' ≡ Printed t = cc in cc)
printed_fits sig (EndsBody x) t e = (let z : Ended x ≡ Printed t = cc in cc)
printed_fits sig GoesWrong t e = (let z : ◌≡◌ {A = Option What} None (Some (Printed t)) = e in cc)

-- an entry of this number and body
abbrev pub own_entry : ℕ → ℕ → What → Entry
own_entry n b w = record { number = n; body = b; what = w }

-- a body after its own entry
pub own_good : (code : Parts) → IsForward code → (limits : Limits) (sig : Signatures) (src : Start → ℕ → Play) (h : List Entry) (n b : ℕ) (w : What) (l : ℕ) (m : ℕ → Option ℕ) (g : ℕ → Doing) (d : Doing) → AllBelow n h → n ≡ length h → BodyPlays code limits sig src h b d → asked (code_program code limits) d ≡ Some (record { what = w; depth = l }) → IsOwn w → BodyPlays code limits sig src (own_entry n b w ∷ h) b (own (code_program code limits) n w m g d)
own_good code fwd limits sig src h n b (Ended x) l m g d a i k e o = tt
own_good code fwd limits sig src h n b Begun l m g d a i k e o = absurd o
own_good code fwd limits sig src h n b (Fired c o' ms vs) l m g d a i k e o = absurd o
own_good code fwd limits sig src h n b (Made c) l m g (Ready s dp rs) a i k e o =
    let w = playing_asks code fwd limits sig src h b s dp rs k (Made c) l e in
    playing_later code limits sig src (own_entry n b (Made c)) h b s dp (rs ++ Gives (a_value.Ref (record { number = n; class = c })) ∷ []) a i
    (playing_more code fwd limits sig src h b s dp rs (Gives (a_value.Ref (record { number = n; class = c }))) k (own_fits sig k.play n c w))
own_good code fwd limits sig src h n b (Sent o' j vs) l m g (Ready s dp rs) a i k e o =
    let w = playing_asks code fwd limits sig src h b s dp rs k (Sent o' j vs) l e in
    playing_later code limits sig src (own_entry n b (Sent o' j vs)) h b s dp (rs ++ Gives a_value.Unit ∷ []) a i (playing_more code fwd limits sig src h b s dp rs (Gives a_value.Unit) k (sent_fits sig k.play o' j vs w))
own_good code fwd limits sig src h n b (Printed t) l m g (Ready s dp rs) a i k e o =
    let w = playing_asks code fwd limits sig src h b s dp rs k (Printed t) l e in
    playing_later code limits sig src (own_entry n b (Printed t)) h b s dp (rs ++ Gives a_value.Unit ∷ []) a i (playing_more code fwd limits sig src h b s dp rs (Gives a_value.Unit) k (printed_fits sig k.play t w))
own_good code fwd limits sig src h n b (Called o' j vs) l m g (Ready s dp rs) a i k e o =
    let w = playing_asks code fwd limits sig src h b s dp rs k (Called o' j vs) l e in
    let here : (n == n) ≡ true = eq-eqb n n refl in
    (playing_later code limits sig src (own_entry n b (Called o' j vs)) h b s dp rs a i k, record { object = o'; method = j; arguments = vs }, rw here refl, w)
own_good code fwd limits sig src h n b w l m g (Waits s dp rs q pl) a i k e o = cc
own_good code fwd limits sig src h n b w l m g (Over x) a i k e o = cc
own_good code fwd limits sig src h n b w l m g Absent a i k e o = cc
own_good code fwd limits sig src h n b w l m g Unplaced a i k e o = cc

-- a message of a good play is fit
pub message_fits : (sig : Signatures) (r : Option StaticType) (p : Play) (w : What) (m : Message) → Good sig r p → what_of p ≡ Some w → message_of w ≡ Some m → IsFitMessage sig m
message_fits sig r (SendsMessage o j vs p) w m g e i =
    let z : Sent o j vs ≡ w = cc in
    let y : ◌≡◌ {A = Option Message} (Some (record { object = o; method = j; arguments = vs })) (Some m) = ap message_of z ∙ i in
    let x : record { object = o; method = j; arguments = vs } ≡ m = cc in
    let q = g.0 in
    subst (λ (v : Message). IsFitMessage sig v) x (record { method = q.0; found = q.1; arguments = q.3 })
message_fits sig r (CallsMethod l o j vs k) w m g e i =
    let z : Called o j vs ≡ w = cc in
    let y : ◌≡◌ {A = Option Message} (Some (record { object = o; method = j; arguments = vs })) (Some m) = ap message_of z ∙ i in
    let x : record { object = o; method = j; arguments = vs } ≡ m = cc in
    subst (λ (v : Message). IsFitMessage sig v) x (record { method = g.0; found = g.1; arguments = g.3 })
message_fits sig r (MakesObject c k) w m g e i = (let z : Made c ≡ w = cc in let y : ◌≡◌ {A = Option Message} None (Some m) = ap message_of z ∙ i in cc)
message_fits sig r (PrintsLine t p) w m g e i = (let z : Printed t ≡ w = cc in let y : ◌≡◌ {A = Option Message} None (Some m) = ap message_of z ∙ i in cc)
message_fits sig r (EndsBody x) w m g e i = (let z : Ended x ≡ w = cc in let y : ◌≡◌ {A = Option Message} None (Some m) = ap message_of z ∙ i in cc)
message_fits sig r GoesWrong w m g e i = absurd g

-- a message that is a body's next ask has the arguments that its method wants
asked_fits : (code : Parts) → IsForward code → (limits : Limits) (sig : Signatures) (src : Start → ℕ → Play) (h : List Entry) (b : ℕ) (w : What) (l : ℕ) (m : Message) (d : Doing) → BodyPlays code limits sig src h b d → asked (code_program code limits) d ≡ Some (record { what = w; depth = l }) → message_of w ≡ Some m → IsFitMessage sig m
asked_fits code fwd limits sig src h b w l m (Ready s dp rs) k e i = message_fits sig k.kind k.play w m k.good (playing_asks code fwd limits sig src h b s dp rs k w l e) i
asked_fits code fwd limits sig src h b w l m (Waits s dp rs q pl) k e i = cc
asked_fits code fwd limits sig src h b w l m (Over x) k e i = cc
asked_fits code fwd limits sig src h b w l m Absent k e i = cc
asked_fits code fwd limits sig src h b w l m Unplaced k e i = cc

-- another body after that entry
heard_good : (code : Parts) → IsForward code → (limits : Limits) (sig : Signatures) (src : Start → ℕ → Play) (h : List Entry) (n b x : ℕ) (w : What) (l : ℕ) (d : Doing) → AllBelow n h → n ≡ length h → AllGood code limits sig src h → asked (code_program code limits) (doing (code_program code limits) h b) ≡ Some (record { what = w; depth = l }) → BodyPlays code limits sig src h x d → BodyPlays code limits sig src (own_entry n b w ∷ h) x (heard w (serves (code_program code limits) b h) d)
heard_good code fwd limits sig src h n b x (Ended y) l d a i all e k = caller_good code fwd limits sig src (own_entry n b (Ended y)) h y l x d a i all e k
heard_good code fwd limits sig src h n b x Begun l d a i all e k = body_later code limits sig src (own_entry n b Begun) h x d a i k
heard_good code fwd limits sig src h n b x (Made c) l d a i all e k = body_later code limits sig src (own_entry n b (Made c)) h x d a i k
heard_good code fwd limits sig src h n b x (Sent o j vs) l d a i all e k = body_later code limits sig src (own_entry n b (Sent o j vs)) h x d a i k
heard_good code fwd limits sig src h n b x (Called o j vs) l d a i all e k = body_later code limits sig src (own_entry n b (Called o j vs)) h x d a i k
heard_good code fwd limits sig src h n b x (Printed t) l d a i all e k = body_later code limits sig src (own_entry n b (Printed t)) h x d a i k
heard_good code fwd limits sig src h n b x (Fired c o ms vs) l d a i all e k = body_later code limits sig src (own_entry n b (Fired c o ms vs)) h x d a i k

-- the next ask of a body keeps all good
pub step_own : (code : Parts) → IsForward code → (limits : Limits) (sig : Signatures) (src : Start → ℕ → Play) (h : List Entry) (n b : ℕ) (w : What) (l : ℕ) → AllBelow n h → n ≡ length h → AllGood code limits sig src h → asked (code_program code limits) (doing (code_program code limits) h b) ≡ Some (record { what = w; depth = l }) → IsOwn w → AllGood code limits sig src (own_entry n b w ∷ h)
step_own code fwd limits sig src h n b w l a i all e o =
    record {
      messages =
          λ q m s.
          elim (either (n == q)) [
            | inl y ↦ asked_fits code fwd limits sig src h b w l m (doing (code_program code limits) h b) (all.bodies b) e (rw y at s)
            | inr f ↦ all.messages q m (rw f at s)
          ];
      bodies =
          λ x.
          elim (either (b == x)) [
            | inl y ↦
                (let z = eqb-true b x y in
                let k = own_good code fwd limits sig src h n b w l (λ q. maker q h) (doing (code_program code limits) h) (doing (code_program code limits) h b) a i (all.bodies b) e o in
                rw y (subst (λ v. BodyPlays code limits sig src (own_entry n b w ∷ h) v (own (code_program code limits) n w (λ q. maker q h) (doing (code_program code limits) h) (doing (code_program code limits) h v))) z k))
            | inr f ↦ rw f (heard_good code fwd limits sig src h n b x w l (doing (code_program code limits) h x) a i all e (all.bodies x))
          ];
    }
