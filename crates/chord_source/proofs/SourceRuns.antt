-- In every run of a meaning whose bodies ask what good plays ask, each ask is defined, of its method's kind and keeps to types.
use Rattle.std.proofs.Common.{◌≡◌, ℕ, ◌+◌, ◌<◌, length, inl, inr, true, ◌==◌, List, [], ◌∷◌, ◌++◌, reverse, Option, Some, None, refl, sym, ap, ◌∙◌, subst, arith}
use Rattle.std.specs.Prelude.{option_map, IsSome}
use Rattle.std.proofs.lemmas.Bool.{eq-eqb, eqb-true}
use Rattle.std.proofs.lemmas.Option.{none-some, same_Some}
use Rattle.chord_base.specs.declared.value.Object.{Object}
use Rattle.chord_base.specs.declared.value.Value.{Value}
use Rattle.chord_base.specs.declared.value.Value.TheVariants as a_value
use Rattle.chord_base.specs.declared.event.End.{End}
use Rattle.chord_base.specs.declared.event.End.TheVariants.{Gives, Traps}
use Rattle.chord_base.specs.declared.event.Trap.{Trap}
use Rattle.chord_base.specs.declared.event.Trap.TheVariants.{TooDeep}
use Rattle.chord_base.specs.declared.event.Entry.{Entry}
use Rattle.chord_base.specs.declared.event.Limits.{Limits}
use Rattle.chord_base.specs.declared.event.What.{What}
use Rattle.chord_base.specs.declared.event.What.TheVariants.{Begun, Made, Sent, Called, Printed, Fired, Ended}
use Rattle.chord_base.specs.Meaning.{Program, Start, Main, Chord, Asked}
use Rattle.chord_base.specs.Bodies.{Asks, Doing, Absent, Unplaced, Ready, Waits, Over, asked, answered, begun, begun_by, doing, heard, own, placed, replied, served, serves, waiting}
use Rattle.chord_base.specs.Messages.{Message, maker, message_of}
use Rattle.chord_base.specs.Machine.{Comes, Fires, IsPast, IsRun}
use Rattle.chord_base.specs.Story.{AllBelow, HasKind, IsDefined, IsIn, IsOwn, IsSound}
use Rattle.chord_base.specs.declared.static_type.StaticType.{StaticType}
use Rattle.chord_base.specs.Types.{Has, Signature, Signatures}
use Rattle.chord_base.proofs.Merged.{past_below}
use Rattle.chord_base.proofs.Waits.{either}
use Rattle.chord_bodies.specs.Planned.{IsPlanned}
use Rattle.chord_bodies.specs.Resolved.{Resolved}
use Rattle.chord_code.specs.Plays.{Play, MakesObject, SendsMessage, CallsMethod, PrintsLine, EndsBody, GoesWrong, EndFits, Good, ask_of, left_after, left_of, what_of}
use Rattle.chord_code.specs.Runs.{IsFitMessage, IsResultType, sent}
use Rattle.chord_code.proofs.AllGood.{message_fits, own_entry, result_more, sent_more}
use Rattle.chord_code.proofs.Plays.{good_left}
use Rattle.chord_code.proofs.Runs.{due_is, ended_kind, left_more}
use Rattle.chord_source.specs.Laws.{AreWellTyped, MachinesAreSound, StartFits}
use Rattle.chord_source.specs.Source.{play_of, source_program}
use Rattle.chord_source.specs.TypedRuns.{KeepsTypes, PlaysWell, RunsKeepTypes, RunsPlayWell, begins_as}
use Rattle.chord_source.proofs.Callers.{in_reversed}
use Rattle.chord_source.proofs.Ends.{each_ends}
use Rattle.chord_source.proofs.Firings.{chords_right, firing_fits, tells_kind}
use Rattle.chord_source.proofs.GoodPlays.{good_plays}
use Rattle.chord_source.proofs.TypedRuns.{BeginsWell, EntryFits, fits_later, play_fits}

-- what a play's ask says is what the play says
ask_says : (limits : Limits) (p : Play) → option_map (λ (a : Asked). a.what) (ask_of limits p) ≡ what_of p
ask_says limits (MakesObject c k) = refl
ask_says limits (SendsMessage o j xs p) = refl
ask_says limits (CallsMethod r o j xs k) = refl
ask_says limits (PrintsLine t p) = refl
ask_says limits (EndsBody e) = refl
ask_says limits GoesWrong = refl

-- a good play has an ask
good_asks : (limits : Limits) (sig : Signatures) (r : Option StaticType) (p : Play) → Good sig r p → IsSome (ask_of limits p)
good_asks limits sig r (MakesObject c k) g = refl
good_asks limits sig r (SendsMessage o j xs p) g = refl
good_asks limits sig r (CallsMethod room o j xs k) g = refl
good_asks limits sig r (PrintsLine t p) g = refl
good_asks limits sig r (EndsBody e) g = refl
good_asks limits sig r GoesWrong g = absurd g

-- how an ask may be answered that is no end: a call by this trap
abbrev answer_to : ℕ → Trap → What → End
answer_to n t (Made c) = Gives (a_value.Ref (record { number = n; class = c }))
answer_to n t (Called o j vs) = Traps t
answer_to n t _ = Gives a_value.Unit

-- that answer fits the play that asks so
answer_fits : (sig : Signatures) (n : ℕ) (t : Trap) (w : What) (p : Play) → what_of p ≡ Some w → ((x : End) → w ≡ Ended x → ⊥) → EndFits sig p (answer_to n t w)
answer_fits sig n t w (MakesObject c k) e apart = subst (λ z. EndFits sig (MakesObject c k) (answer_to n t z)) (same_Some _ _ e) refl
answer_fits sig n t w (SendsMessage o j xs p) e apart = subst (λ z. EndFits sig (SendsMessage o j xs p) (answer_to n t z)) (same_Some _ _ e) tt
answer_fits sig n t w (CallsMethod r o j xs k) e apart = subst (λ z. EndFits sig (CallsMethod r o j xs k) (answer_to n t z)) (same_Some _ _ e) tt
answer_fits sig n t w (PrintsLine s p) e apart = subst (λ z. EndFits sig (PrintsLine s p) (answer_to n t z)) (same_Some _ _ e) tt
answer_fits sig n t w (EndsBody x) e apart = absurd (apart x (sym (same_Some _ _ e)))
answer_fits sig n t w GoesWrong e apart = absurd (none-some _ e)

-- a value has the result type of the method that is called
abbrev FitsCall : Signatures → Value → What → Type 0
FitsCall sig v (Called o j vs) = (m : Signature) × (sig.methods o.class j ≡ Some m) × Has sig m.result v
FitsCall sig v _ = ⊥

-- such a value fits the play that makes the call
value_fits : (sig : Signatures) (v : Value) (w : What) (p : Play) → what_of p ≡ Some w → FitsCall sig v w → EndFits sig p (Gives v)
value_fits sig v w (MakesObject c k) e f = absurd (subst (FitsCall sig v) (sym (same_Some _ _ e)) f)
value_fits sig v w (SendsMessage o j xs p) e f = absurd (subst (FitsCall sig v) (sym (same_Some _ _ e)) f)
value_fits sig v w (CallsMethod r o j xs k) e f = subst (FitsCall sig v) (sym (same_Some _ _ e)) f
value_fits sig v w (PrintsLine s p) e f = absurd (subst (FitsCall sig v) (sym (same_Some _ _ e)) f)
value_fits sig v w (EndsBody x) e f = absurd (subst (FitsCall sig v) (sym (same_Some _ _ e)) f)
value_fits sig v w GoesWrong e f = absurd (none-some _ e)

-- nothing is not a message
no_message : {A : Type 0} (m : Message) → ◌≡◌ {A = Option Message} None (Some m) → A
no_message m e = absurd (none-some _ e)

module _ (limits : Limits) (sig : Signatures) (program : Program) (src : Start → ℕ → Play) (asks : (s : Start) (d : ℕ) (rs : List End) → program.next s d rs ≡ ask_of limits (left_after (src s d) rs)) where
  -- a body of which a good play is left
  record IsPlayingWell (h : List Entry) (b : ℕ) (s : Start) (d : ℕ) (rs : List End) : Type 0 where
    play : Play
    is : play ≡ left_after (src s d) rs
    kind : Option StaticType
    good : Good sig kind play
    early : b < length h
    due : IsResultType program sig h b kind

  -- what is known of a body, by what it does
  abbrev BodyIsGood : List Entry → ℕ → Doing → Type 0
  BodyIsGood h b (Ready s d rs) = IsPlayingWell h b s d rs
  BodyIsGood h b (Waits s d rs q l) = (k : IsPlayingWell h b s d rs) × (m : Message) × (sent q h ≡ Some m) × (what_of k.play ≡ Some (Called m.object m.method m.arguments))
  BodyIsGood h b (Over x) = Unit {0}
  BodyIsGood h b Absent = Unit {0}
  BodyIsGood h b Unplaced = Unit {0}

  -- after a run: each message has its arguments, and of each body a good play is left
  record RunIsGood (h : List Entry) : Type 0 where
    messages : (n : ℕ) (m : Message) → sent n h ≡ Some m → IsFitMessage sig m
    bodies : (b : ℕ) → BodyIsGood h b (doing program h b)

  -- what a ready body asks is what its play asks
  playing_asks : (h : List Entry) (b : ℕ) (s : Start) (d : ℕ) (rs : List End) (w : What) (l : ℕ) (k : IsPlayingWell h b s d rs) → program.next s d rs ≡ Some (record { what = w; depth = l }) → what_of k.play ≡ Some w
  playing_asks h b s d rs w l k e =
      sym (ask_says limits k.play) ∙ ap (option_map (λ (a : Asked). a.what)) (ap (ask_of limits) k.is ∙ sym (asks s d rs) ∙ e)

  -- what a body of which a good play is left asks is defined
  playing_defined : (h : List Entry) (b : ℕ) (s : Start) (d : ℕ) (rs : List End) → IsPlayingWell h b s d rs → IsSome (program.next s d rs)
  playing_defined h b s d rs k =
      subst (λ (z : Option Asked). IsSome z) (ap (ask_of limits) k.is ∙ sym (asks s d rs)) (good_asks limits sig k.kind k.play k.good)

  -- what each body does is defined
  body_defined : (h : List Entry) (b : ℕ) (d : Doing) → BodyIsGood h b d → IsDefined program d
  body_defined h b (Ready s d rs) k = playing_defined h b s d rs k
  body_defined h b (Waits s d rs q l) k = playing_defined h b s d rs k.0
  body_defined h b (Over x) k = tt
  body_defined h b Absent k = tt
  body_defined h b Unplaced k = tt

  -- one more answer that fits
  playing_more : (h : List Entry) (b : ℕ) (s : Start) (d : ℕ) (rs : List End) (e : End) (k : IsPlayingWell h b s d rs) → EndFits sig k.play e → IsPlayingWell h b s d (rs ++ e ∷ [])
  playing_more h b s d rs e k f =
      record {
        play = left_of k.play e;
        is = ap (λ (z : Play). left_of z e) k.is ∙ sym (left_more (src s d) rs e);
        kind = k.kind;
        good = good_left sig k.kind k.play e k.good f;
        early = k.early;
        due = k.due;
      }

  -- one more entry that leaves a body as it is
  abbrev playing_later : (e : Entry) (h : List Entry) (b : ℕ) (s : Start) (d : ℕ) (rs : List End) → AllBelow e.number h → e.number ≡ length h → IsPlayingWell h b s d rs → IsPlayingWell (e ∷ h) b s d rs
  playing_later e h b s d rs a n k =
      record {
        play = k.play;
        is = k.is;
        kind = k.kind;
        good = k.good;
        early = (let i = k.early in omega (arith, i));
        due = result_more program sig e h b k.kind a (let i = k.early in omega (arith, i, n)) k.due;
      }

  -- a body that does what it did
  body_later : (e : Entry) (h : List Entry) (b : ℕ) (d : Doing) → AllBelow e.number h → e.number ≡ length h → BodyIsGood h b d → BodyIsGood (e ∷ h) b d
  body_later e h b (Ready s d rs) a n k = playing_later e h b s d rs a n k
  body_later e h b (Waits s d rs q l) a n k = (playing_later e h b s d rs a n k.0, k.1, sent_more e q k.1 h a k.2, k.3)
  body_later e h b (Over x) a n k = tt
  body_later e h b Absent a n k = tt
  body_later e h b Unplaced a n k = tt

  -- the end of a body fits the call that it serves
  end_fits : (h : List Entry) (b : ℕ) (x : End) (l q : ℕ) (m : Message) (p : Play) (d : Doing) → BodyIsGood h b d → asked program d ≡ Some (record { what = Ended x; depth = l }) → serves program b h ≡ Some q → sent q h ≡ Some m → IsFitMessage sig m → what_of p ≡ Some (Called m.object m.method m.arguments) → EndFits sig p x
  end_fits h b (Traps t) l q m p d k e s f fit w = answer_fits sig 0 t (Called m.object m.method m.arguments) p w (λ x z. cc)
  end_fits h b (Gives v) l q m p (Ready st dp rs) k e s f fit w =
      let i = playing_asks h b st dp rs (Ended (Gives v)) l k e in
      let is : k.kind ≡ fit.method.result = due_is program sig h b q k.kind m fit.method k.due s f fit.found in
      value_fits sig v (Called m.object m.method m.arguments) p w (fit.method, fit.found, subst (λ z. Has sig z v) is (ended_kind sig k.kind k.play v k.good i))
  end_fits h b (Gives v) l q m p (Waits st dp rs c pl) k e s f fit w = absurd (none-some _ e)
  end_fits h b (Gives v) l q m p (Over y) k e s f fit w = absurd (none-some _ e)
  end_fits h b (Gives v) l q m p Absent k e s f fit w = absurd (none-some _ e)
  end_fits h b (Gives v) l q m p Unplaced k e s f fit w = absurd (none-some _ e)

  -- a caller hears the end of the body that serves its call
  caller_good : (e : Entry) (h : List Entry) (x : End) (l : ℕ) (b : ℕ) (d : Doing) → AllBelow e.number h → e.number ≡ length h → RunIsGood h → asked program (doing program h e.body) ≡ Some (record { what = Ended x; depth = l }) → BodyIsGood h b d → BodyIsGood (e ∷ h) b (answered x (serves program e.body h) d)
  caller_good e h x l b d a n all says k = by_call (serves program e.body h) refl d k
    where
      by_call : (c : Option ℕ) → serves program e.body h ≡ c → (d : Doing) → BodyIsGood h b d → BodyIsGood (e ∷ h) b (answered x c d)
      by_call None i d k = body_later e h b d a n k
      by_call (Some c) i (Ready s dp rs) k = body_later e h b (Ready s dp rs) a n k
      by_call (Some c) i (Over y) k = tt
      by_call (Some c) i Absent k = tt
      by_call (Some c) i Unplaced k = tt
      by_call (Some c) i (Waits s dp rs q pl) k =
          elim (either (c == q)) [
            | inl y ↦
                (let j : serves program e.body h ≡ Some q = i ∙ ap Some (eqb-true c q y) in
                let f = end_fits h e.body x l q k.1 k.0.play (doing program h e.body) (all.bodies e.body) says j k.2 (all.messages q k.1 k.2) k.3 in
                rw y (playing_later e h b s dp (rs ++ x ∷ []) a n (playing_more h b s dp rs x k.0 f)))
            | inr o ↦ rw o (body_later e h b (Waits s dp rs q pl) a n k)
          ]

  -- a body after an own entry that is answered at once
  answered_good : (h : List Entry) (n b : ℕ) (w : What) (l : ℕ) (d : Doing) → AllBelow n h → n ≡ length h → BodyIsGood h b d → asked program d ≡ Some (record { what = w; depth = l }) → ((x : End) → w ≡ Ended x → ⊥) → BodyIsGood (own_entry n b w ∷ h) b (replied (answer_to n TooDeep w) d)
  answered_good h n b w l (Ready s dp rs) a i k e apart =
      let f = answer_fits sig n TooDeep w k.play (playing_asks h b s dp rs w l k e) apart in
      playing_later (own_entry n b w) h b s dp (rs ++ answer_to n TooDeep w ∷ []) a i (playing_more h b s dp rs (answer_to n TooDeep w) k f)
  answered_good h n b w l (Waits s dp rs q pl) a i k e apart = absurd (none-some _ e)
  answered_good h n b w l (Over x) a i k e apart = absurd (none-some _ e)
  answered_good h n b w l Absent a i k e apart = absurd (none-some _ e)
  answered_good h n b w l Unplaced a i k e apart = absurd (none-some _ e)

  -- a body after its call
  calling_good : (h : List Entry) (n b : ℕ) (o : Object) (j : ℕ) (vs : List Value) (l : ℕ) (d : Doing) → AllBelow n h → n ≡ length h → BodyIsGood h b d → asked program d ≡ Some (record { what = Called o j vs; depth = l }) → BodyIsGood (own_entry n b (Called o j vs) ∷ h) b (waiting program n d)
  calling_good h n b o j vs l (Ready s dp rs) a i k e =
      let w = playing_asks h b s dp rs (Called o j vs) l k e in
      let here : (n == n) ≡ true = eq-eqb n n refl in
      (playing_later (own_entry n b (Called o j vs)) h b s dp rs a i k, record { object = o; method = j; arguments = vs }, rw here refl, w)
  calling_good h n b o j vs l (Waits s dp rs q pl) a i k e = absurd (none-some _ e)
  calling_good h n b o j vs l (Over x) a i k e = absurd (none-some _ e)
  calling_good h n b o j vs l Absent a i k e = absurd (none-some _ e)
  calling_good h n b o j vs l Unplaced a i k e = absurd (none-some _ e)

  -- a body after its own entry
  own_good : (h : List Entry) (n b : ℕ) (w : What) (l : ℕ) (m : ℕ → Option ℕ) (g : ℕ → Doing) (d : Doing) → AllBelow n h → n ≡ length h → BodyIsGood h b d → asked program d ≡ Some (record { what = w; depth = l }) → IsOwn w → BodyIsGood (own_entry n b w ∷ h) b (own program n w m g d)
  own_good h n b (Ended x) l m g d a i k e o = tt
  own_good h n b (Made c) l m g d a i k e o = answered_good h n b (Made c) l d a i k e (λ x z. cc)
  own_good h n b (Sent q j vs) l m g d a i k e o = answered_good h n b (Sent q j vs) l d a i k e (λ x z. cc)
  own_good h n b (Printed t) l m g d a i k e o = answered_good h n b (Printed t) l d a i k e (λ x z. cc)
  own_good h n b (Called q j vs) l m g d a i k e o = calling_good h n b q j vs l d a i k e
  own_good h n b Begun l m g d a i k e o = absurd o
  own_good h n b (Fired c q ms vs) l m g d a i k e o = absurd o

  -- a message that is a body's next ask has the arguments that its method wants
  asked_fits : (h : List Entry) (b : ℕ) (w : What) (l : ℕ) (m : Message) (d : Doing) → BodyIsGood h b d → asked program d ≡ Some (record { what = w; depth = l }) → message_of w ≡ Some m → IsFitMessage sig m
  asked_fits h b w l m (Ready s dp rs) k e i = message_fits sig k.kind k.play w m k.good (playing_asks h b s dp rs w l k e) i
  asked_fits h b w l m (Waits s dp rs q pl) k e i = absurd (none-some _ e)
  asked_fits h b w l m (Over x) k e i = absurd (none-some _ e)
  asked_fits h b w l m Absent k e i = absurd (none-some _ e)
  asked_fits h b w l m Unplaced k e i = absurd (none-some _ e)

  -- another body after that entry
  heard_good : (h : List Entry) (n b x : ℕ) (w : What) (l : ℕ) (d : Doing) → AllBelow n h → n ≡ length h → RunIsGood h → asked program (doing program h b) ≡ Some (record { what = w; depth = l }) → BodyIsGood h x d → BodyIsGood (own_entry n b w ∷ h) x (heard w (serves program b h) d)
  heard_good h n b x (Ended y) l d a i all e k = caller_good (own_entry n b (Ended y)) h y l x d a i all e k
  heard_good h n b x Begun l d a i all e k = body_later (own_entry n b Begun) h x d a i k
  heard_good h n b x (Made c) l d a i all e k = body_later (own_entry n b (Made c)) h x d a i k
  heard_good h n b x (Sent o j vs) l d a i all e k = body_later (own_entry n b (Sent o j vs)) h x d a i k
  heard_good h n b x (Called o j vs) l d a i all e k = body_later (own_entry n b (Called o j vs)) h x d a i k
  heard_good h n b x (Printed t) l d a i all e k = body_later (own_entry n b (Printed t)) h x d a i k
  heard_good h n b x (Fired c o ms vs) l d a i all e k = body_later (own_entry n b (Fired c o ms vs)) h x d a i k

  -- the next ask of a body keeps a run good
  step_own : (h : List Entry) (n b : ℕ) (w : What) (l : ℕ) → AllBelow n h → n ≡ length h → RunIsGood h → asked program (doing program h b) ≡ Some (record { what = w; depth = l }) → IsOwn w → RunIsGood (own_entry n b w ∷ h)
  step_own h n b w l a i all e o =
      record {
        messages =
            λ q m s.
            elim (either (n == q)) [
              | inl y ↦ asked_fits h b w l m (doing program h b) (all.bodies b) e (rw y at s)
              | inr f ↦ all.messages q m (rw f at s)
            ];
        bodies =
            λ x.
            elim (either (b == x)) [
              | inl y ↦
                  (let z = eqb-true b x y in
                  let k = own_good h n b w l (λ q. maker q h) (doing program h) (doing program h b) a i (all.bodies b) e o in
                  rw y (subst (λ v. BodyIsGood (own_entry n b w ∷ h) v (own program n w (λ q. maker q h) (doing program h) (doing program h v))) z k))
              | inr f ↦ rw f (heard_good h n b x w l (doing program h x) a i all e (all.bodies x))
            ];
      }

  -- what is known of a new body at each depth is known of it as it begins, whether it serves a call or not
  begun_good : (h : List Entry) (n : ℕ) (s : Start) (c : Option ℕ) (m : ℕ → Option ℕ) (g : ℕ → Doing) → ((l : ℕ) → IsPlayingWell h n s l []) → BodyIsGood h n (begun s c m g)
  begun_good h n s None m g f = f 1
  begun_good h n s (Some q) m g f = by_maker (m q)
    where
      below : (d : Doing) → BodyIsGood h n (placed s q d)
      below (Waits s' d rs q' l) = elim (either (q == q')) [ inl y ↦ rw y (f (l + 1)) | inr o ↦ rw o tt ]
      below (Ready s' d rs) = tt
      below Absent = tt
      below Unplaced = tt
      below (Over x) = tt

      by_maker : (b : Option ℕ) → BodyIsGood h n (begun_by s q b g)
      by_maker None = tt
      by_maker (Some b) = below (g b)

  module _ (fits : Start → Option StaticType → Type 0) (local : (s : Start) (d : ℕ) (r : Option StaticType) → fits s r → Good sig r (src s d)) (main : fits Main None)
      (fired : (h : List Entry) → RunIsGood h → (n k : ℕ) (o : Object) (ms : List ℕ) (vs : List Value) → AllBelow n h → Fires program h k o ms vs → (r : Option StaticType) × fits (Chord k o vs) r × IsResultType program sig (own_entry n n (Fired k o ms vs) ∷ h) n r) where
    -- a body that begins
    playing_begins : (h : List Entry) (b : ℕ) (s : Start) (d : ℕ) (r : Option StaticType) → fits s r → IsResultType program sig h b r → b < length h → IsPlayingWell h b s d []
    playing_begins h b s d r f due early = record { play = src s d; is = refl; kind = r; good = local s d r f; early = early; due = due }

    -- `Main` begins
    step_begun : RunIsGood (own_entry 0 0 Begun ∷ [])
    step_begun =
        record {
          messages = λ q m s. elim (either (0 == q)) [ inl y ↦ no_message m (rw y at s) | inr o ↦ no_message m (rw o at s) ];
          bodies =
              λ x.
              elim (either (0 == x)) [
                | inl y ↦
                    (let z = eqb-true 0 x y in
                    rw y (subst (λ v. BodyIsGood (own_entry 0 0 Begun ∷ []) v (Ready Main 1 [])) z (playing_begins (own_entry 0 0 Begun ∷ []) 0 Main 1 None main (inl (refl, refl)) (omega arith))))
                | inr o ↦ rw o tt
              ];
        }

    -- a chord fires
    step_fired : (h : List Entry) (n k : ℕ) (o : Object) (ms : List ℕ) (vs : List Value) → AllBelow n h → n ≡ length h → RunIsGood h → Fires program h k o ms vs → RunIsGood (own_entry n n (Fired k o ms vs) ∷ h)
    step_fired h n k o ms vs a i all f =
        let e = own_entry n n (Fired k o ms vs) in
        let r = fired h all n k o ms vs a f in
        record {
          messages = λ q m s. elim (either (n == q)) [ inl y ↦ no_message m (rw y at s) | inr g ↦ all.messages q m (rw g at s) ];
          bodies =
              λ x.
              elim (either (n == x)) [
                | inl y ↦
                    (let z = eqb-true n x y in
                    rw y (subst (λ v. BodyIsGood (e ∷ h) v (begun (Chord k o vs) (served program (Fired k o ms vs)) (λ q. maker q h) (doing program h))) z
                    (begun_good (e ∷ h) n (Chord k o vs) (served program (Fired k o ms vs)) (λ q. maker q h) (doing program h) (λ l. playing_begins (e ∷ h) n (Chord k o vs) l r.0 r.1 r.2 (omega (arith, i))))))
                | inr g ↦ rw g (body_later e h x (doing program h x) a i (all.bodies x))
              ];
        }

    -- an entry that may come next keeps a run good
    step_comes : (h : List Entry) (n b : ℕ) (w : What) → AllBelow n h → n ≡ length h → RunIsGood h → Comes program h n b w → RunIsGood (own_entry n b w ∷ h)
    step_comes h n b Begun a i all c =
        let z : n ≡ 0 = i ∙ ap length c.0 in
        subst (λ v. RunIsGood (own_entry v b Begun ∷ h)) (sym z)
        (subst (λ v. RunIsGood (own_entry 0 v Begun ∷ h)) (sym c.1) (subst (λ (v : List Entry). RunIsGood (own_entry 0 0 Begun ∷ v)) (sym c.0) step_begun))
    step_comes h n b (Fired k o ms vs) a i all c = subst (λ v. RunIsGood (own_entry n v (Fired k o ms vs) ∷ h)) (sym c.0) (step_fired h n k o ms vs a i all c.1)
    step_comes h n b (Made c') a i all c = step_own h n b (Made c') c.0 a i all c.1 tt
    step_comes h n b (Sent o j vs) a i all c = step_own h n b (Sent o j vs) c.0 a i all c.1 tt
    step_comes h n b (Called o j vs) a i all c = step_own h n b (Called o j vs) c.0 a i all c.1 tt
    step_comes h n b (Printed t) a i all c = step_own h n b (Printed t) c.0 a i all c.1 tt
    step_comes h n b (Ended x) a i all c = step_own h n b (Ended x) c.0 a i all c.1 tt

    -- every run is good
    run_good : (h : List Entry) → IsPast program h → RunIsGood h
    run_good [] r = record { messages = λ q m s. no_message m s; bodies = λ x. tt }
    run_good (e ∷ h) r = step_comes h e.number e.body e.what (past_below program h e.number r.0 (omega (arith, r.1.numbered))) r.1.numbered (run_good h r.0) r.1.comes

    -- what a body asks keeps to types
    asked_entry_fits : (h : List Entry) (b : ℕ) (w : What) (l : ℕ) (d : Doing) → BodyIsGood h b d → asked program d ≡ Some (record { what = w; depth = l }) → EntryFits fits program sig h b w
    asked_entry_fits h b w l (Ready s dp rs) k e = play_fits fits program sig h b k.kind k.play w k.early k.due k.good (playing_asks h b s dp rs w l k e)
    asked_entry_fits h b w l (Waits s dp rs q pl) k e = absurd (none-some _ e)
    asked_entry_fits h b w l (Over x) k e = absurd (none-some _ e)
    asked_entry_fits h b w l Absent k e = absurd (none-some _ e)
    asked_entry_fits h b w l Unplaced k e = absurd (none-some _ e)

    -- what a body asks keeps to types once it is an entry
    own_fits : (h : List Entry) (n b : ℕ) (w : What) → AllBelow n h → n ≡ length h → RunIsGood h → Asks program h b w → EntryFits fits program sig (own_entry n b w ∷ h) b w
    own_fits h n b w a i all c = fits_later fits program sig (own_entry n b w) h b w a i (asked_entry_fits h b w c.0 (doing program h b) (all.bodies b) c.1)

    -- `Main` begins as it may, and serves no call
    main_begins : (n b : ℕ) → b ≡ 0 → BeginsWell fits program sig (own_entry n b Begun ∷ []) b Main
    main_begins n b z = (omega (arith, z), None, main, inl (elim (either (n == b)) [ inl y ↦ rw y refl | inr o ↦ rw o refl ], refl))

    -- what comes next in a good run keeps to types
    comes_fits : (h : List Entry) (n b : ℕ) (w : What) → AllBelow n h → n ≡ length h → RunIsGood h → Comes program h n b w → EntryFits fits program sig (own_entry n b w ∷ h) b w
    comes_fits h n b Begun a i all c = subst (λ (v : List Entry). BeginsWell fits program sig (own_entry n b Begun ∷ v) b Main) (sym c.0) (main_begins n b c.1)
    comes_fits h n b (Fired k o ms vs) a i all c =
        let r = fired h all n k o ms vs a c.1 in
        subst (λ v. BeginsWell fits program sig (own_entry n v (Fired k o ms vs) ∷ h) v (Chord k o vs)) (sym c.0) (omega (arith, i), r.0, r.1, r.2)
    comes_fits h n b (Made x) a i all c = tt
    comes_fits h n b (Printed t) a i all c = tt
    comes_fits h n b (Ended x) a i all c = own_fits h n b (Ended x) a i all c
    comes_fits h n b (Sent o j vs) a i all c = own_fits h n b (Sent o j vs) a i all c
    comes_fits h n b (Called o j vs) a i all c = own_fits h n b (Called o j vs) a i all c

    -- each entry of a run keeps to types
    past_fits : (h : List Entry) (x : Entry) → IsPast program h → IsIn x h → EntryFits fits program sig h x.body x.what
    past_fits [] x r i = absurd i
    past_fits (e ∷ h) x r i =
        let below : AllBelow e.number h = past_below program h e.number r.0 (omega (arith, r.1.numbered)) in
        elim i [
          | inl y ↦ subst (λ (z : Entry). EntryFits fits program sig (e ∷ h) z.body z.what) (sym y) (comes_fits h e.number e.body e.what below r.1.numbered (run_good h r.0) r.1.comes)
          | inr y ↦ fits_later fits program sig e h x.body x.what below r.1.numbered (past_fits h x r.0 y)
        ]

    -- an entry of a journal that says this keeps to types
    journal_fits : (journal : List Entry) → IsRun program journal → (e : Entry) (w : What) → IsIn e journal → e.what ≡ w → EntryFits fits program sig (reverse journal) e.body w
    journal_fits journal run e w i is = subst (EntryFits fits program sig (reverse journal) e.body) is (past_fits (reverse journal) e run (in_reversed e journal i))

    -- the body that an entry of a journal begins so begins as it may
    body_begins : (journal : List Entry) → IsRun program journal → (e : Entry) (s : Start) → IsIn e journal → begins_as e.what ≡ Some s → (r : Option StaticType) × fits s r × IsResultType program sig (reverse journal) e.body r
    body_begins journal run e s i is = by_what e.what refl is
      where
        by_what : (w : What) → e.what ≡ w → begins_as w ≡ Some s → (r : Option StaticType) × fits s r × IsResultType program sig (reverse journal) e.body r
        by_what Begun q is = subst (λ z. (r : Option StaticType) × fits z r × IsResultType program sig (reverse journal) e.body r) (same_Some _ _ is) (let k = journal_fits journal run e Begun i q in (k.1, k.2, k.3))
        by_what (Fired c o ms vs) q is = subst (λ z. (r : Option StaticType) × fits z r × IsResultType program sig (reverse journal) e.body r) (same_Some _ _ is) (let k = journal_fits journal run e (Fired c o ms vs) i q in (k.1, k.2, k.3))
        by_what (Made c) q is = absurd (none-some _ is)
        by_what (Sent o j vs) q is = absurd (none-some _ is)
        by_what (Called o j vs) q is = absurd (none-some _ is)
        by_what (Printed t) q is = absurd (none-some _ is)
        by_what (Ended x) q is = absurd (none-some _ is)

    module _ (kinds : (k j : ℕ) (m : Signature) → sig.methods k j ≡ Some m → program.is_sync k j ≡ m.is_sync) where
      -- what a good play says has the kind of its method
      good_kind : (r : Option StaticType) (p : Play) (w : What) → Good sig r p → what_of p ≡ Some w → HasKind program w
      good_kind r (MakesObject c k) w g e = subst (HasKind program) (same_Some _ _ e) tt
      good_kind r (SendsMessage o j xs p) w g e = subst (HasKind program) (same_Some _ _ e) (kinds o.class j g.0.0 g.0.1 ∙ g.0.2)
      good_kind r (CallsMethod room o j xs k) w g e = subst (HasKind program) (same_Some _ _ e) (kinds o.class j g.0 g.1 ∙ g.2)
      good_kind r (PrintsLine t p) w g e = subst (HasKind program) (same_Some _ _ e) tt
      good_kind r (EndsBody x) w g e = subst (HasKind program) (same_Some _ _ e) tt
      good_kind r GoesWrong w g e = absurd g

      -- what a body asks has the kind of its method
      asked_kind : (h : List Entry) (b : ℕ) (w : What) (l : ℕ) (d : Doing) → BodyIsGood h b d → asked program d ≡ Some (record { what = w; depth = l }) → HasKind program w
      asked_kind h b w l (Ready s dp rs) k e = good_kind k.kind k.play w k.good (playing_asks h b s dp rs w l k e)
      asked_kind h b w l (Waits s dp rs q pl) k e = absurd (none-some _ e)
      asked_kind h b w l (Over x) k e = absurd (none-some _ e)
      asked_kind h b w l Absent k e = absurd (none-some _ e)
      asked_kind h b w l Unplaced k e = absurd (none-some _ e)

      -- what comes next in a good run has the kind of its method
      comes_kind : (h : List Entry) (n b : ℕ) (w : What) → RunIsGood h → Comes program h n b w → HasKind program w
      comes_kind h n b Begun all c = tt
      comes_kind h n b (Fired k o ms vs) all c = tt
      comes_kind h n b (Made x) all c = tt
      comes_kind h n b (Printed t) all c = tt
      comes_kind h n b (Ended x) all c = tt
      comes_kind h n b (Sent o j vs) all c = asked_kind h b (Sent o j vs) c.0 (doing program h b) (all.bodies b) c.1
      comes_kind h n b (Called o j vs) all c = asked_kind h b (Called o j vs) c.0 (doing program h b) (all.bodies b) c.1

      -- the meaning is sound
      plays_sound : IsSound program
      plays_sound = record {
        is_defined = λ h b past. body_defined h b (doing program h b) ((run_good h past).bodies b);
        kinds = λ h e past. comes_kind h e.number e.body e.what (run_good h past.0) past.1.comes;
      }

module _ (sig : Signatures) (p : Resolved) (typed : AreWellTyped sig p) (plan : IsPlanned sig p) (limits : Limits) where
  -- the body of a firing begins as it may, and has its result type
  source_fired : (h : List Entry) → RunIsGood limits sig (source_program p limits) (play_of p limits) (λ s d rs. refl) h → (n k : ℕ) (o : Object) (ms : List ℕ) (vs : List Value) → AllBelow n h → Fires (source_program p limits) h k o ms vs
      → (r : Option StaticType) × StartFits sig p (Chord k o vs) r × IsResultType (source_program p limits) sig (own_entry n n (Fired k o ms vs) ∷ h) n r
  source_fired h all n k o ms vs below f = firing_fits sig p plan (source_program p limits) refl refl h all.messages o n k ms vs below f

  -- the join machine of a source is sound
  source_sound : IsSound (source_program p limits)
  source_sound =
      plays_sound limits sig (source_program p limits) (play_of p limits) (λ s d rs. refl) (StartFits sig p) (λ s d r f. good_plays sig p typed plan limits s d r f) refl source_fired
      (tells_kind sig p plan (source_program p limits) refl refl)

  module _ (journal : List Entry) (run : IsRun (source_program p limits) journal) where
    -- an entry of a run that says this keeps to types
    source_fits : (e : Entry) (w : What) → IsIn e journal → e.what ≡ w → EntryFits (StartFits sig p) (source_program p limits) sig (reverse journal) e.body w
    source_fits = journal_fits limits sig (source_program p limits) (play_of p limits) (λ s d rs. refl) (StartFits sig p) (λ s d r f. good_plays sig p typed plan limits s d r f) refl source_fired journal run

    -- the body that an entry of a run begins so begins as it may
    source_begins : (e : Entry) (s : Start) → IsIn e journal → begins_as e.what ≡ Some s → (r : Option StaticType) × StartFits sig p s r × IsResultType (source_program p limits) sig (reverse journal) e.body r
    source_begins = body_begins limits sig (source_program p limits) (play_of p limits) (λ s d rs. refl) (StartFits sig p) (λ s d r f. good_plays sig p typed plan limits s d r f) refl source_fired journal run

    -- a run keeps to types
    source_keeps_types : KeepsTypes p (source_program p limits) sig journal
    source_keeps_types = record {
      sends = λ e o j vs i w. source_fits e (Sent o j vs) i w;
      calls = λ e o j vs i w. source_fits e (Called o j vs) i w;
      begins = source_begins;
      gives = λ e v i w. (let k = source_fits e (Ended (Gives v)) i w in (k.1, k.2, k.3));
    }

    -- each of its bodies plays well
    source_plays_well : (e : Entry) (s : Start) → IsIn e journal → begins_as e.what ≡ Some s → (r : Option StaticType) × IsResultType (source_program p limits) sig (reverse journal) e.body r × ((d : ℕ) → PlaysWell sig p limits s d r)
    source_plays_well e s i is =
        let k = source_begins e s i is in
        (k.0, k.2, λ d. record { good = good_plays sig p typed plan limits s d k.0 k.1; ends = each_ends sig p typed plan limits s d k.0 k.1 })

-- the join machine of each source whose bodies keep to their static types, and whose plan is as it must be, is sound, and its chords are right
pub machines_are_sound : MachinesAreSound
machines_are_sound sig p typed plan limits = record { sound = source_sound sig p typed plan limits; chords = chords_right sig p plan (source_program p limits) refl refl }

-- each run of such a machine keeps to types
pub runs_keep_types : RunsKeepTypes
runs_keep_types sig p typed plan limits journal run = source_keeps_types sig p typed plan limits journal run

-- each body of such a run plays well
pub runs_play_well : RunsPlayWell
runs_play_well sig p typed plan limits journal run = source_plays_well sig p typed plan limits journal run
