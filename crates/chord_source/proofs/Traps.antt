-- In a run of a machine that hands traps on, a trap changes its own body and the bodies that wait for it alone.
use Rattle.std.proofs.Common.{◌≡◌, ◌⊎◌, ◌↔◌, ℕ, ◌<◌, true, false, ◌==◌, List, [], ◌∷◌, ◌++◌, length, reverse, Option, Some, None, refl, sym, ap, ◌∙◌, subst, arith, inl, inr}
use Rattle.std.proofs.lemmas.Bool.{eq-eqb, eqb-true}
use Rattle.std.proofs.lemmas.List.{length-append, reverse-append}
use Rattle.std.proofs.lemmas.Option.{none-some}
use Rattle.chord_base.specs.Bodies.{Asks, Doing, Absent, Over, Ready, Unplaced, Waits, WaitsFor, answered, asked, begun, begun_by, doing, heard, own, placed, replied, served, serves, waiting}
use Rattle.chord_base.specs.Machine.{Comes, IsPast}
use Rattle.chord_base.specs.Meaning.{Asked, Chord, Program, Start}
use Rattle.chord_base.specs.Messages.{maker}
use Rattle.chord_base.specs.Served.{AreAnswered, IsAnswered, IsServed, later}
use Rattle.chord_base.specs.Story.{IsIn}
use Rattle.chord_base.specs.declared.event.End.{End}
use Rattle.chord_base.specs.declared.event.End.TheVariants.{Gives, Traps}
use Rattle.chord_base.specs.declared.event.Entry.{Entry}
use Rattle.chord_base.specs.declared.event.Limits.{Limits}
use Rattle.chord_base.specs.declared.event.Trap.{Trap}
use Rattle.chord_base.specs.declared.event.What.{What}
use Rattle.chord_base.specs.declared.event.What.TheVariants.{Begun, Made, Sent, Called, Printed, Fired, Ended}
use Rattle.chord_base.specs.declared.value.Object.{Object}
use Rattle.chord_base.specs.declared.value.Value.{Value}
use Rattle.chord_base.proofs.Answered.{answers_of_entries}
use Rattle.chord_base.proofs.AskLists.{entry_within}
use Rattle.chord_base.proofs.Local.{end_answers_caller, others_change_nothing}
use Rattle.chord_base.proofs.Merge.{IsSeen}
use Rattle.chord_base.proofs.Waits.{either}
use Rattle.chord_code.specs.Plays.{Play, MakesObject, SendsMessage, CallsMethod, PrintsLine, EndsBody, GoesWrong, ask_of, left_after, left_of}
use Rattle.chord_source.specs.Source.{play_of}
use Rattle.chord_source.specs.Traps.{HandsTrapsOn, HaveNoTrap, RunsKeepTraps, SourcesHandTrapsOn, StaysWithCallers, TrapsByCall, TrapsByItself, WaitsForBody}
use Rattle.chord_source.proofs.Callers.{asks_early, asks_not, in_reversed, next_is_other, past_before, reversed_parts}

-- ---- a source hands traps on

-- equal asks ask the same
same_what : (a b : Asked) → Some a ≡ Some b → a.what ≡ b.what
same_what a b e = (let z : a ≡ b = cc in ap (λ (x : Asked). x.what) z)

-- what is left of a play after one more answer
left_more : (p : Play) (rs : List End) (x : End) → left_after p (rs ++ x ∷ []) ≡ left_of (left_after p rs) x
left_more p [] x = refl
left_more p (r ∷ rs) x = left_more (left_of p r) rs x

-- a play that asks a call ends by the trap that answers it
call_fails : (limits : Limits) (p : Play) (o : Object) (j : ℕ) (vs : List Value) (l : ℕ) (t : Trap) → ask_of limits p ≡ Some (record { what = Called o j vs; depth = l }) → ask_of limits (left_of p (Traps t)) ≡ Some (record { what = Ended (Traps t); depth = 0 })
call_fails limits (CallsMethod r o' j' xs k) o j vs l t e = refl
call_fails limits (MakesObject c k) o j vs l t e = (let z : Made c ≡ Called o j vs = same_what _ _ e in cc)
call_fails limits (SendsMessage o' j' xs p) o j vs l t e = (let z : Sent o' j' xs ≡ Called o j vs = same_what _ _ e in cc)
call_fails limits (PrintsLine x p) o j vs l t e = (let z : Printed x ≡ Called o j vs = same_what _ _ e in cc)
call_fails limits (EndsBody x) o j vs l t e = (let z : Ended x ≡ Called o j vs = same_what _ _ e in cc)
call_fails limits GoesWrong o j vs l t e = absurd (none-some _ e)

-- the machine of a source hands traps on
pub sources_hand_traps_on : SourcesHandTrapsOn
sources_hand_traps_on p limits = record {
  next = λ s d rs o j vs l t e. ap (ask_of limits) (left_more (play_of p limits s d) rs (Traps t)) ∙ call_fails limits (left_after (play_of p limits s d) rs) o j vs l t e;
}

-- ---- a trap is a body's last answer

-- one more value is no trap
no_trap_more : (rs : List End) (v : Value) → HaveNoTrap rs → HaveNoTrap (rs ++ Gives v ∷ [])
no_trap_more [] v n = tt
no_trap_more (Gives u ∷ rs) v n = no_trap_more rs v n
no_trap_more (Traps t ∷ rs) v n = n

-- the last answer of a body is a trap, and the body asks its own end by it
record EndsByAnswer (p : Program) (s : Start) (d : ℕ) (rs : List End) : Type 0 where
  trap : Trap
  before : List End
  is : rs ≡ before ++ Traps trap ∷ []
  asks : p.next s d rs ≡ Some (record { what = Ended (Traps trap); depth = 0 })

-- the next ask of a body is a call
record AsksCall (p : Program) (s : Start) (d : ℕ) (rs : List End) : Type 0 where
  object : Object
  method : ℕ
  values : List Value
  place : ℕ
  asks : p.next s d rs ≡ Some (record { what = Called object method values; depth = place })

-- no answer of a body is a trap but its last one, and then it asks its own end
abbrev TrapIsLast : Program → Doing → Type 0
TrapIsLast p (Ready s d rs) = HaveNoTrap rs ⊎ EndsByAnswer p s d rs
TrapIsLast p (Waits s d rs q l) = HaveNoTrap rs × AsksCall p s d rs
TrapIsLast p Absent = Unit {0}
TrapIsLast p Unplaced = Unit {0}
TrapIsLast p (Over x) = Unit {0}

-- a body that asks something else than its end got no trap
got_none : (p : Program) (s : Start) (d l : ℕ) (rs : List End) (w : What) → ((t : Trap) → w ≡ Ended (Traps t) → ⊥) → p.next s d rs ≡ Some (record { what = w; depth = l }) → HaveNoTrap rs ⊎ EndsByAnswer p s d rs → HaveNoTrap rs
got_none p s d l rs w other a (inl n) = n
got_none p s d l rs w other a (inr e) = absurd (other e.trap (same_what (record { what = w; depth = l }) (record { what = Ended (Traps e.trap); depth = 0 }) (sym a ∙ e.asks)))

-- a value comes
replied_last : (p : Program) (v : Value) (w : What) (l : ℕ) (d : Doing) → ((t : Trap) → w ≡ Ended (Traps t) → ⊥) → asked p d ≡ Some (record { what = w; depth = l }) → TrapIsLast p d → TrapIsLast p (replied (Gives v) d)
replied_last p v w l (Ready s k rs) other a i = inl (no_trap_more rs v (got_none p s k l rs w other a i))
replied_last p v w l (Waits s k rs q m) other a i = absurd (none-some _ a)
replied_last p v w l Absent other a i = tt
replied_last p v w l Unplaced other a i = tt
replied_last p v w l (Over x) other a i = tt

-- a call is made
waiting_last : (p : Program) (n : ℕ) (o : Object) (j : ℕ) (vs : List Value) (l : ℕ) (d : Doing) → asked p d ≡ Some (record { what = Called o j vs; depth = l }) → TrapIsLast p d → TrapIsLast p (waiting p n d)
waiting_last p n o j vs l (Ready s k rs) a i =
    (got_none p s k l rs (Called o j vs) (λ t e. cc) a i, record { object = o; method = j; values = vs; place = l; asks = a })
waiting_last p n o j vs l (Waits s k rs q m) a i = i
waiting_last p n o j vs l Absent a i = tt
waiting_last p n o j vs l Unplaced a i = tt
waiting_last p n o j vs l (Over x) a i = tt

-- of a body that begins one deeper than its caller, or lacks its call
placed_last : (p : Program) (s : Start) (q : ℕ) (d : Doing) → TrapIsLast p (placed s q d)
placed_last p s q (Waits t k rs c l) = elim (either (q == c)) [ inl y ↦ rw y (inl tt) | inr o ↦ rw o tt ]
placed_last p s q Absent = tt
placed_last p s q Unplaced = tt
placed_last p s q (Ready t k rs) = tt
placed_last p s q (Over x) = tt

-- of a body that begins to serve a call, whether the call has a maker or not
by_last : (p : Program) (s : Start) (q : ℕ) (o : Option ℕ) (f : ℕ → Doing) → TrapIsLast p (begun_by s q o f)
by_last p s q None f = tt
by_last p s q (Some b) f = placed_last p s q (f b)

-- of a body that begins
begun_last : (p : Program) (s : Start) (c : Option ℕ) (m : ℕ → Option ℕ) (f : ℕ → Doing) → TrapIsLast p (begun s c m f)
begun_last p s None m f = inl tt
begun_last p s (Some q) m f = by_last p s q (m q) f

-- after an entry of its own
own_last : (p : Program) (h : List Entry) (b n : ℕ) (w : What) → Comes p h n b w → TrapIsLast p (doing p h b) → TrapIsLast p (own p n w (λ q. maker q h) (doing p h) (doing p h b))
own_last p h b n Begun c i = inl tt
own_last p h b n (Fired k o ms vs) c i = begun_last p (Chord k o vs) (served p (Fired k o ms vs)) (λ q. maker q h) (doing p h)
own_last p h b n (Made k) c i = replied_last p _ (Made k) c.0 (doing p h b) (λ t e. cc) c.1 i
own_last p h b n (Sent o j vs) c i = replied_last p _ (Sent o j vs) c.0 (doing p h b) (λ t e. cc) c.1 i
own_last p h b n (Printed x) c i = replied_last p _ (Printed x) c.0 (doing p h b) (λ t e. cc) c.1 i
own_last p h b n (Called o j vs) c i = waiting_last p n o j vs c.0 (doing p h b) c.1 i
own_last p h b n (Ended x) c i = tt

module _ (p : Program) (hands : HandsTrapsOn p) where
  -- a body that waits gets an end as its answer
  by_answer : (x : End) (s : Start) (d : ℕ) (rs : List End) → HaveNoTrap rs → AsksCall p s d rs → HaveNoTrap (rs ++ x ∷ []) ⊎ EndsByAnswer p s d (rs ++ x ∷ [])
  by_answer (Gives v) s d rs n c = inl (no_trap_more rs v n)
  by_answer (Traps t) s d rs n c = inr (record { trap = t; before = rs; is = refl; asks = hands.next s d rs c.object c.method c.values c.place t c.asks })

  -- the caller of a call is answered
  answered_last : (x : End) (c : Option ℕ) (d : Doing) → TrapIsLast p d → TrapIsLast p (answered x c d)
  answered_last x None d i = i
  answered_last x (Some c) (Waits s d rs q l) i =
      elim (either (c == q)) [ inl y ↦ rw y (by_answer x s d rs i.0 i.1) | inr o ↦ rw o i ]
  answered_last x (Some c) (Ready s d rs) i = i
  answered_last x (Some c) Absent i = tt
  answered_last x (Some c) Unplaced i = tt
  answered_last x (Some c) (Over y) i = tt

  -- after an entry of another body
  heard_last : (w : What) (c : Option ℕ) (d : Doing) → TrapIsLast p d → TrapIsLast p (heard w c d)
  heard_last (Ended x) c d i = answered_last x c d i
  heard_last Begun c d i = i
  heard_last (Made k) c d i = i
  heard_last (Sent o j vs) c d i = i
  heard_last (Called o j vs) c d i = i
  heard_last (Printed t) c d i = i
  heard_last (Fired k o ms vs) c d i = i

  -- in a run a trap is the last answer of its body, which then asks its own end
  trap_is_last : (h : List Entry) (b : ℕ) → IsPast p h → TrapIsLast p (doing p h b)
  trap_is_last [] b r = tt
  trap_is_last (e ∷ h) b r =
      elim (either (e.body == b)) [
        | inl y ↦
            subst (λ c. TrapIsLast p (doing p (e ∷ h) c)) (eqb-true e.body b y)
            (rw (eq-eqb e.body e.body refl) (own_last p h e.body e.number e.what r.1.comes (trap_is_last h e.body r.0)))
        | inr o ↦ rw o (heard_last e.what (serves p e.body h) (doing p h b) (trap_is_last h b r.0))
      ]

  -- ---- where a trap comes from

  -- an entry that a trap answers is a call, and the trap is the end of the body that served it
  call_of_trap : (h : List Entry) (n : ℕ) (w : What) (t : Trap) → IsAnswered h n w (Traps t) → ((o : Object) × (j : ℕ) × (vs : List Value) × (w ≡ Called o j vs)) × IsServed n (Traps t) h
  call_of_trap h n (Called o j vs) t a = ((o, j, vs, refl), a)
  call_of_trap h n (Made c) t a = cc
  call_of_trap h n (Sent o j vs) t a = cc
  call_of_trap h n (Printed x) t a = cc
  call_of_trap h n Begun t a = absurd a
  call_of_trap h n (Fired k o ms vs) t a = absurd a
  call_of_trap h n (Ended x) t a = absurd a

  -- the newest of these entries is the call that the last answer is to
  newest_call : (h es : List Entry) (b : ℕ) (t : Trap) (rs : List End) → later b h ≡ es → AreAnswered h es (Traps t ∷ rs) → TrapsByCall h b t
  newest_call h [] b t rs is a = absurd a
  newest_call h (c ∷ es) b t rs is a =
      let k = call_of_trap h c.number c.what t a.0 in
      record { call = c; before = es; newest = is; calls = (refl, k.0); served = k.1 }

  -- a body that asks may go on
  asks_ready : (d : Doing) (a : Asked) → asked p d ≡ Some a → (s : Start) × (k : ℕ) × (rs : List End) × (d ≡ Ready s k rs)
  asks_ready (Ready s k rs) a e = (s, k, rs, refl)
  asks_ready (Waits s k rs q l) a e = absurd (none-some _ e)
  asks_ready Absent a e = absurd (none-some _ e)
  asks_ready Unplaced a e = absurd (none-some _ e)
  asks_ready (Over x) a e = absurd (none-some _ e)

  -- a body that is to end by a trap got none, or its newest entry is a call that was answered by this one
  has_cause : (h : List Entry) (b l : ℕ) (t : Trap) → IsPast p h → asked p (doing p h b) ≡ Some (record { what = Ended (Traps t); depth = l }) → TrapsByItself p h b ⊎ TrapsByCall h b t
  has_cause h b l t r a =
      let k = asks_ready (doing p h b) (record { what = Ended (Traps t); depth = l }) a in
      let next : p.next k.0 k.1 k.2 ≡ Some (record { what = Ended (Traps t); depth = l }) = subst (λ (z : Doing). asked p z ≡ Some (record { what = Ended (Traps t); depth = l })) k.3 a in
      let state : HaveNoTrap k.2 ⊎ EndsByAnswer p k.0 k.1 k.2 = subst (TrapIsLast p) k.3 (trap_is_last h b r) in
      elim state [
        | inl n ↦ inl (record { start = k.0; depth = k.1; answers = k.2; got = k.3; none = n })
        | inr e ↦
            (let whats : Ended (Traps t) ≡ Ended (Traps e.trap) = same_what (record { what = Ended (Traps t); depth = l }) (record { what = Ended (Traps e.trap); depth = 0 }) (sym next ∙ e.asks) in
            let same : e.trap ≡ t = cc in
            let list : reverse k.2 ≡ Traps e.trap ∷ reverse e.before = ap reverse e.is ∙ reverse-append e.before (Traps e.trap ∷ []) in
            let all : AreAnswered h (later b h) (Traps e.trap ∷ reverse e.before) = subst (AreAnswered h (later b h)) list (answers_of_entries p h b k.1 k.0 k.2 r k.3) in
            inr (subst (TrapsByCall h b) same (newest_call h (later b h) b e.trap (reverse e.before) refl all)))
      ]

  -- ---- what follows

  -- a body that asks waits for nothing
  asks_waits_not : (d : Doing) (a : Asked) (q : ℕ) → asked p d ≡ Some a → WaitsFor q d → ⊥
  asks_waits_not (Waits s k rs c l) a q e w = none-some _ e
  asks_waits_not (Ready s k rs) a q e w = w
  asks_waits_not Absent a q e w = w
  asks_waits_not Unplaced a q e w = w
  asks_waits_not (Over x) a q e w = w

  -- a body that is over stays so, and makes no entry
  next_over : (e : Entry) (h : List Entry) (b : ℕ) (x : End) → IsPast p (e ∷ h) → b < length h → doing p h b ≡ Over x → (e.body ≡ b → ⊥) × (doing p (e ∷ h) b ≡ Over x)
  next_over e h b x r l over =
      let other : e.body ≡ b → ⊥ = next_is_other p h b e.number e.body e.what (λ i. omega (arith, i, l)) (ap (asked p) over) r.1.numbered r.1.comes in
      (other, others_change_nothing p e h b other (λ k. subst (WaitsFor k.1) over k.4) ∙ over)

  -- a body has one next ask
  one_ask : (h : List Entry) (b c l : ℕ) (v w : What) → asked p (doing p h b) ≡ Some (record { what = v; depth = l }) → c ≡ b → Asks p h c w → w ≡ v
  one_ask h b c l v w a y f =
      same_what (record { what = w; depth = f.0 }) (record { what = v; depth = l }) (sym (subst (λ z. asked p (doing p h z) ≡ Some (record { what = w; depth = f.0 })) y f.1) ∙ a)

  -- an entry of a body that asks is its ask
  next_is_ask : (h : List Entry) (b n c l : ℕ) (v w : What) → b < length h → asked p (doing p h b) ≡ Some (record { what = v; depth = l }) → n ≡ length h → Comes p h n c w → c ≡ b → w ≡ v
  next_is_ask h b n c l v Begun low a i f y = absurd (let z : length h ≡ 0 = ap length f.0 in omega (arith, z, low))
  next_is_ask h b n c l v (Fired k o ms vs) low a i f y = absurd (let z = f.0 in omega (arith, z, i, y, low))
  next_is_ask h b n c l v (Made k) low a i f y = one_ask h b c l v (Made k) a y f
  next_is_ask h b n c l v (Sent o j vs) low a i f y = one_ask h b c l v (Sent o j vs) a y f
  next_is_ask h b n c l v (Called o j vs) low a i f y = one_ask h b c l v (Called o j vs) a y f
  next_is_ask h b n c l v (Printed t) low a i f y = one_ask h b c l v (Printed t) a y f
  next_is_ask h b n c l v (Ended x) low a i f y = one_ask h b c l v (Ended x) a y f

  -- a body asks its end so, or has ended so
  abbrev Closes : End → Doing → Type 0
  Closes x d = ((l : ℕ) × (asked p d ≡ Some (record { what = Ended x; depth = l }))) ⊎ (d ≡ Over x)

  -- a body that asks its end makes no other entry
  next_closes : (e : Entry) (h : List Entry) (b : ℕ) (x : End) → IsPast p (e ∷ h) → b < length h → Closes x (doing p h b) → (e.body ≡ b → e.what ≡ Ended x) × Closes x (doing p (e ∷ h) b)
  next_closes e h b x r low (inr over) = (let k = next_over e h b x r low over in (λ y. absurd (k.0 y), inr k.1))
  next_closes e h b x r low (inl a) =
      let same : e.body ≡ b → e.what ≡ Ended x = next_is_ask h b e.number e.body a.0 (Ended x) e.what low a.1 r.1.numbered r.1.comes in (
        same,
        elim (either (e.body == b)) [
          | inl y ↦ inr (let is = same (eqb-true e.body b y) in rw (y, is) refl)
          | inr o ↦
              (let stays = others_change_nothing p e h b (λ y. let z : true ≡ false = sym (eq-eqb e.body b y) ∙ o in cc) (λ k. asks_waits_not (doing p h b) _ k.1 a.1 k.4) in
              inl (a.0, ap (asked p) stays ∙ a.1))
        ],
      )

  -- nor does it later
  all_close : (after h : List Entry) (b : ℕ) (x : End) → IsPast p (after ++ h) → b < length h → Closes x (doing p h b) → ((e : Entry) → IsIn e after → e.body ≡ b → e.what ≡ Ended x) × Closes x (doing p (after ++ h) b)
  all_close [] h b x r low c = (λ e i. absurd i, c)
  all_close (g ∷ after) h b x r low c =
      let k = all_close after h b x r.0 low c in
      let n = length-append after h in
      let next = next_closes g (after ++ h) b x r (omega (arith, n, low)) k.1 in
      (λ e i y. elim i [ inl z ↦ ap (λ (u : Entry). u.what) z ∙ next.0 (ap (λ (u : Entry). u.body) (sym z) ∙ y) | inr z ↦ k.0 e z y ], next.1)

  -- a body that is over has no later entry
  all_over : (after h : List Entry) (b : ℕ) (x : End) → IsPast p (after ++ h) → b < length h → doing p h b ≡ Over x → ((e : Entry) → IsIn e after → e.body ≡ b → ⊥) × (doing p (after ++ h) b ≡ Over x)
  all_over [] h b x r low o = (λ e i. absurd i, o)
  all_over (g ∷ after) h b x r low o =
      let k = all_over after h b x r.0 low o in
      let n = length-append after h in
      let next = next_over g (after ++ h) b x r (omega (arith, n, low)) k.1 in
      (λ e i y. elim i [ inl z ↦ next.0 (ap (λ (u : Entry). u.body) (sym z) ∙ y) | inr z ↦ k.0 e z y ], next.1)

  -- a body that waits asks nothing
  waits_silent : (q : ℕ) (d : Doing) → WaitsFor q d → asked p d ≡ None
  waits_silent q (Waits s k rs c l) w = refl
  waits_silent q (Ready s k rs) w = absurd w
  waits_silent q Absent w = absurd w
  waits_silent q Unplaced w = absurd w
  waits_silent q (Over x) w = absurd w

  -- a body that waits has an entry
  waits_seen : (q : ℕ) (d : Doing) → WaitsFor q d → IsSeen d
  waits_seen q (Waits s k rs c l) w = tt
  waits_seen q (Ready s k rs) w = tt
  waits_seen q Absent w = w
  waits_seen q Unplaced w = tt
  waits_seen q (Over x) w = tt

  -- a body that waits for the call which a body serves that ends by a trap asks its own end by that trap
  caller_asks : (e : Entry) (h : List Entry) (b q : ℕ) (t : Trap) (d : Doing) → (e.body ≡ b → ⊥) → e.what ≡ Ended (Traps t) → serves p e.body h ≡ Some q → doing p h b ≡ d → WaitsFor q d → TrapIsLast p d → asked p (doing p (e ∷ h) b) ≡ Some (record { what = Ended (Traps t); depth = 0 })
  caller_asks e h b q t (Waits s k rs c l) other is serving here w i =
      let call = i.1 in
      let goes = end_answers_caller p e h b q k l (Traps t) s rs other is serving (here ∙ ap (λ z. Waits s k rs z l) (sym w)) in
      ap (asked p) goes ∙ hands.next s k rs call.object call.method call.values call.place t call.asks
  caller_asks e h b q t (Ready s k rs) other is serving here w i = absurd w
  caller_asks e h b q t Absent other is serving here w i = absurd w
  caller_asks e h b q t Unplaced other is serving here w i = absurd w
  caller_asks e h b q t (Over x) other is serving here w i = absurd w

  -- what a body asks next is this and nothing else
  asks_it_alone : (h : List Entry) (b l : ℕ) (v w : What) → asked p (doing p h b) ≡ Some (record { what = v; depth = l }) → Asks p h b w ↔ (w ≡ v)
  asks_it_alone h b l v w a = (
    λ f. one_ask h b b l v w a refl f,
    λ e. (l, subst (λ (z : What). asked p (doing p h b) ≡ Some (record { what = z; depth = l })) (sym e) a),
  )

  module _ (before after : List Entry) (entry : Entry) (trap : Trap) (is : entry.what ≡ Ended (Traps trap)) (whole : IsPast p (reverse after ++ entry ∷ reverse before)) where
    -- the entry and those before it are a past
    here : IsPast p (entry ∷ reverse before)
    here = past_before p (reverse after) (entry ∷ reverse before) whole

    -- the body asked this end
    asks_end : Asks p (reverse before) entry.body (Ended (Traps trap))
    asks_end = subst (λ (w : What). Comes p (reverse before) entry.number entry.body w) is here.1.comes

    -- it is over
    is_over : doing p (entry ∷ reverse before) entry.body ≡ Over (Traps trap)
    is_over = rw (eq-eqb entry.body entry.body refl, is) refl

    -- and has no later entry
    has_ended : (e : Entry) → IsIn e after → e.body ≡ entry.body → ⊥
    has_ended e i =
        let low = asks_early p (reverse before) entry.body (Ended (Traps trap)) here.0 asks_end in
        (all_over (reverse after) (entry ∷ reverse before) entry.body (Traps trap) whole (omega (arith, low)) is_over).0 e (in_reversed e after i)

    -- a body that waits for the call which it serves asks its own end by the same trap
    caller_closes : (caller : ℕ) → WaitsForBody p (reverse before) caller entry.body → asked p (doing p (entry ∷ reverse before) caller) ≡ Some (record { what = Ended (Traps trap); depth = 0 })
    caller_closes caller k =
        let other : entry.body ≡ caller → ⊥ = λ y. asks_not p (reverse before) caller entry.body (Ended (Traps trap)) (waits_silent k.0 (doing p (reverse before) caller) k.2) y asks_end in
        caller_asks entry (reverse before) caller k.0 trap (doing p (reverse before) caller) other is k.1 refl k.2 (trap_is_last (reverse before) caller here.0)

    -- and has no later entry but this end
    caller_ends : (caller : ℕ) → WaitsForBody p (reverse before) caller entry.body → (e : Entry) → IsIn e after → e.body ≡ caller → e.what ≡ Ended (Traps trap)
    caller_ends caller k e i =
        let low = entry_within p (reverse before) caller here.0 (waits_seen k.0 (doing p (reverse before) caller) k.2) in
        (all_close (reverse after) (entry ∷ reverse before) caller (Traps trap) whole (omega (arith, low)) (inl (0, caller_closes caller k))).0 e (in_reversed e after i)

    -- every other body stays as it was
    stay : (body : ℕ) → (entry.body ≡ body → ⊥) → (WaitsForBody p (reverse before) body entry.body → ⊥) → doing p (entry ∷ reverse before) body ≡ doing p (reverse before) body
    stay body other free = others_change_nothing p entry (reverse before) body other (λ k. free (k.1, k.3, k.4))

    -- the trap stays with the body and its callers
    stays : StaysWithCallers p before entry after trap
    stays =
        let backwards : reverse (before ++ entry ∷ []) ≡ entry ∷ reverse before = reverse-append before (entry ∷ []) in
        record {
          cause = has_cause (reverse before) entry.body asks_end.0 trap here.0 asks_end.1;
          over = rw backwards is_over;
          last = has_ended;
          asks = λ caller k what. rw backwards (asks_it_alone (entry ∷ reverse before) caller 0 (Ended (Traps trap)) what (caller_closes caller k));
          ends = caller_ends;
          others = λ body other free. rw backwards (stay body other free);
        }

-- each trap in a run of a machine that hands traps on stays with its body and its callers
pub runs_keep_traps : RunsKeepTraps
runs_keep_traps p journal hands run = record {
  each = λ before after entry trap parts is. stays p hands before after entry trap is (subst (IsPast p) (ap reverse parts ∙ reversed_parts before after entry) run);
}
