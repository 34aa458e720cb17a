-- What each entry makes of the state of the engine.
use Rattle.std.proofs.Common.{◌≡◌, ℕ, suc, ◌+◌, ◌*◌, ◌<◌, ◌≤◌, true, false, ◌==◌, List, [], ◌∷◌, ◌++◌, length, Option, Some, None, refl, sym, ap, lit<, lit≤, ◌∙◌, subst, arith, inl, inr, if◌then◌else◌, length-append}
use Rattle.std.specs.Prelude.{slice_get}
use Rattle.std.proofs.lemmas.Bool.{eq-eqb, eqb-true}
use Rattle.chord_base.specs.declared.value.Object.{Object}
use Rattle.chord_base.specs.declared.value.Value as value
use Rattle.chord_base.specs.declared.event.What.{What}
use Rattle.chord_base.specs.declared.event.What.TheVariants.{Begun, Made, Sent, Called, Printed, Fired, Ended}
use Rattle.chord_base.specs.declared.event.Entry.{Entry}
use Rattle.chord_base.specs.Meaning.{HaveMethods, Program}
use Rattle.chord_base.specs.Messages.{Message, message_of, members_of, has, pending}
use Rattle.chord_base.specs.Machine.{Takes, Fires, NoneFires, NoneAsks}
use Rattle.chord_base.specs.Bounds.{AreWithin, IsWhatWithin, IsMessageWithin, IsObjectWithin, AreValuesWithin, AreNumbersWithin}
use Rattle.chord_base.proofs.Waits.{either}
use Rattle.chord_base.proofs.Final.{final_when}
use Rattle.chord_base.proofs.Pending.{none_fires_on, none_fires_with, none_fires_after, fires_without, pending_other}
use Rattle.chord_lists.specs.Bag.{Address, address_to, LacksMessage, IsPushed, ArePopped, Lists}
use Rattle.chord_lists.specs.Engine as engine
use Rattle.chord_lists.specs.Engine.{fired, EachLacksAMessage, State, IsOver}
use Rattle.chord_lists.proofs.Bags.{without_all, lists_none, lists_on, lists_more, lists_taken}
use Rattle.chord_lists.proofs.Spots.{has_first, has_later}
use Rattle.chord_lists.proofs.Taking.{pops_pending, lacks_fires}

-- ---- bounds

-- a pending message is within its bounds
message_within : (w : What) (m : Message) → IsWhatWithin w → message_of w ≡ Some m → IsMessageWithin m.object m.method m.arguments
message_within (Sent o j vs) m i e = (let z : record { object = o; method = j; arguments = vs } ≡ m = cc in subst (λ (x : Message). IsMessageWithin x.object x.method x.arguments) z i)
message_within (Called o j vs) m i e = (let z : record { object = o; method = j; arguments = vs } ≡ m = cc in subst (λ (x : Message). IsMessageWithin x.object x.method x.arguments) z i)
message_within Begun m i e = let z : ◌≡◌ {A = Option Message} None (Some m) = e in cc
message_within (Made c) m i e = let z : ◌≡◌ {A = Option Message} None (Some m) = e in cc
message_within (Printed t) m i e = let z : ◌≡◌ {A = Option Message} None (Some m) = e in cc
message_within (Fired k o ms vs) m i e = let z : ◌≡◌ {A = Option Message} None (Some m) = e in cc
message_within (Ended x) m i e = let z : ◌≡◌ {A = Option Message} None (Some m) = e in cc

-- where the entries of a history are within their bounds, so is each pending message
pending_within : (h : List Entry) (n : ℕ) (m : Message) → AreWithin h → pending n h ≡ Some m → IsMessageWithin m.object m.method m.arguments
pending_within [] n m w e = let z : ◌≡◌ {A = Option Message} None (Some m) = e in cc
pending_within (x ∷ h) n m w e =
    elim (either (x.number == n)) [
      | inl y ↦ message_within x.what m w.3 (rw y at e)
      | inr o ↦
          elim (either (has n (members_of x.what))) [
            | inl y ↦ (let z : ◌≡◌ {A = Option Message} None (Some m) = rw (o, y) at e in cc)
            | inr a ↦ pending_within h n m w.0 (rw (o, a) at e)
          ]
    ]

-- and its number is below that of the next entry
pending_below : (h : List Entry) (n : ℕ) (m : Message) → AreWithin h → pending n h ≡ Some m → n < length h
pending_below [] n m w e = let z : ◌≡◌ {A = Option Message} None (Some m) = e in cc
pending_below (x ∷ h) n m w e =
    elim (either (x.number == n)) [
      | inl y ↦ omega (arith, eqb-true x.number n y, w.1)
      | inr o ↦
          elim (either (has n (members_of x.what))) [
            | inl y ↦ (let z : ◌≡◌ {A = Option Message} None (Some m) = rw (o, y) at e in cc)
            | inr a ↦ (let l = pending_below h n m w.0 (rw (o, a) at e) in omega (arith, l))
          ]
    ]

-- two lists of values within their bounds are one list of such values
values_append : (us vs : List value.Value) → AreValuesWithin us → AreValuesWithin vs → AreValuesWithin (us ++ vs)
values_append [] vs a b = b
values_append (u ∷ us) vs a b = (a.0, values_append us vs a.1 b)

-- what a firing takes is within its bounds
pub record IsTakenWithin (ms : List ℕ) (vs : List value.Value) (js : List ℕ) : Type 0 where
  pub members : AreNumbersWithin ms
  pub values : AreValuesWithin vs
  pub same : length ms ≡ length js
  pub few : length vs ≤ 8 * length js

-- where the entries of a history are within their bounds, so is what a firing takes of it
taken_within : (h : List Entry) (o : Object) (js ms : List ℕ) (vs : List value.Value) → AreWithin h → length h ≤ 65536 → Takes h o js ms vs
    → IsTakenWithin ms vs js
taken_within h o [] [] vs w few t = record { members = tt; values = rw t tt; same = refl; few = rw t (lit≤ tt) }
taken_within h o [] (i ∷ ms) vs w few t = absurd t
taken_within h o (j ∷ js) [] vs w few t = absurd t
taken_within h o (j ∷ js) (i ∷ ms) vs w few t =
    let m : Message = record { object = o; method = j; arguments = t.0 } in
    let lt = pending_below h i m w t.2 in
    let a : IsMessageWithin o j t.0 = pending_within h i m w t.2 in
    let r = taken_within h o js ms t.1 w few t.4 in
    record {
      members = (omega (arith, lt, few), r.members);
      values = subst AreValuesWithin (sym t.3) (values_append t.0 t.1 a.values r.values);
      same = ap suc r.same;
      few = (let e = ap length t.3 in omega (arith, e, length-append t.0 t.1, a.few, r.few));
    }

-- where the entries of a history are within their bounds, so is the object whose messages a chord with a method takes
taken_object : (h : List Entry) (o : Object) (js ms : List ℕ) (vs : List value.Value) → AreWithin h → 0 < length js → Takes h o js ms vs
    → IsObjectWithin o
taken_object h o [] ms vs w some t = absurd (omega (arith, some))
taken_object h o (j ∷ js) [] vs w some t = absurd t
taken_object h o (j ∷ js) (i ∷ ms) vs w some t =
    let a : IsMessageWithin o j t.0 = pending_within h i (record { object = o; method = j; arguments = t.0 }) w t.2 in
    a.object

-- so the firing is within its bounds
pub fired_within : (h : List Entry) (n k : ℕ) (o : Object) (js ms : List ℕ) (vs : List value.Value) → AreWithin h → length h ≡ n → n < 65536
    → k < 256 → 0 < length js → length js ≤ 8 → Takes h o js ms vs → AreWithin (fired n k o ms vs ∷ h)
fired_within h n k o js ms vs w so_long room chord some few t =
    let i = taken_within h o js ms vs w (omega (arith, so_long, room)) t in (
      w,
      sym so_long,
      room,
      record {
        chord = chord;
        object = taken_object h o js ms vs w some t;
        some = omega (arith, some, i.same);
        few_members = omega (arith, few, i.same);
        members = i.members;
        few_values = omega (arith, few, i.few);
        values = i.values;
      },
    )

-- ---- pending messages

-- after an entry that takes nothing, its message is pending beside the others
pending_more : (h : List Entry) (e : Entry) (n i : ℕ) → e.number ≡ n → members_of e.what ≡ []
    → (if n == i then message_of e.what else pending i h) ≡ pending i (e ∷ h)
pending_more h e n i number none =
    elim (either (e.number == i)) [
      | inl y ↦ (let y' : (n == i) ≡ true = ap (λ z. z == i) (sym number) ∙ y in rw (y', y) refl)
      | inr o ↦ (let o' : (n == i) ≡ false = ap (λ z. z == i) (sym number) ∙ o in rw o' (sym (pending_other e h i none o)))
    ]

-- a bag that lists the pending messages with that of an entry that takes nothing lists what is pending after the entry
lists_entry : (h : List Entry) (e : Entry) (n : ℕ) (index : Address → List ℕ) → e.number ≡ n → members_of e.what ≡ []
    → Lists (λ i. if n == i then message_of e.what else pending i h) (suc n) index → Lists (λ i. pending i (e ∷ h)) (n + 1) index
lists_entry h e n index number none s =
    let more : suc n ≡ n + 1 = omega arith in
    subst (λ k. Lists (λ i. pending i (e ∷ h)) k index) more (subst (λ f. Lists f (suc n) index) (λ z i. pending_more h e n i number none z) s)

-- ---- enabled chords

-- a pending member of a firing is a message to its object, and to a method of its chord
takes_message : (h : List Entry) (o : Object) (js ms : List ℕ) (vs : List value.Value) (n : ℕ) → has n ms ≡ true → Takes h o js ms vs
    → (m : Message) × (pending n h ≡ Some m) × (m.object ≡ o) × (has m.method js ≡ true)
takes_message h o [] [] vs n s t = let z : false ≡ true = s in cc
takes_message h o [] (i ∷ ms) vs n s t = absurd t
takes_message h o (j ∷ js) [] vs n s t = absurd t
takes_message h o (j ∷ js) (i ∷ ms) vs n s t =
    elim (either (n == i)) [
      | inl y ↦ (record { object = o; method = j; arguments = t.0 }, ap (λ z. pending z h) (eqb-true n i y) ∙ t.2, refl, has_first j js)
      | inr out ↦ (let r = takes_message h o js ms t.1 n (rw out at s) t.4 in (r.0, r.1, r.2, has_later r.0.method j js r.3))
    ]

-- a message after which each chord of its object that has its method lacks a message
idle_message : (p : Program) (h : List Entry) (e : Entry) (m : Message) (n : ℕ) (index : Address → List ℕ) → message_of e.what ≡ Some m
    → members_of e.what ≡ [] → NoneFires p h → Lists (λ i. pending i (e ∷ h)) n index
    → EachLacksAMessage p m.object m.method index → NoneFires p (e ∷ h)
idle_message p h e m n index is none idle lists lacks =
    none_fires_with p e h none idle
    (λ k o ms vs s f.
    let r = takes_message (e ∷ h) o f.0 ms vs e.number s f.2 in
    let here : pending e.number (e ∷ h) ≡ Some m = rw (eq-eqb e.number e.number refl) is in
    let same : Some r.0 ≡ Some m = sym r.1 ∙ here in
    let q : r.0 ≡ m = cc in
    let o' : m.object ≡ o = sym (ap (λ z. z.object) q) ∙ r.2 in
    let j' : has m.method f.0 ≡ true = subst (λ (z : Message). has z.method f.0 ≡ true) q r.3 in
    let l = lacks k f.0 (subst (λ z. slice_get (p.chords z.class) k ≡ Some f.0) (sym o') f.1) j' in
    lacks_fires (e ∷ h) n index o f.0 ms vs l.0 l.1 lists l.2 (subst (λ z. LacksMessage z l.1 index) o' l.3) f.2)

-- a message, and a firing of what is then pending
idle_fire : (p : Program) (h : List Entry) (e f : Entry) (k : ℕ) (o : Object) (ms : List ℕ) (vs : List value.Value) → f.what ≡ Fired k o ms vs
    → members_of e.what ≡ [] → NoneFires p h → Fires p (e ∷ h) k o ms vs → NoneFires p (f ∷ e ∷ h)
idle_fire p h e f k o ms vs w none idle fires =
    elim (either (has e.number ms)) [
      | inl y ↦ none_fires_after p f e h (ap message_of w) none (ap (λ x. has e.number (members_of x)) w ∙ y) idle
      | inr out ↦ absurd (idle k o ms vs (fires_without p e h k o ms vs none out fires))
    ]

-- ---- states

-- nothing is pending when `Main` has just begun
begun_pending : (n : ℕ) → pending n engine.main_begun ≡ None
begun_pending n = elim (either (0 == n)) [ inl y ↦ rw y refl | inr o ↦ rw o refl ]

-- a chord with a method takes nothing when `Main` has just begun
none_taken : (o : Object) (js ms : List ℕ) (vs : List value.Value) → 0 < length js → Takes engine.main_begun o js ms vs → ⊥
none_taken o [] ms vs l t = omega (arith, l)
none_taken o (j ∷ js) [] vs l t = t
none_taken o (j ∷ js) (i ∷ ms) vs l t = let z : ◌≡◌ {A = Option Message} None (Some (record { object = o; method = j; arguments = t.0 })) = sym (begun_pending i) ∙ t.2 in cc

-- after `Main` has begun, with an empty bag, the engine stands at the first entry
pub state_begun : (p : Program) (stands : List Entry → Type 0) (index : Address → List ℕ) → HaveMethods p → stands engine.main_begun
    → ((k : Address) → index k ≡ []) → State p stands index None 1
state_begun p stands index some s empty =
    record {
      history = engine.main_begun;
      played = record { past = (tt, record { numbered = refl; comes = (refl, refl) }); within = (tt, refl, lit< tt, tt); so_long = refl };
      bodies = s;
      lists = lists_none (λ i. pending i engine.main_begun) 1 index begun_pending empty;
      is_fresh = λ k o ms vs f. none_taken o f.0 ms vs (some o.class k f.0 f.1) f.2;
    }

-- an entry that sends nothing keeps the engine's state
pub state_plain : (p : Program) (before after : List Entry → Type 0) (index : Address → List ℕ) (n : ℕ) (s : State p before index None n) (e : Entry)
    → engine.Made p after s.history e → message_of e.what ≡ None → State p after index None (n + 1)
state_plain p before after index n s e m none =
    let number : e.number ≡ n = m.follows.numbered ∙ s.played.so_long in
    let on = lists_on (λ i. pending i s.history) n index s.lists in
    record {
      history = e ∷ s.history;
      played = record { past = (s.played.past, m.follows); within = m.within; so_long = omega (arith, s.played.so_long) };
      bodies = m.after;
      lists = lists_entry s.history e n index number m.no_firing (subst (λ x. Lists (λ i. if n == i then x else pending i s.history) (suc n) index) (sym none) on);
      is_fresh = none_fires_on p e s.history none s.is_fresh;
    }

-- a message whose number the bag notes keeps the engine's state, with its object and method to look at
pub state_message : (p : Program) (before after : List Entry → Type 0) (old new : Address → List ℕ) (n : ℕ) (o : Object) (j : ℕ)
    (s : State p before old None n) (e : Entry) → engine.Made p after s.history e → engine.IsMessageTo o j e.what
    → IsPushed (address_to o j) n old new → State p after new (Some (o, j)) (n + 1)
state_message p before after old new n o j s e m is pushed =
    let number : e.number ≡ n = m.follows.numbered ∙ s.played.so_long in
    let sent : Message = record { object = o; method = j; arguments = is.0 } in
    let more = lists_more (λ i. pending i s.history) n old new sent s.lists pushed in
    record {
      history = e ∷ s.history;
      played = record { past = (s.played.past, m.follows); within = m.within; so_long = omega (arith, s.played.so_long) };
      bodies = m.after;
      lists = lists_entry s.history e n new number m.no_firing (subst (λ x. Lists (λ i. if n == i then x else pending i s.history) (suc n) new) (sym is.1) more);
      is_fresh = record { before = s.history; last = e; sent = sent; is = refl; numbered = m.follows.numbered; idle = s.is_fresh; is_message = is.1; no_firing = m.no_firing; object = refl; method = refl };
    }

-- where no body has a next ask the run is over
pub state_over : (p : Program) (before after : List Entry → Type 0) (index : Address → List ℕ) (n : ℕ) (s : State p before index None n) → 0 < n
    → NoneAsks p s.history → after s.history → IsOver p after n
state_over p before after index n s some done stands =
    (s.history, s.played, stands, final_when p s.history s.played.past (omega (arith, s.played.so_long, some)) done s.is_fresh)

-- no chord of the fresh object that has the fresh method is enabled
pub state_idle : (p : Program) (stands : List Entry → Type 0) (index : Address → List ℕ) (o : Object) (j n : ℕ) → State p stands index (Some (o, j)) n
    → EachLacksAMessage p o j index → State p stands index None n
state_idle p stands index o j n s f =
    let m = s.is_fresh in
    let lacks : EachLacksAMessage p m.sent.object m.sent.method index =
    subst (λ i. EachLacksAMessage p m.sent.object i index) (sym m.method) (subst (λ (d : Object). EachLacksAMessage p d j index) (sym m.object) f)
    in
    let lists : Lists (λ i. pending i (m.last ∷ m.before)) n index = subst (λ h. Lists (λ i. pending i h) n index) m.is s.lists in
    let idle : NoneFires p (m.last ∷ m.before) = idle_message p m.before m.last m.sent n index m.is_message m.no_firing m.idle lists lacks in
    record { history = s.history; played = s.played; bodies = s.bodies; lists = s.lists; is_fresh = subst (NoneFires p) (sym m.is) idle }

-- a firing of what went from the bag may come
pub state_may_begin : (p : Program) (stands : List Entry → Type 0) (old new : Address → List ℕ) (fresh : Option (Object × ℕ)) (n k : ℕ) (o : Object)
    (js ms : List ℕ) → State p stands old fresh n → n < 65536 → slice_get (p.chords o.class) k ≡ Some js → k < 256 → 0 < length js → length js ≤ 8
    → ArePopped o js ms old new → engine.MayBegin p stands n k o ms
state_may_begin p stands old new fresh n k o js ms s room c chord some few t =
    let taken = pops_pending s.history n o js ms old new s.lists t in
    (s.history, taken.0, s.played, s.bodies, (js, c, taken.1), fired_within s.history n k o js ms taken.0 s.played.within s.played.so_long room chord some few taken.1)

-- a firing of popped members keeps the engine's state
pub state_fired : (p : Program) (before after : List Entry → Type 0) (old new : Address → List ℕ) (n k : ℕ) (o : Object) (j : ℕ) (js ms : List ℕ)
    → State p before old (Some (o, j)) n → n < 65536 → slice_get (p.chords o.class) k ≡ Some js → k < 256 → 0 < length js → length js ≤ 8
    → ArePopped o js ms old new → engine.Began p before after n k o ms → State p after new None (n + 1)
state_fired p before after old new n k o j js ms s room c chord some few t began =
    let taken = pops_pending s.history n o js ms old new s.lists t in
    let vs = taken.0 in
    let fires : Fires p s.history k o ms vs = (js, c, taken.1) in
    let m = s.is_fresh in
    let fires' : Fires p (m.last ∷ m.before) k o ms vs = subst (λ h. Fires p h k o ms vs) m.is fires in
    let idle : NoneFires p (fired n k o ms vs ∷ m.last ∷ m.before) = idle_fire p m.before m.last (fired n k o ms vs) k o ms vs refl m.no_firing m.idle fires' in
    let left = lists_on (without_all ms (λ i. pending i s.history)) n new (lists_taken (λ i. pending i s.history) n o js ms old new s.lists t) in
    let more : suc n ≡ n + 1 = omega arith in
    record {
      history = fired n k o ms vs ∷ s.history;
      played = record {
        past = (s.played.past, record { numbered = sym s.played.so_long; comes = (refl, fires) });
        within = fired_within s.history n k o js ms vs s.played.within s.played.so_long room chord some few taken.1;
        so_long = omega (arith, s.played.so_long);
      };
      bodies = began s.history vs s.played s.bodies fires;
      lists = subst (λ z. Lists (λ i. pending i (fired n k o ms vs ∷ s.history)) z new) more left;
      is_fresh = subst (λ h. NoneFires p (fired n k o ms vs ∷ h)) (sym m.is) idle;
    }
