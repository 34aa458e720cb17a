-- In a run of a sound program a firing serves a call exactly where the call is a member of it.
use Rattle.std.proofs.Common.{◌≡◌, ℕ, ◌<◌, Bool, true, false, ◌==◌, List, [], ◌∷◌, length, Option, Some, None, refl, sym, ap, ◌∙◌, subst, arith, inl, inr}
use Rattle.std.proofs.lemmas.Bool.{eq-eqb, eqb-true, ne_eqb}
use Rattle.chord_base.specs.declared.value.Object.{Object}
use Rattle.chord_base.specs.declared.value.Value as value
use Rattle.chord_base.specs.declared.event.What.{What}
use Rattle.chord_base.specs.declared.event.What.TheVariants.{Begun, Made, Sent, Called, Printed, Fired, Ended}
use Rattle.chord_base.specs.declared.event.Entry.{Entry}
use Rattle.chord_base.specs.Meaning.{Program, HasOneSync}
use Rattle.chord_base.specs.Messages.{Message, IsCall, has, message_of, members_of, pending}
use Rattle.chord_base.specs.Bodies.{served_among, served}
use Rattle.chord_base.specs.Machine.{Takes, Comes, IsPast}
use Rattle.chord_base.specs.Story.{IsIn, HasKind, IsSound}
use Rattle.chord_base.specs.Laws.{ServesItsMember, ServesOnlyCalls}
use Rattle.chord_base.proofs.Waits.{either}
use Rattle.chord_base.proofs.Pending.{has_more, member_is_served}
use Rattle.chord_base.proofs.Firings.{taken_pending, taken_by, member_within}

-- the entries of a sound program's run have the kind of their methods
kind_in : (p : Program) (h : List Entry) (e : Entry) → IsSound p → IsPast p h → IsIn e h → HasKind p e.what
kind_in p [] e s r i = absurd i
kind_in p (x ∷ h) e s r i =
    elim i [
      | inl y ↦ subst (λ (z : Entry). HasKind p z.what) (sym y) (s.kinds h x r)
      | inr y ↦ kind_in p h e s r.0 y
    ]

-- in a past each entry's number is below the number of entries
pub number_within : (p : Program) (h : List Entry) (e : Entry) → IsPast p h → IsIn e h → e.number < length h
number_within p [] e r i = absurd i
number_within p (x ∷ h) e r i =
    elim i [
      | inl y ↦ (let n : e.number ≡ x.number = ap (λ (z : Entry). z.number) y in let m = r.1.numbered in omega (arith, n, m))
      | inr y ↦ (let b = number_within p h e r.0 y in omega (arith, b))
    ]

-- the pending message of an entry's number is what the entry sends
pending_entry : (p : Program) (h : List Entry) (e : Entry) (m : Message) → IsPast p h → IsIn e h → pending e.number h ≡ Some m → message_of e.what ≡ Some m
pending_entry p [] e m r i s = absurd i
pending_entry p (x ∷ h) e m r i s =
    elim i [
      | inl y ↦ subst (λ (z : Entry). message_of z.what ≡ Some m) (sym y) (rw (eq-eqb x.number e.number (ap (λ (z : Entry). z.number) (sym y))) at s)
      | inr y ↦
          (let l = number_within p h e r.0 y in
          let other : (x.number == e.number) ≡ false = ne_eqb x.number e.number (λ n. let m = r.1.numbered in omega (arith, n, m, l)) in
          elim (either (has e.number (members_of x.what))) [
            | inl t ↦ (let z : ◌≡◌ {A = Option Message} None (Some m) = rw (other, t) at s in cc)
            | inr t ↦ pending_entry p h e m r.0 y (rw (other, t) at s)
          ])
    ]

-- a pending message has its entry
pub entry_pending : (h : List Entry) (n : ℕ) (m : Message) → pending n h ≡ Some m → (e : Entry) × IsIn e h × (e.number ≡ n) × (message_of e.what ≡ Some m)
entry_pending [] n m s = (let z : ◌≡◌ {A = Option Message} None (Some m) = s in cc)
entry_pending (x ∷ h) n m s =
    elim (either (x.number == n)) [
      | inl y ↦ (x, inl refl, eqb-true x.number n y, rw y at s)
      | inr o ↦
          elim (either (has n (members_of x.what))) [
            | inl t ↦ (let z : ◌≡◌ {A = Option Message} None (Some m) = rw (o, t) at s in cc)
            | inr t ↦ (let k = entry_pending h n m (rw (o, t) at s) in (k.0, inr k.1, k.2, k.3))
          ]
    ]

-- a firing among the members
served_here : (p : Program) (h : List Entry) (n b : ℕ) (w : What) (q : ℕ) (m : Message) → HasOneSync p → Comes p h n b w → pending q h ≡ Some m → p.is_sync m.object.class m.method ≡ true → has q (members_of w) ≡ true → served p w ≡ Some q
served_here p h n b (Fired k o ms vs) q m one c s sync t =
    let fires = c.1 in
    let x = taken_pending h o fires.0 ms vs q fires.2 t in
    let same : Some m ≡ Some x.0 = sym s ∙ x.1 in
    let to : m ≡ x.0 = cc in
    let of : p.is_sync o.class m.method ≡ true = ap (λ (z : Object). p.is_sync z.class m.method) (sym (ap (λ (z : Message). z.object) to ∙ x.2)) ∙ sync in
    rw fires.1 (member_is_served (p.is_sync o.class) h o fires.0 ms vs q m (one o.class k fires.0 fires.1) fires.2 s of t)
served_here p h n b Begun q m one c s sync t = cc
served_here p h n b (Made k) q m one c s sync t = cc
served_here p h n b (Sent o j vs) q m one c s sync t = cc
served_here p h n b (Called o j vs) q m one c s sync t = cc
served_here p h n b (Printed x) q m one c s sync t = cc
served_here p h n b (Ended x) q m one c s sync t = cc

-- the message that a synchronous call sends is to a method with callers that wait, where the call has the kind of its method
call_has_message : (p : Program) (c : Entry) (q : ℕ) (m : Message) → HasKind p c.what → IsCall q c → message_of c.what ≡ Some m → p.is_sync m.object.class m.method ≡ true
call_has_message p c q m kind i s =
    let what = i.1.3 in
    let kind' : HasKind p (Called i.1.0 i.1.1 i.1.2) = subst (λ (w : What). HasKind p w) what kind in
    let same : Some (record { object = i.1.0; method = i.1.1; arguments = i.1.2 }) ≡ Some m = ap message_of (sym what) ∙ s in
    let to : record { object = i.1.0; method = i.1.1; arguments = i.1.2 } ≡ m = cc in
    subst (λ (z : Message). p.is_sync z.object.class z.method ≡ true) to kind'

-- a synchronous call takes no message
no_members : (c : Entry) (q n : ℕ) → IsCall q c → has n (members_of c.what) ≡ true → ⊥
no_members c q n i t = let z : false ≡ true = ap (λ (w : What). has n (members_of w)) (sym i.1.3) ∙ t in cc

-- a firing that has a call among its members serves it
pub serves_its_member : ServesItsMember
serves_its_member p [] c f q s one r i call j t = absurd j
serves_its_member p (x ∷ h) c f q s one r i call j t =
    elim j [
      | inl y ↦
          (let here : has q (members_of x.what) ≡ true = ap (λ (z : Entry). has q (members_of z.what)) (sym y) ∙ t in
          let before : IsIn c h =
          elim i [
            | inl z ↦ absurd (no_members c q q call (ap (λ (u : Entry). has q (members_of u.what)) z ∙ here))
            | inr z ↦ z
          ]
          in
          let m = taken_by p h x.number x.body x.what q r.1.comes here in
          let sent = pending_entry p h c m.0 r.0 before (ap (λ n. pending n h) call.0 ∙ m.1) in
          let sync = call_has_message p c q m.0 (kind_in p h c s r.0 before) call sent in
          ap (λ (z : Entry). served p z.what) y ∙ served_here p h x.number x.body x.what q m.0 one r.1.comes m.1 sync here)
      | inr y ↦
          elim i [
            | inl z ↦
                (let l = member_within p h f q r.0 y t in
                let n : c.number ≡ x.number = ap (λ (u : Entry). u.number) z in
                let m = r.1.numbered in
                absurd (omega (arith, l, n, m, call.0)))
            | inr z ↦ serves_its_member p h c f q s one r.0 z call y t
          ]
    ]

-- the call that a firing serves is a pending message among its members, to a method with callers that wait
pub served_member : (sync : ℕ → Bool) (h : List Entry) (o : Object) (js ms : List ℕ) (vs : List value.Value) (q : ℕ) → Takes h o js ms vs → served_among sync js ms ≡ Some q → (has q ms ≡ true) × ((m : Message) × (pending q h ≡ Some m) × (m.object ≡ o) × (sync m.method ≡ true))
served_member sync h o [] ms vs q t s = (let z : ◌≡◌ {A = Option ℕ} None (Some q) = s in cc)
served_member sync h o (j ∷ js) [] vs q t s = absurd t
served_member sync h o (j ∷ js) (i ∷ ms) vs q t s =
    elim (either (sync j)) [
      | inl y ↦
          (let same : Some i ≡ Some q = rw y at s in
          let here : i ≡ q = cc in
          (rw (eq-eqb q i (sym here)) refl, (record { object = o; method = j; arguments = t.0 }, ap (λ n. pending n h) (sym here) ∙ t.2, refl, y)))
      | inr n ↦ (let x = served_member sync h o js ms t.1 q t.4 (rw n at s) in (has_more q i ms x.0, x.1))
    ]

-- an entry that has the kind of its method and sends a message to a method with callers that wait is a synchronous call
by_kind : (p : Program) (w : What) (m : Message) → HasKind p w → message_of w ≡ Some m → p.is_sync m.object.class m.method ≡ true → (o : Object) × (j : ℕ) × (vs : List value.Value) × (w ≡ Called o j vs)
by_kind p (Called o j vs) m kind s sync = (o, j, vs, refl)
by_kind p (Sent o j vs) m kind s sync =
    let to : record { object = o; method = j; arguments = vs } ≡ m = cc in
    let not : p.is_sync m.object.class m.method ≡ false = subst (λ (z : Message). p.is_sync z.object.class z.method ≡ false) to kind in
    let z : true ≡ false = sym sync ∙ not in cc
by_kind p Begun m kind s sync = (let z : ◌≡◌ {A = Option Message} None (Some m) = s in cc)
by_kind p (Made k) m kind s sync = (let z : ◌≡◌ {A = Option Message} None (Some m) = s in cc)
by_kind p (Printed t) m kind s sync = (let z : ◌≡◌ {A = Option Message} None (Some m) = s in cc)
by_kind p (Fired k o ms vs) m kind s sync = (let z : ◌≡◌ {A = Option Message} None (Some m) = s in cc)
by_kind p (Ended x) m kind s sync = (let z : ◌≡◌ {A = Option Message} None (Some m) = s in cc)

-- the message of a call
message_called : (p : Program) (e : Entry) (m : Message) → HasKind p e.what → message_of e.what ≡ Some m → p.is_sync m.object.class m.method ≡ true → (o : Object) × (j : ℕ) × (vs : List value.Value) × (e.what ≡ Called o j vs)
message_called p e m kind s sync = by_kind p e.what m kind s sync

-- in a run of a sound program, the call that a next entry serves is a member of it and the number of a synchronous call in the run
only_calls : (p : Program) (h : List Entry) (n b : ℕ) (w : What) (q : ℕ) → IsSound p → IsPast p h → Comes p h n b w → served p w ≡ Some q → (has q (members_of w) ≡ true) × ((c : Entry) × IsIn c h × IsCall q c)
only_calls p h n b (Fired k o ms vs) q s r c t =
    let fires = c.1 in
    let among : served_among (p.is_sync o.class) fires.0 ms ≡ Some q = rw fires.1 at t in
    let x = served_member (p.is_sync o.class) h o fires.0 ms vs q fires.2 among in
    let m = x.1.0 in
    let e = entry_pending h q m x.1.1 in
    let sync : p.is_sync m.object.class m.method ≡ true = ap (λ (z : Object). p.is_sync z.class m.method) x.1.2 ∙ x.1.3 in
    (x.0, (e.0, e.1, (e.2, message_called p e.0 m (kind_in p h e.0 s r e.1) e.3 sync)))
only_calls p h n b Begun q s r c t = cc
only_calls p h n b (Made k) q s r c t = cc
only_calls p h n b (Sent o j vs) q s r c t = cc
only_calls p h n b (Called o j vs) q s r c t = cc
only_calls p h n b (Printed x) q s r c t = cc
only_calls p h n b (Ended x) q s r c t = cc

-- a firing serves only a call that is a member of it
pub serves_only_calls : ServesOnlyCalls
serves_only_calls p [] f q s r j t = absurd j
serves_only_calls p (x ∷ h) f q s r j t =
    elim j [
      | inl y ↦
          (let here : served p x.what ≡ Some q = ap (λ (z : Entry). served p z.what) (sym y) ∙ t in
          let k = only_calls p h x.number x.body x.what q s r.0 r.1.comes here in
          (ap (λ (z : Entry). has q (members_of z.what)) y ∙ k.0, (k.1.0, inr k.1.1, k.1.2)))
      | inr y ↦ (let k = serves_only_calls p h f q s r.0 y t in (k.0, (k.1.0, inr k.1.1, k.1.2)))
    ]
