-- What firings take, in a run.
use Rattle.std.proofs.Common.{◌≡◌, ℕ, ◌<◌, true, false, ◌==◌, List, [], ◌∷◌, length, Option, Some, None, refl, sym, ap, ◌∙◌, subst, arith, inl, inr}
use Rattle.std.proofs.lemmas.Bool.{eq-eqb, eqb-true, ne_eqb}
use Rattle.chord_base.specs.declared.value.Object.{Object}
use Rattle.chord_base.specs.declared.value.Value as value
use Rattle.chord_base.specs.declared.event.What.{What}
use Rattle.chord_base.specs.declared.event.What.TheVariants.{Begun, Made, Sent, Called, Printed, Fired, Ended}
use Rattle.chord_base.specs.declared.event.Entry.{Entry}
use Rattle.chord_base.specs.Meaning.{Program}
use Rattle.chord_base.specs.Messages.{Message, AreDifferent, has, members_of, pending}
use Rattle.chord_base.specs.Machine.{Takes, Comes, MayFollow, IsPast}
use Rattle.chord_base.specs.Story.{IsIn}
use Rattle.chord_base.specs.Laws.{PendingUntilTaken, TakesPending, TakenOnce, MembersDiffer}
use Rattle.chord_base.proofs.Waits.{either}
use Rattle.chord_base.proofs.Pending.{has_more}

-- a pending message is an entry
pub pending_within : (p : Program) (h : List Entry) (n : ℕ) (m : Message) → IsPast p h → pending n h ≡ Some m → n < length h
pending_within p [] n m r s = (let z : ◌≡◌ {A = Option Message} None (Some m) = s in cc)
pending_within p (e ∷ h) n m r s =
    elim (either (e.number == n)) [
      | inl y ↦ (let i = r.1.numbered in let j = eqb-true e.number n y in omega (arith, i, j))
      | inr o ↦
          elim (either (has n (members_of e.what))) [
            | inl t ↦ (let z : ◌≡◌ {A = Option Message} None (Some m) = rw (o, t) at s in cc)
            | inr t ↦ (let b = pending_within p h n m r.0 (rw (o, t) at s) in omega (arith, b))
          ]
    ]

-- an entry that may follow has another number than each entry before it
next_is_other : (p : Program) (h : List Entry) (e : Entry) (n : ℕ) → n < length h → MayFollow p h e → (e.number == n) ≡ false
next_is_other p h e n l f = ne_eqb e.number n (λ i. let j = f.numbered in omega (arith, i, j, l))

-- a pending message stays so until an entry takes it
pub pending_until_taken : PendingUntilTaken
pending_until_taken p h e n m r f s t = rw (next_is_other p h e n (pending_within p h n m r s) f, t) s

-- a member of a firing is a pending message to its object
pub taken_pending : (h : List Entry) (o : Object) (js ms : List ℕ) (vs : List value.Value) (n : ℕ) → Takes h o js ms vs → has n ms ≡ true → (m : Message) × (pending n h ≡ Some m) × (m.object ≡ o)
taken_pending h o [] [] vs n t s = cc
taken_pending h o [] (i ∷ ms) vs n t s = absurd t
taken_pending h o (j ∷ js) [] vs n t s = absurd t
taken_pending h o (j ∷ js) (i ∷ ms) vs n t s =
    elim (either (n == i)) [
      | inl y ↦ (record { object = o; method = j; arguments = t.0 }, ap (λ z. pending z h) (eqb-true n i y) ∙ t.2, refl)
      | inr d ↦ taken_pending h o js ms t.1 n t.4 (rw d at s)
    ]

-- what an entry takes was pending
pub taken_by : (p : Program) (h : List Entry) (n b : ℕ) (w : What) (i : ℕ) → Comes p h n b w → has i (members_of w) ≡ true → (m : Message) × (pending i h ≡ Some m)
taken_by p h n b (Fired k o ms vs) i c t = (let x = taken_pending h o c.1.0 ms vs i c.1.2 t in (x.0, x.1))
taken_by p h n b Begun i c t = cc
taken_by p h n b (Made k) i c t = cc
taken_by p h n b (Sent o j vs) i c t = cc
taken_by p h n b (Called o j vs) i c t = cc
taken_by p h n b (Printed x) i c t = cc
taken_by p h n b (Ended x) i c t = cc

-- an entry takes what was pending, and that is pending no longer
pub takes_pending : TakesPending
takes_pending p h e n r f t =
    let x = taken_by p h e.number e.body e.what n f.comes t in
    (x, rw (next_is_other p h e n (pending_within p h n x.0 r x.1) f, t) refl)

-- what an entry of a run takes is an entry of it
pub member_within : (p : Program) (h : List Entry) (f : Entry) (n : ℕ) → IsPast p h → IsIn f h → has n (members_of f.what) ≡ true → n < length h
member_within p [] f n r i t = absurd i
member_within p (x ∷ h) f n r i t =
    elim i [
      | inl y ↦
          (let here : has n (members_of x.what) ≡ true = ap (λ (z : Entry). has n (members_of z.what)) (sym y) ∙ t in
          let m = takes_pending p h x n r.0 r.1 here in
          let l = pending_within p h n m.0.0 r.0 m.0.1 in omega (arith, l))
      | inr y ↦ (let l = member_within p h f n r.0 y t in omega (arith, l))
    ]

-- a message that was taken never becomes pending again
pub taken_for_good : (p : Program) (h : List Entry) (f : Entry) (n : ℕ) → IsPast p h → IsIn f h → has n (members_of f.what) ≡ true → pending n h ≡ None
taken_for_good p [] f n r i t = absurd i
taken_for_good p (x ∷ h) f n r i t =
    elim i [
      | inl y ↦
          (let here : has n (members_of x.what) ≡ true = ap (λ (z : Entry). has n (members_of z.what)) (sym y) ∙ t in
          let m = takes_pending p h x n r.0 r.1 here in m.1)
      | inr y ↦
          (let other = next_is_other p h x n (member_within p h f n r.0 y t) r.1 in
          elim (either (has n (members_of x.what))) [ inl a ↦ rw (other, a) refl | inr a ↦ rw (other, a) (taken_for_good p h f n r.0 y t) ])
    ]

-- an entry that may follow takes no message that an earlier entry took
not_again : (p : Program) (h : List Entry) (x e f : Entry) (n : ℕ) → IsPast p h → MayFollow p h x → e ≡ x → IsIn f h → has n (members_of e.what) ≡ true → has n (members_of f.what) ≡ true → ⊥
not_again p h x e f n r m y i t u =
    let here : has n (members_of x.what) ≡ true = ap (λ (z : Entry). has n (members_of z.what)) (sym y) ∙ t in
    let was = takes_pending p h x n r m here in
    let z : ◌≡◌ {A = Option Message} None (Some was.0.0) = sym (taken_for_good p h f n r i u) ∙ was.0.1 in cc

-- no message is taken by two entries of a run
pub taken_once : TakenOnce
taken_once p [] e f n r i j t u = absurd i
taken_once p (x ∷ h) e f n r i j t u =
    elim i [
      | inl y ↦ elim j [ inl z ↦ y ∙ sym z | inr z ↦ absurd (not_again p h x e f n r.0 r.1 y z t u) ]
      | inr y ↦ elim j [ inl z ↦ absurd (not_again p h x f e n r.0 r.1 z y u t) | inr z ↦ taken_once p h e f n r.0 y z t u ]
    ]

-- the method of a member is a method of the chord
taken_method : (h : List Entry) (o : Object) (js ms : List ℕ) (vs : List value.Value) (n : ℕ) (m : Message) → Takes h o js ms vs → has n ms ≡ true → pending n h ≡ Some m → has m.method js ≡ true
taken_method h o [] [] vs n m t s e = cc
taken_method h o [] (i ∷ ms) vs n m t s e = absurd t
taken_method h o (j ∷ js) [] vs n m t s e = absurd t
taken_method h o (j ∷ js) (i ∷ ms) vs n m t s e =
    elim (either (n == i)) [
      | inl y ↦
          (let same : Some m ≡ Some (record { object = o; method = j; arguments = t.0 }) = sym e ∙ ap (λ z. pending z h) (eqb-true n i y) ∙ t.2 in
          let to : m ≡ record { object = o; method = j; arguments = t.0 } = cc in
          rw (eq-eqb m.method j (ap (λ (z : Message). z.method) to)) refl)
      | inr d ↦ has_more m.method j js (taken_method h o js ms t.1 n m t.4 (rw d at s) e)
    ]

-- a chord that has no method twice takes no message twice
taken_different : (h : List Entry) (o : Object) (js ms : List ℕ) (vs : List value.Value) → Takes h o js ms vs → AreDifferent js → AreDifferent ms
taken_different h o [] [] vs t d = tt
taken_different h o [] (i ∷ ms) vs t d = absurd t
taken_different h o (j ∷ js) [] vs t d = absurd t
taken_different h o (j ∷ js) (i ∷ ms) vs t d = (
  elim (either (has i ms)) [
    | inl y ↦ (let again = taken_method h o js ms t.1 i _ t.4 y t.2 in let z : true ≡ false = sym again ∙ d.0 in cc)
    | inr n ↦ n
  ],
  taken_different h o js ms t.1 t.4 d.1,
)

-- a firing of a chord without a method twice takes no message twice
pub members_differ : MembersDiffer
members_differ p h k o js ms vs c d f =
    let same : Some f.0 ≡ Some js = sym f.1 ∙ c in
    let it : f.0 ≡ js = cc in
    taken_different h o js ms vs (subst (λ (z : List ℕ). Takes h o z ms vs) it f.2) d
