-- Pending messages and enabled chords, entry by entry.
use Rattle.std.proofs.Common.{◌≡◌, ℕ, Bool, true, false, ◌==◌, List, [], ◌∷◌, Option, Some, None, refl, sym, ap, ◌∙◌, inl, inr}
use Rattle.std.proofs.lemmas.Bool.{eq-eqb, eqb-true}
use Rattle.chord_base.specs.declared.value.Object.{Object}
use Rattle.chord_base.specs.declared.value.Value as value
use Rattle.chord_base.specs.declared.event.Entry.{Entry}
use Rattle.chord_base.specs.Meaning.{Program}
use Rattle.chord_base.specs.Messages.{Message, has, message_of, members_of, pending}
use Rattle.chord_base.specs.Bodies.{served_among}
use Rattle.chord_base.specs.Machine.{Takes, Fires}
pub use Rattle.chord_base.specs.Machine.{NoneFires}
pub use Rattle.chord_base.specs.Meaning.{NoneSync, OneSync}
use Rattle.chord_base.proofs.Waits.{either}

-- what is pending after an entry that is no message was pending before
pub pending_before : (e : Entry) (h : List Entry) (n : ℕ) (m : Message) → message_of e.what ≡ None → pending n (e ∷ h) ≡ Some m → pending n h ≡ Some m
pending_before e h n m no_message s =
    elim (either (e.number == n)) [
      | inl y ↦ (let x = rw (y, no_message) at s in let z : ◌≡◌ {A = Option Message} None (Some m) = x in cc)
      | inr o ↦
          (let x = rw o at s in
          elim (either (has n (members_of e.what))) [
            | inl y ↦ (let z : ◌≡◌ {A = Option Message} None (Some m) = rw y at x in cc)
            | inr z ↦ rw z at x
          ])
    ]

-- a member of a firing is pending no longer
pub taken_after : (e : Entry) (h : List Entry) (n : ℕ) (m : Message) → message_of e.what ≡ None → has n (members_of e.what) ≡ true → pending n (e ∷ h) ≡ Some m → ⊥
taken_after e h n m no_message t s =
    elim (either (e.number == n)) [
      | inl y ↦ (let x = rw (y, no_message) at s in let z : ◌≡◌ {A = Option Message} None (Some m) = x in cc)
      | inr o ↦ (let z : ◌≡◌ {A = Option Message} None (Some m) = rw (o, t) at s in cc)
    ]

-- a message leaves the others as they are
pub pending_other : (e : Entry) (h : List Entry) (n : ℕ) → members_of e.what ≡ [] → (e.number == n) ≡ false → pending n (e ∷ h) ≡ pending n h
pending_other e h n none o = rw (o, none)

-- what is among some numbers is among one more
pub has_more : (n i : ℕ) (ms : List ℕ) → has n ms ≡ true → has n (i ∷ ms) ≡ true
has_more n i ms s = elim (either (n == i)) [ inl y ↦ rw y refl | inr o ↦ rw (o, s) refl ]

-- a number that is among some is another than one that is not among them
not_member : (n i : ℕ) (ms : List ℕ) → has n ms ≡ false → has i ms ≡ true → (n == i) ≡ false
not_member n i ms out s =
    elim (either (n == i)) [
      | inl y ↦ (let z : true ≡ false = sym s ∙ ap (λ x. has x ms) (sym (eqb-true n i y)) ∙ out in cc)
      | inr o ↦ o
    ]

-- members that are taken in one history are taken in another in which each of them is the same pending message
takes_before : (h h' : List Entry) (o : Object) (js ms : List ℕ) (vs : List value.Value) → ((n : ℕ) (m : Message) → has n ms ≡ true → pending n h' ≡ Some m → pending n h ≡ Some m) → Takes h' o js ms vs → Takes h o js ms vs
takes_before h h' o [] [] vs f t = t
takes_before h h' o [] (i ∷ ms) vs f t = t
takes_before h h' o (j ∷ js) [] vs f t = t
takes_before h h' o (j ∷ js) (i ∷ ms) vs f t =
    (t.0, t.1, f i _ (rw (eq-eqb i i refl)) t.2, t.3, takes_before h h' o js ms t.1 (λ n m s. f n m (has_more n i ms s)) t.4)

-- what fires after an entry that is no message could fire before
pub fires_before : (p : Program) (e : Entry) (h : List Entry) (k : ℕ) (o : Object) (ms : List ℕ) (vs : List value.Value) → message_of e.what ≡ None → Fires p (e ∷ h) k o ms vs → Fires p h k o ms vs
fires_before p e h k o ms vs n f = (f.0, f.1, takes_before h (e ∷ h) o f.0 ms vs (λ i m _. pending_before e h i m n) f.2)

-- what fires after a message could fire before, or takes it
pub fires_without : (p : Program) (e : Entry) (h : List Entry) (k : ℕ) (o : Object) (ms : List ℕ) (vs : List value.Value) → members_of e.what ≡ [] → has e.number ms ≡ false → Fires p (e ∷ h) k o ms vs → Fires p h k o ms vs
fires_without p e h k o ms vs n out f =
    (f.0, f.1, takes_before h (e ∷ h) o f.0 ms vs (λ i m s g. sym (pending_other e h i n (not_member e.number i ms out s)) ∙ g) f.2)

-- an entry that is no message enables nothing
pub none_fires_on : (p : Program) (e : Entry) (h : List Entry) → message_of e.what ≡ None → NoneFires p h → NoneFires p (e ∷ h)
none_fires_on p e h n f k o ms vs g = f k o ms vs (fires_before p e h k o ms vs n g)

-- a message with which no chord is enabled
pub none_fires_with : (p : Program) (e : Entry) (h : List Entry) → members_of e.what ≡ [] → NoneFires p h → ((k : ℕ) (o : Object) (ms : List ℕ) (vs : List value.Value) → has e.number ms ≡ true → Fires p (e ∷ h) k o ms vs → ⊥) → NoneFires p (e ∷ h)
none_fires_with p e h n f g k o ms vs x =
    elim (either (has e.number ms)) [
      | inl y ↦ g k o ms vs y x
      | inr out ↦ f k o ms vs (fires_without p e h k o ms vs n out x)
    ]

-- no chord takes a message that the newest entry, a firing, has taken
not_taken : (f : Entry) (h : List Entry) (n : ℕ) → message_of f.what ≡ None → has n (members_of f.what) ≡ true → (o : Object) (js ms : List ℕ) (vs : List value.Value) → has n ms ≡ true → Takes (f ∷ h) o js ms vs → ⊥
not_taken f h n m t o [] [] vs s x = cc
not_taken f h n m t o [] (i ∷ ms) vs s x = x
not_taken f h n m t o (j ∷ js) [] vs s x = x
not_taken f h n m t o (j ∷ js) (i ∷ ms) vs s x =
    elim (either (n == i)) [
      | inl y ↦ taken_after f h i _ m (ap (λ z. has z (members_of f.what)) (sym (eqb-true n i y)) ∙ t) x.2
      | inr out ↦ not_taken f h n m t o js ms x.1 (rw out at s) x.4
    ]

-- a message, and a firing that takes it
pub none_fires_after : (p : Program) (f e : Entry) (h : List Entry) → message_of f.what ≡ None → members_of e.what ≡ [] → has e.number (members_of f.what) ≡ true → NoneFires p h → NoneFires p (f ∷ e ∷ h)
none_fires_after p f e h no_message n t none k o ms vs x =
    elim (either (has e.number ms)) [
      | inl y ↦ not_taken f (e ∷ h) e.number no_message t o x.0 ms vs y x.2
      | inr out ↦ none k o ms vs (fires_without p e h k o ms vs n out (fires_before p f (e ∷ h) k o ms vs no_message x))
    ]

-- a chord of which no method has callers that wait takes no pending call
none_sync_member : (sync : ℕ → Bool) (h : List Entry) (o : Object) (js ms : List ℕ) (vs : List value.Value) (q : ℕ) (m : Message) → NoneSync sync js → Takes h o js ms vs → pending q h ≡ Some m → sync m.method ≡ true → has q ms ≡ false
none_sync_member sync h o [] [] vs q m n t p s = refl
none_sync_member sync h o [] (i ∷ ms) vs q m n t p s = absurd t
none_sync_member sync h o (j ∷ js) [] vs q m n t p s = absurd t
none_sync_member sync h o (j ∷ js) (i ∷ ms) vs q m n t p s =
    elim (either (q == i)) [
      | inl y ↦
          (let e : Some m ≡ Some (record { object = o; method = j; arguments = t.0 }) = sym p ∙ ap (λ z. pending z h) (eqb-true q i y) ∙ t.2 in
          let w : m ≡ record { object = o; method = j; arguments = t.0 } = cc in
          let z : true ≡ false = sym s ∙ ap (λ d. sync d.method) w ∙ n.0 in cc)
      | inr d ↦ rw d (none_sync_member sync h o js ms t.1 q m n.1 t.4 p s)
    ]

-- a pending call that is a member of a firing is the call that the firing serves
pub member_is_served : (sync : ℕ → Bool) (h : List Entry) (o : Object) (js ms : List ℕ) (vs : List value.Value) (q : ℕ) (m : Message) → OneSync sync js → Takes h o js ms vs → pending q h ≡ Some m → sync m.method ≡ true → has q ms ≡ true → served_among sync js ms ≡ Some q
member_is_served sync h o [] [] vs q m n t p s i = cc
member_is_served sync h o [] (i' ∷ ms) vs q m n t p s i = absurd t
member_is_served sync h o (j ∷ js) [] vs q m n t p s i = absurd t
member_is_served sync h o (j ∷ js) (i' ∷ ms) vs q m n t p s i =
    elim (either (q == i')) [
      | inl y ↦
          (let k = eqb-true q i' y in
          let e : Some m ≡ Some (record { object = o; method = j; arguments = t.0 }) = sym p ∙ ap (λ z. pending z h) k ∙ t.2 in
          let w : m ≡ record { object = o; method = j; arguments = t.0 } = cc in
          let y' : sync j ≡ true = sym (ap (λ d. sync d.method) w) ∙ s in
          rw y' (ap Some (sym k)))
      | inr d ↦
          (let rest : has q ms ≡ true = rw d at i in
          elim (either (sync j)) [
            | inl y' ↦ (let z : true ≡ false = sym rest ∙ none_sync_member sync h o js ms t.1 q m (n.0 y') t.4 p s in cc)
            | inr f ↦ rw f (member_is_served sync h o js ms t.1 q m n.1 t.4 p s rest)
          ])
    ]
