-- The lists of the bag, as messages come and go.
use Rattle.std.proofs.Common.{◌≡◌, ◌≢◌, ℕ, suc, ◌<◌, ◌≤◌, Bool, true, false, ◌==◌, ◌&&◌, List, [], ◌∷◌, ◌++◌, length, reverse, not, Option, Some, None, refl, sym, ap, ◌∙◌, subst, arith, inl, inr, if◌then◌else◌}
use Rattle.std.proofs.lemmas.List.{length-reverse}
use Rattle.std.proofs.lemmas.Bool.{eq-eqb, eqb-true, eqb-false, ne_eqb}
use Rattle.chord_base.specs.declared.value.Object.{Object}
use Rattle.chord_base.specs.Messages.{Message, has}
use Rattle.chord_base.proofs.Waits.{either}
use Rattle.chord_lists.specs.Bag.{Address, address_to, address_of, same_address, HasMessages, LacksMessage, IsPushed, IsPopped, ArePopped, Falls, Lists}
use Rattle.chord_lists.proofs.Spots.{has_first, has_later, has_other}

-- ---- addresses

-- where two tests hold the first does
and_left : (a b : Bool) → (a && b) ≡ true → a ≡ true
and_left true b e = refl
and_left false b e = cc

-- where two tests hold the second does
and_right : (a b : Bool) → (a && b) ≡ true → b ≡ true
and_right true b e = e
and_right false b e = cc

-- addresses are equal where their objects, classes and methods are
address_is : (a b : Address) → a.object ≡ b.object → a.class ≡ b.class → a.method ≡ b.method → a ≡ b
address_is a b o c m =
    ap (λ n. record { object = n; class = a.class; method = a.method }) o
    ∙ ap (λ n. record { object = b.object; class = n; method = a.method }) c
    ∙ ap (λ n. record { object = b.object; class = b.class; method = n }) m

-- addresses that are the same by test are equal
pub same_is : (a b : Address) → same_address a b ≡ true → a ≡ b
same_is a b e =
    let o = eqb-true a.object b.object (and_left (a.object == b.object) _ e) in
    let r = and_right (a.object == b.object) _ e in
    let c = eqb-true a.class b.class (and_left (a.class == b.class) _ r) in
    let m = eqb-true a.method b.method (and_right (a.class == b.class) _ r) in
    address_is a b o c m

-- an address is the same as itself by test
pub same_self : (a : Address) → same_address a a ≡ true
same_self a = rw (eq-eqb a.object a.object refl, eq-eqb a.class a.class refl, eq-eqb a.method a.method refl) refl

-- other methods of an object have other addresses
other_method : (o : Object) (j i : ℕ) → (j ≡ i → ⊥) → same_address (address_to o j) (address_to o i) ≡ false
other_method o j i d = rw (eq-eqb o.number o.number refl, eq-eqb o.class o.class refl, ne_eqb j i d) refl

-- objects are equal where their numbers and classes are
object_is : (a b : Object) → a.number ≡ b.number → a.class ≡ b.class → a ≡ b
object_is a b n c = ap (λ i. record { number = i; class = a.class }) n ∙ ap (λ i. record { number = b.number; class = i }) c

-- a message under the address of a method is to that method
pub message_to : (m : Message) (o : Object) (j : ℕ) → address_of m ≡ address_to o j → m ≡ record { object = o; method = j; arguments = m.arguments }
message_to m o j e =
    let object : m.object ≡ o = object_is m.object o (ap (λ k. k.object) e) (ap (λ k. k.class) e) in
    let method : m.method ≡ j = ap (λ k. k.method) e in
    ap (λ i. record { object = i; method = m.method; arguments = m.arguments }) object
    ∙ ap (λ i. record { object = o; method = i; arguments = m.arguments }) method

-- ---- numbers in a list

-- a number in a list that falls from a bound is below that bound
falls_below : (n m : ℕ) (ns : List ℕ) → Falls n ns → has m ns ≡ true → m < n
falls_below n m [] f e = cc
falls_below n m (i ∷ ns) f e =
    elim (either (m == i)) [
      | inl y ↦ omega (arith, eqb-true m i y, f.0)
      | inr o ↦ (let l = falls_below i m ns f.1 (rw o at e) in omega (arith, l, f.0))
    ]

-- a list that falls from a bound falls from each larger bound
falls_to : (n m : ℕ) (ns : List ℕ) → Falls n ns → n ≤ m → Falls m ns
falls_to n m [] f l = tt
falls_to n m (i ∷ ns) f l = (omega (arith, f.0, l), f.1)

-- ---- what the lists say

-- nothing is not something
nothing_some : {A : Type 0} (x : A) → ◌≡◌ {A = Option A} None (Some x) → ⊥
nothing_some x e = cc

-- true is not false
true_false : true ≡ false → ⊥
true_false e = cc

-- the messages without one
abbrev pub without : ℕ → (ℕ → Option Message) → ℕ → Option Message
without i held n = if n == i then None else held n

-- the messages without these
abbrev pub without_all : List ℕ → (ℕ → Option Message) → ℕ → Option Message
without_all ms held n = if has n ms then None else held n

-- a message that is left after another was taken was there, and is not that one
pub held_before : (held : ℕ → Option Message) (i n : ℕ) (m : Message) → without i held n ≡ Some m → (n ≢ i) × (held n ≡ Some m)
held_before held i n m e =
    elim (either (n == i)) [
      | inl y ↦ absurd (nothing_some m (rw y at e))
      | inr o ↦ (eqb-false n i o, rw o at e)
    ]

-- a method with no number in its list has no message
pub lists_lack : (held : ℕ → Option Message) (n : ℕ) (index : Address → List ℕ) (o : Object) (j i : ℕ) (m : Message) → Lists held n index
    → LacksMessage o j index → held i ≡ Some m → address_of m ≡ address_to o j → ⊥
lists_lack held n index o j i m s l e h =
    let listed : has i (index (address_of m)) ≡ true = s.listed i m e in
    let empty : has i (index (address_of m)) ≡ false = ap (λ k. has i (index k)) h ∙ ap (has i) l in
    true_false (sym listed ∙ empty)

-- nothing is listed where nothing is
pub lists_none : (held : ℕ → Option Message) (n : ℕ) (index : Address → List ℕ) → ((i : ℕ) → held i ≡ None) → ((k : Address) → index k ≡ [])
    → Lists held n index
lists_none held n index none empty =
    record {
      falls = λ k. rw (empty k) tt;
      there = λ k i e. (let z : false ≡ true = sym (ap (has i) (empty k)) ∙ e in cc);
      listed = λ i m e. absurd (nothing_some m (sym (none i) ∙ e));
    }

-- ---- an entry that is no message

-- a bag that lists the pending messages lists them after an entry that sends none
pub lists_on : (held : ℕ → Option Message) (n : ℕ) (index : Address → List ℕ) → Lists held n index
    → Lists (λ i. if n == i then None else held i) (suc n) index
lists_on held n index s =
    record {
      falls = λ k. falls_to n (suc n) (index k) (s.falls k) (omega arith);
      there =
          λ k i e.
          let t = s.there k i e in
          let l = falls_below n i (index k) (s.falls k) e in
          (t.0, rw (ne_eqb n i (λ d. omega (arith, d, l))) t.1, t.2);
      listed =
          λ i m e.
          elim (either (n == i)) [
            | inl y ↦ absurd (nothing_some m (rw y at e))
            | inr o ↦ s.listed i m (rw o at e)
          ];
    }

-- ---- a message comes

-- a number that was listed stays so
stays_listed : (k h : Address) (n i : ℕ) (old new : Address → List ℕ) → IsPushed k n old new → has i (old h) ≡ true → has i (new h) ≡ true
stays_listed k h n i old new p e =
    elim (either (same_address k h)) [
      | inl y ↦ (let q : new h ≡ n ∷ old h = p h ∙ rw y refl in ap (has i) q ∙ has_later i n (old h) e)
      | inr o ↦ (let q : new h ≡ old h = p h ∙ rw o refl in ap (has i) q ∙ e)
    ]

-- the new message stands on top of its list
listed_first : (k : Address) (n : ℕ) (old new : Address → List ℕ) → IsPushed k n old new → has n (new k) ≡ true
listed_first k n old new p = let q : new k ≡ n ∷ old k = p k ∙ rw (same_self k) refl in ap (has n) q ∙ has_first n (old k)

-- a list that falls from the number of the new message falls from the next number after that message came
falls_pushed : (k h : Address) (n : ℕ) (old new : Address → List ℕ) → IsPushed k n old new → Falls n (old h) → Falls (suc n) (new h)
falls_pushed k h n old new p f =
    elim (either (same_address k h)) [
      | inl y ↦ (let e : new h ≡ n ∷ old h = p h ∙ rw y refl in subst (Falls (suc n)) (sym e) (omega arith, f))
      | inr o ↦ (let e : new h ≡ old h = p h ∙ rw o refl in subst (Falls (suc n)) (sym e) (falls_to n (suc n) (old h) f (omega arith)))
    ]

-- what is listed is the new message, or was listed
is_new : (k h : Address) (n i : ℕ) (old new : Address → List ℕ) → IsPushed k n old new → n ≢ i → has i (new h) ≡ true → has i (old h) ≡ true
is_new k h n i old new p d e =
    elim (either (same_address k h)) [
      | inl y ↦ (let q : new h ≡ n ∷ old h = p h ∙ rw y refl in has_other i n (old h) (λ z. d (sym z)) (sym (ap (has i) q) ∙ e))
      | inr o ↦ (let q : new h ≡ old h = p h ∙ rw o refl in sym (ap (has i) q) ∙ e)
    ]

-- the new number stands under its own address alone
own_address : (held : ℕ → Option Message) (k h : Address) (n : ℕ) (old new : Address → List ℕ) → Lists held n old → IsPushed k n old new
    → has n (new h) ≡ true → k ≡ h
own_address held k h n old new s p e =
    elim (either (same_address k h)) [
      | inl y ↦ same_is k h y
      | inr o ↦
          (let q : new h ≡ old h = p h ∙ rw o refl in
          let l = falls_below n n (old h) (s.falls h) (sym (ap (has n) q) ∙ e) in
          absurd (omega (arith, l)))
    ]

-- a bag in which a new message was noted lists the messages with it
pub lists_more : (held : ℕ → Option Message) (n : ℕ) (old new : Address → List ℕ) (x : Message) → Lists held n old → IsPushed (address_of x) n old new
    → Lists (λ i. if n == i then Some x else held i) (suc n) new
lists_more held n old new x s p =
    record {
      falls = λ h. falls_pushed (address_of x) h n old new p (s.falls h);
      there =
          λ h i e.
          elim (either (n == i)) [
            | inl y ↦ (let q : n ≡ i = eqb-true n i y in (x, rw y refl, own_address held (address_of x) h n old new s p (subst (λ z. has z (new h) ≡ true) (sym q) e)))
            | inr o ↦ (let t = s.there h i (is_new (address_of x) h n i old new p (eqb-false n i o) e) in (t.0, rw o t.1, t.2))
          ];
      listed =
          λ i m e.
          elim (either (n == i)) [
            | inl y ↦
                (let f : Some x ≡ Some m = rw y at e in
                let g : x ≡ m = cc in
                let q : n ≡ i = eqb-true n i y in
                subst (λ z. has z (new (address_of m)) ≡ true) q (subst (λ z. has n (new (address_of z)) ≡ true) g (listed_first (address_of x) n old new p)))
            | inr o ↦ stays_listed (address_of x) (address_of m) n i old new p (s.listed i m (rw o at e))
          ];
    }

-- ---- a message goes

-- it was there
pub popped_there : (held : ℕ → Option Message) (n i : ℕ) (k : Address) (old new : Address → List ℕ) → Lists held n old → IsPopped k i old new
    → (m : Message) × (held i ≡ Some m) × (address_of m ≡ k)
popped_there held n i k old new s p = s.there k i (ap (has i) p.here ∙ has_first i (new k))

-- the rest of its list was there, below it
rest_there : (held : ℕ → Option Message) (n i m : ℕ) (k : Address) (old new : Address → List ℕ) → Lists held n old → IsPopped k i old new
    → has m (new k) ≡ true → (has m (old k) ≡ true) × (m ≢ i)
rest_there held n i m k old new s p e =
    let f : Falls n (i ∷ new k) = subst (Falls n) p.here (s.falls k) in
    let l = falls_below i m (new k) f.1 e in
    (ap (has m) p.here ∙ has_later m i (new k) e, λ d. omega (arith, d, l))

-- and so were the other lists, which do not have it
other_there : (held : ℕ → Option Message) (n i m : ℕ) (k h : Address) (old new : Address → List ℕ) → Lists held n old → IsPopped k i old new
    → same_address k h ≡ false → has m (new h) ≡ true → (has m (old h) ≡ true) × (m ≢ i)
other_there held n i m k h old new s p o e =
    let e' : has m (old h) ≡ true = sym (ap (has m) (p.others h o)) ∙ e in (
      e',
      λ d.
          let t = s.there h m e' in
          let u = popped_there held n i k old new s p in
          let z : Some t.0 ≡ Some u.0 = sym t.1 ∙ ap held d ∙ u.1 in
          let v : t.0 ≡ u.0 = cc in
          let same : k ≡ h = sym u.2 ∙ ap address_of (sym v) ∙ t.2 in
          true_false (sym (same_self k) ∙ ap (same_address k) same ∙ o),
    )

-- what stands in a list after a number went from the top of one stood there before, and is another number
still_there : (held : ℕ → Option Message) (n i m : ℕ) (k h : Address) (old new : Address → List ℕ) → Lists held n old → IsPopped k i old new
    → has m (new h) ≡ true → (has m (old h) ≡ true) × (m ≢ i)
still_there held n i m k h old new s p e =
    elim (either (same_address k h)) [
      | inl y ↦
          (let q : k ≡ h = same_is k h y in
          subst (λ z. (has m (old z) ≡ true) × (m ≢ i)) q (rest_there held n i m k old new s p (subst (λ z. has m (new z) ≡ true) (sym q) e)))
      | inr o ↦ other_there held n i m k h old new s p o e
    ]

-- each list still falls from its bound after a number went from the top of one
falls_popped : (n i : ℕ) (k h : Address) (old new : Address → List ℕ) → IsPopped k i old new → ((z : Address) → Falls n (old z)) → Falls n (new h)
falls_popped n i k h old new p f =
    elim (either (same_address k h)) [
      | inl y ↦
          (let g : Falls n (i ∷ new k) = subst (Falls n) p.here (f k) in
          subst (λ z. Falls n (new z)) (same_is k h y) (falls_to i n (new k) g.1 (omega (arith, g.0))))
      | inr o ↦ subst (Falls n) (sym (p.others h o)) (f h)
    ]

-- every other number stays in its list
stays_there : (i m : ℕ) (k h : Address) (old new : Address → List ℕ) → IsPopped k i old new → m ≢ i → has m (old h) ≡ true → has m (new h) ≡ true
stays_there i m k h old new p d e =
    elim (either (same_address k h)) [
      | inl y ↦
          (let q : k ≡ h = same_is k h y in
          let e' : has m (i ∷ new k) ≡ true = sym (ap (has m) p.here) ∙ subst (λ z. has m (old z) ≡ true) (sym q) e in
          subst (λ z. has m (new z) ≡ true) q (has_other m i (new k) d e'))
      | inr o ↦ ap (has m) (p.others h o) ∙ e
    ]

-- a bag from which a message was popped lists the messages without it
pub lists_less : (held : ℕ → Option Message) (n i : ℕ) (k : Address) (old new : Address → List ℕ) → Lists held n old → IsPopped k i old new
    → Lists (without i held) n new
lists_less held n i k old new s p =
    record {
      falls = λ h. falls_popped n i k h old new p s.falls;
      there =
          λ h m e.
          let o = still_there held n i m k h old new s p e in
          let t = s.there h m o.0 in
          (t.0, rw (ne_eqb m i o.1) t.1, t.2);
      listed =
          λ m x e.
          let b = held_before held i m x e in
          stays_there i m k (address_of x) old new p b.0 (s.listed m x b.1);
    }

-- ---- messages go, one after another

-- the messages without one, and then without some, are those without all of these
without_more : (i : ℕ) (ms : List ℕ) (held : ℕ → Option Message) (n : ℕ) → without_all ms (without i held) n ≡ without_all (i ∷ ms) held n
without_more i ms held n =
    elim (either (n == i)) [
      | inl y ↦ elim (either (has n ms)) [ inl z ↦ rw (y, z) refl | inr z ↦ rw (y, z) refl ]
      | inr o ↦ elim (either (has n ms)) [ inl z ↦ rw (o, z) refl | inr z ↦ rw (o, z) refl ]
    ]

-- a bag from which the members of a firing were popped lists the messages without them
pub lists_taken : (held : ℕ → Option Message) (n : ℕ) (o : Object) (js ms : List ℕ) (old new : Address → List ℕ) → Lists held n old
    → ArePopped o js ms old new → Lists (without_all ms held) n new
lists_taken held n o [] [] old new s t = subst (λ index. Lists held n index) (λ z k. sym (t k) z) s
lists_taken held n o [] (i ∷ ms) old new s t = absurd t
lists_taken held n o (j ∷ js) [] old new s t = absurd t
lists_taken held n o (j ∷ js) (i ∷ ms) old new s t =
    let one = lists_less held n i (address_to o j) old t.0 s t.1 in
    let all = lists_taken (without i held) n o js ms t.0 new one t.2 in
    subst (λ f. Lists f n new) (λ z m. without_more i ms held m z) all

-- one more goes
pub taken_more : (o : Object) (js ms : List ℕ) (j n : ℕ) (old between new : Address → List ℕ) → ArePopped o js ms old between
    → IsPopped (address_to o j) n between new → ArePopped o (js ++ j ∷ []) (ms ++ n ∷ []) old new
taken_more o [] [] j n old between new t p =
    (new, record { here = sym (t (address_to o j)) ∙ p.here; others = λ h d. p.others h d ∙ t h }, λ k. refl)
taken_more o [] (i ∷ ms) j n old between new t p = absurd t
taken_more o (j' ∷ js) [] j n old between new t p = absurd t
taken_more o (j' ∷ js) (i ∷ ms) j n old between new t p = (t.0, t.1, taken_more o js ms j n t.0 between new t.2 p)

-- a number that is none of these is not the first, and none of the rest
differs : (j i : ℕ) (js : List ℕ) → has j (i ∷ js) ≡ false → (j ≢ i) × (has j js ≡ false)
differs j i js e =
    elim (either (j == i)) [
      | inl y ↦ absurd (true_false (rw y at e))
      | inr o ↦ (eqb-false j i o, rw o at e)
    ]

-- the messages to other methods stay
pub has_all_kept : (o : Object) (j n : ℕ) (js : List ℕ) (old new : Address → List ℕ) → has j js ≡ false → IsPopped (address_to o j) n old new
    → HasMessages o js old → HasMessages o js new
has_all_kept o j n [] old new d p a = tt
has_all_kept o j n (i ∷ js) old new d p a =
    let e = differs j i js d in
    ((a.0.0, a.0.1, p.others (address_to o i) (other_method o j i e.0) ∙ a.0.2), has_all_kept o j n js old new e.1 p a.1)

-- ---- a stack, as it is kept

-- a list that is not empty has a first and a rest
parts_of : (xs : List ℕ) → (xs ≡ [] → ⊥) → (n : ℕ) × (ns : List ℕ) × (xs ≡ n ∷ ns)
parts_of [] some = absurd (some refl)
parts_of (n ∷ ns) some = (n, ns, refl)

-- a stack that is not empty has a top
pub stack_has : (stack : List ℕ) → not (length stack == 0) ≡ true → (n : ℕ) × (ns : List ℕ) × (reverse stack ≡ n ∷ ns)
stack_has stack some =
    parts_of (reverse stack)
    (λ d.
    let z : length stack ≡ 0 = sym (length-reverse stack) ∙ ap length d in
    let y : not (length stack == 0) ≡ false = rw (eq-eqb (length stack) 0 z) refl in
    true_false (sym some ∙ y))

-- a stack that is empty lists nothing
pub stack_lacks : (stack : List ℕ) → not (length stack == 0) ≡ false → reverse stack ≡ []
stack_lacks [] none = refl
stack_lacks (n ∷ ns) none = absurd (true_false (sym (ap not (ne_eqb (suc (length ns)) 0 (λ e. omega (arith, e)))) ∙ none))
