-- Each object of a run was made in it.
use Rattle.std.proofs.Common.{◌≡◌, ℕ, ◌<◌, Bool, true, ◌==◌, List, [], ◌∷◌, ◌++◌, length, Option, Some, None, refl, subst, arith, inl, inr}
use Rattle.std.proofs.lemmas.Bool.{eq-eqb, eqb-true, ne_eqb}
use Rattle.chord_base.specs.declared.value.Object.{Object}
use Rattle.chord_base.specs.declared.value.Value as value
use Rattle.chord_base.specs.declared.value.Value.TheVariants as a_value
use Rattle.chord_base.specs.declared.event.End.{End}
use Rattle.chord_base.specs.declared.event.End.TheVariants.{Gives, Traps}
use Rattle.chord_base.specs.declared.event.What.{What}
use Rattle.chord_base.specs.declared.event.What.TheVariants.{Begun, Made, Sent, Called, Printed, Fired, Ended}
use Rattle.chord_base.specs.declared.event.Entry.{Entry}
use Rattle.chord_base.specs.Meaning.{HaveMethods, Start, Main, Chord, Asked, Program}
use Rattle.chord_base.specs.Messages.{Message, message_of, members_of, has, pending, maker}
use Rattle.chord_base.specs.Bodies.{Doing, Absent, Unplaced, Ready, Waits, Over, replied, waiting, served, placed, begun_by, begun, own, answered, heard, doing, serves, asked}
use Rattle.chord_base.specs.Machine.{IsPast, Comes, Takes}
use Rattle.chord_base.specs.Story.{AllBelow}
use Rattle.chord_base.proofs.Waits.{either}
use Rattle.chord_base.proofs.Merged.{past_below}
use Rattle.chord_base.specs.Objects.{ValueAmong, ValuesAmong, EndAmong, EndsAmong, StartAmong, WhatAmong, IsTame, was_made, ObjectsWereMade}

-- what a body began with and was answered
abbrev pub DoingAmong : (Object → Bool) → Doing → Type 0
DoingAmong f (Ready s d rs) = StartAmong f s × EndsAmong f rs
DoingAmong f (Waits s d rs q l) = StartAmong f s × EndsAmong f rs
DoingAmong f Absent = Unit {0}
DoingAmong f Unplaced = Unit {0}
DoingAmong f (Over x) = Unit {0}

-- more objects
abbrev pub More : (Object → Bool) → (Object → Bool) → Type 0
More f g = (o : Object) → f o ≡ true → g o ≡ true

-- a value whose objects are all among some has them among more objects too
value_more : (f g : Object → Bool) → More f g → (v : value.Value) → ValueAmong f v → ValueAmong g v
value_more f g m (a_value.Ref o) a = m o a
value_more f g m a_value.Unit a = tt
value_more f g m (a_value.Int n) a = tt
value_more f g m (a_value.Flag b) a = tt
value_more f g m (a_value.Text t) a = tt

-- values whose objects are all among some have them among more objects too
values_more : (f g : Object → Bool) → More f g → (vs : List value.Value) → ValuesAmong f vs → ValuesAmong g vs
values_more f g m [] a = tt
values_more f g m (v ∷ vs) a = (value_more f g m v a.0, values_more f g m vs a.1)

-- an end whose object is among some has it among more objects too
end_more : (f g : Object → Bool) → More f g → (x : End) → EndAmong f x → EndAmong g x
end_more f g m (Gives v) a = value_more f g m v a
end_more f g m (Traps t) a = tt

-- ends whose objects are all among some have them among more objects too
ends_more : (f g : Object → Bool) → More f g → (rs : List End) → EndsAmong f rs → EndsAmong g rs
ends_more f g m [] a = tt
ends_more f g m (r ∷ rs) a = (end_more f g m r a.0, ends_more f g m rs a.1)

-- a start whose objects are all among some has them among more objects too
start_more : (f g : Object → Bool) → More f g → (s : Start) → StartAmong f s → StartAmong g s
start_more f g m Main a = tt
start_more f g m (Chord k o vs) a = (m o a.0, values_more f g m vs a.1)

-- a body that began with, and was answered, only objects among some has them among more objects too
doing_more : (f g : Object → Bool) → More f g → (d : Doing) → DoingAmong f d → DoingAmong g d
doing_more f g m (Ready s d rs) a = (start_more f g m s a.0, ends_more f g m rs a.1)
doing_more f g m (Waits s d rs q l) a = (start_more f g m s a.0, ends_more f g m rs a.1)
doing_more f g m Absent a = tt
doing_more f g m Unplaced a = tt
doing_more f g m (Over x) a = tt

-- the objects of some ends and of one more after them are among these, where those of both are
ends_last : (f : Object → Bool) (rs : List End) (x : End) → EndsAmong f rs → EndAmong f x → EndsAmong f (rs ++ x ∷ [])
ends_last f [] x a b = (b, tt)
ends_last f (r ∷ rs) x a b = (a.0, ends_last f rs x a.1 b)

-- the objects of two lists of values, one behind the other, are among these, where those of both are
values_laid : (f : Object → Bool) (us vs : List value.Value) → ValuesAmong f us → ValuesAmong f vs → ValuesAmong f (us ++ vs)
values_laid f [] vs a b = b
values_laid f (u ∷ us) vs a b = (a.0, values_laid f us vs a.1 b)

-- a body that gets an answer of these objects still has only these objects
replied_among : (f : Object → Bool) (x : End) (d : Doing) → EndAmong f x → DoingAmong f d → DoingAmong f (replied x d)
replied_among f x (Ready s d rs) e a = (a.0, ends_last f rs x a.1 e)
replied_among f x (Waits s d rs q l) e a = (a.0, ends_last f rs x a.1 e)
replied_among f x Absent e a = tt
replied_among f x Unplaced e a = tt
replied_among f x (Over y) e a = tt

-- a body that makes a call still has only these objects
waiting_among : (f : Object → Bool) (p : Program) (n : ℕ) (d : Doing) → DoingAmong f d → DoingAmong f (waiting p n d)
waiting_among f p n (Ready s d rs) a = a
waiting_among f p n (Waits s d rs q l) a = a
waiting_among f p n Absent a = tt
waiting_among f p n Unplaced a = tt
waiting_among f p n (Over y) a = tt

-- a body that may be answered by an end of these objects still has only these objects
answered_among : (f : Object → Bool) (x : End) (c : Option ℕ) (d : Doing) → EndAmong f x → DoingAmong f d → DoingAmong f (answered x c d)
answered_among f x None d e a = a
answered_among f x (Some c) (Waits s d rs q l) e a = elim (either (c == q)) [ inl y ↦ rw y (a.0, ends_last f rs x a.1 e) | inr o ↦ rw o a ]
answered_among f x (Some c) (Ready s d rs) e a = a
answered_among f x (Some c) Absent e a = tt
answered_among f x (Some c) Unplaced e a = tt
answered_among f x (Some c) (Over y) e a = tt

-- after an entry of another body of these objects a body still has only these objects
heard_among : (f : Object → Bool) (w : What) (c : Option ℕ) (d : Doing) → WhatAmong f w → DoingAmong f d → DoingAmong f (heard w c d)
heard_among f (Ended x) c d e a = answered_among f x c d e a
heard_among f Begun c d e a = a
heard_among f (Made k) c d e a = a
heard_among f (Sent o j vs) c d e a = a
heard_among f (Called o j vs) c d e a = a
heard_among f (Printed t) c d e a = a
heard_among f (Fired k o ms vs) c d e a = a

-- a body that starts with these objects one deeper than its caller, or lacks its call, has only these objects
placed_among : (f : Object → Bool) (s : Start) (q : ℕ) (d : Doing) → StartAmong f s → DoingAmong f (placed s q d)
placed_among f s q (Waits s' d rs q' l) a = elim (either (q == q')) [ inl y ↦ rw y (a, tt) | inr o ↦ rw o tt ]
placed_among f s q (Ready s' d rs) a = tt
placed_among f s q Absent a = tt
placed_among f s q Unplaced a = tt
placed_among f s q (Over x) a = tt

-- a body that starts with these objects to serve a call, whether the call has a maker or not, has only these objects
begun_by_among : (f : Object → Bool) (s : Start) (q : ℕ) (b : Option ℕ) (g : ℕ → Doing) → StartAmong f s → DoingAmong f (begun_by s q b g)
begun_by_among f s q None g a = tt
begun_by_among f s q (Some b) g a = placed_among f s q (g b) a

-- a body that starts with these objects has only these objects
begun_among : (f : Object → Bool) (s : Start) (c : Option ℕ) (m : ℕ → Option ℕ) (g : ℕ → Doing) → StartAmong f s → DoingAmong f (begun s c m g)
begun_among f s None m g a = (a, tt)
begun_among f s (Some q) m g a = begun_by_among f s q (m q) g a

-- the object of this number and class is one of these, if the entry makes it
abbrev pub Gets : (Object → Bool) → ℕ → What → Type 0
Gets f n w = (c : ℕ) → w ≡ Made c → f (record { number = n; class = c }) ≡ true

-- after an entry of its own a body has only these objects, if those of the entry, the one that it makes, and the body's before are among them
own_among : (f : Object → Bool) (p : Program) (n : ℕ) (w : What) (m : ℕ → Option ℕ) (g : ℕ → Doing) (d : Doing) → WhatAmong f w → Gets f n w → DoingAmong f d → DoingAmong f (own p n w m g d)
own_among f p n Begun m g d e k a = (tt, tt)
own_among f p n (Fired k o ms vs) m g d e k' a = begun_among f (Chord k o vs) (served p (Fired k o ms vs)) m g e
own_among f p n (Made c) m g d e k a = replied_among f (Gives (a_value.Ref (record { number = n; class = c }))) d (k c refl) a
own_among f p n (Sent o j vs) m g d e k a = replied_among f (Gives a_value.Unit) d tt a
own_among f p n (Printed t) m g d e k a = replied_among f (Gives a_value.Unit) d tt a
own_among f p n (Called o j vs) m g d e k a = waiting_among f p n d a
own_among f p n (Ended x) m g d e k a = tt

-- the objects of a message are all among these
abbrev pub MessageAmong : (Object → Bool) → Message → Type 0
MessageAmong f m = (f m.object ≡ true) × ValuesAmong f m.arguments

-- what holds after each run
pub record AllMade (p : Program) (h : List Entry) : Type 0 where
  pub messages : (n : ℕ) (m : Message) → pending n h ≡ Some m → MessageAmong (was_made h) m
  pub bodies : (b : ℕ) → DoingAmong (was_made h) (doing p h b)

-- an object that a history made has a number below each bound of the history's numbers
made_before : (n : ℕ) (h : List Entry) (o : Object) → AllBelow n h → was_made h o ≡ true → o.number < n
made_before n [] o a e = cc
made_before n (x ∷ h) o a e = elim (either (x.number == o.number)) [ inl y ↦ subst (λ z. z < n) (eqb-true x.number o.number y) a.0 | inr f ↦ made_before n h o a.1 (rw f at e) ]

-- what was made in a history was made in it with one more entry of a larger number, too
made_more : (e : Entry) (h : List Entry) → AllBelow e.number h → More (was_made h) (was_made (e ∷ h))
made_more e h a o m = (let l = made_before e.number h o a m in rw (ne_eqb e.number o.number (λ i. omega (arith, i, l))) m)

-- no message is no message that is there
none_is : (m : Message) → ◌≡◌ {A = Option Message} None (Some m) → ⊥
none_is m e = cc

-- two things are equal where both are there as equal options
same_some : {A : Type 0} (x y : A) → Some x ≡ Some y → x ≡ y
same_some x y e = cc

-- the objects of the message that an entry sends are among those of what the entry says
sent_among : (f : Object → Bool) (w : What) (m : Message) → WhatAmong f w → message_of w ≡ Some m → MessageAmong f m
sent_among f (Sent o j vs) m a e = subst (MessageAmong f) (same_some (record { object = o; method = j; arguments = vs }) m e) a
sent_among f (Called o j vs) m a e = subst (MessageAmong f) (same_some (record { object = o; method = j; arguments = vs }) m e) a
sent_among f Begun m a e = absurd (none_is m e)
sent_among f (Made c) m a e = absurd (none_is m e)
sent_among f (Printed t) m a e = absurd (none_is m e)
sent_among f (Fired k o ms vs) m a e = absurd (none_is m e)
sent_among f (Ended x) m a e = absurd (none_is m e)

-- a message whose objects are all among some has them among more objects too
message_more : (f g : Object → Bool) → More f g → (m : Message) → MessageAmong f m → MessageAmong g m
message_more f g k m a = (k m.object a.0, values_more f g k m.arguments a.1)

-- what an entry says, whose objects are all among some, has them among more objects too
what_more : (f g : Object → Bool) → More f g → (w : What) → WhatAmong f w → WhatAmong g w
what_more f g k (Sent o j vs) a = (k o a.0, values_more f g k vs a.1)
what_more f g k (Called o j vs) a = (k o a.0, values_more f g k vs a.1)
what_more f g k (Fired c o ms vs) a = (k o a.0, values_more f g k vs a.1)
what_more f g k (Ended x) a = end_more f g k x a
what_more f g k Begun a = tt
what_more f g k (Made c) a = tt
what_more f g k (Printed t) a = tt

-- what a chord takes
taken_among : (p : Program) (h : List Entry) → AllMade p h → (o : Object) (js ms : List ℕ) (vs : List value.Value) → Takes h o js ms vs → ValuesAmong (was_made h) vs
taken_among p h all o [] [] vs t = rw t tt
taken_among p h all o [] (i ∷ ms) vs t = absurd t
taken_among p h all o (j ∷ js) [] vs t = absurd t
taken_among p h all o (j ∷ js) (i ∷ ms) vs t =
    rw t.3 (values_laid (was_made h) t.0 t.1 (all.messages i (record { object = o; method = j; arguments = t.0 }) t.2).1 (taken_among p h all o js ms t.1 t.4))

-- the object of a firing whose chord has a method was made, where all objects of the history were
object_among : (p : Program) (h : List Entry) → AllMade p h → (o : Object) (js ms : List ℕ) (vs : List value.Value) → 0 < length js → Takes h o js ms vs → was_made h o ≡ true
object_among p h all o [] ms vs l t = absurd (omega (arith, l))
object_among p h all o (j ∷ js) [] vs l t = absurd t
object_among p h all o (j ∷ js) (i ∷ ms) vs l t = (all.messages i (record { object = o; method = j; arguments = t.0 }) t.2).0

-- a tame program asks only of the objects that the body has
asked_among : (p : Program) → IsTame p → (f : Object → Bool) (d : Doing) (a : Asked) → DoingAmong f d → asked p d ≡ Some a → WhatAmong f a.what
asked_among p tame f (Ready s d rs) a k e = tame f s d rs a k.0 k.1 e
asked_among p tame f (Waits s d rs q l) a k e = (let z : ◌≡◌ {A = Option Asked} None (Some a) = e in cc)
asked_among p tame f Absent a k e = (let z : ◌≡◌ {A = Option Asked} None (Some a) = e in cc)
asked_among p tame f Unplaced a k e = (let z : ◌≡◌ {A = Option Asked} None (Some a) = e in cc)
asked_among p tame f (Over x) a k e = (let z : ◌≡◌ {A = Option Asked} None (Some a) = e in cc)

-- what an entry that comes says, before it
comes_among : (p : Program) → IsTame p → HaveMethods p → (h : List Entry) → AllMade p h → (n b : ℕ) (w : What) → Comes p h n b w → WhatAmong (was_made h) w
comes_among p tame some h all n b Begun c = tt
comes_among p tame some h all n b (Fired k o ms vs) c =
    (object_among p h all o c.1.0 ms vs (some o.class k c.1.0 c.1.1) c.1.2, taken_among p h all o c.1.0 ms vs c.1.2)
comes_among p tame some h all n b (Made x) c = asked_among p tame (was_made h) (doing p h b) (record { what = Made x; depth = c.0 }) (all.bodies b) c.1
comes_among p tame some h all n b (Sent o j vs) c = asked_among p tame (was_made h) (doing p h b) (record { what = Sent o j vs; depth = c.0 }) (all.bodies b) c.1
comes_among p tame some h all n b (Called o j vs) c = asked_among p tame (was_made h) (doing p h b) (record { what = Called o j vs; depth = c.0 }) (all.bodies b) c.1
comes_among p tame some h all n b (Printed t) c = asked_among p tame (was_made h) (doing p h b) (record { what = Printed t; depth = c.0 }) (all.bodies b) c.1
comes_among p tame some h all n b (Ended x) c = asked_among p tame (was_made h) (doing p h b) (record { what = Ended x; depth = c.0 }) (all.bodies b) c.1

-- the object that the newest entry makes was made in the history with that entry
gets_made : (e : Entry) (h : List Entry) → Gets (was_made (e ∷ h)) e.number e.what
gets_made e h = λ c is. rw (eq-eqb e.number e.number refl, is, eq-eqb c c refl) refl

-- in a run every object of an entry was made before it
pub all_made : (p : Program) → IsTame p → HaveMethods p → (h : List Entry) → IsPast p h → AllMade p h
all_made p tame some [] past = record { messages = λ n m e. absurd (none_is m e); bodies = λ b. tt }
all_made p tame some (e ∷ h) past =
    let all = all_made p tame some h past.0 in
    let below = past_below p h e.number past.0 (omega (arith, past.1.numbered)) in
    let f = was_made (e ∷ h) in
    let more : More (was_made h) f = made_more e h below in
    let what : WhatAmong f e.what = what_more (was_made h) f more e.what (comes_among p tame some h all e.number e.body e.what past.1.comes) in
    record {
      messages =
          λ n m is.
          elim (either (e.number == n)) [
            | inl y ↦ sent_among f e.what m what (rw y at is)
            | inr o ↦ elim (either (has n (members_of e.what))) [ inl y ↦ absurd (none_is m (rw (o, y) at is)) | inr q ↦ message_more (was_made h) f more m (all.messages n m (rw (o, q) at is)) ]
          ];
      bodies =
          λ b.
          elim (either (e.body == b)) [
            | inl y ↦ rw y (own_among f p e.number e.what (λ q. maker q h) (doing p h) (doing p h b) what (gets_made e h) (doing_more (was_made h) f more (doing p h b) (all.bodies b)))
            | inr o ↦ rw o (heard_among f e.what (serves p e.body h) (doing p h b) what (doing_more (was_made h) f more (doing p h b) (all.bodies b)))
          ];
    }

pub objects_were_made : ObjectsWereMade
objects_were_made p e h tame some past = comes_among p tame some h (all_made p tame some h past.0) e.number e.body e.what past.1.comes
