-- Bags have keys: which objects were made, and that one head is of one bag.
use Rattle.std.proofs.Common.{true, false, ◌≡◌, inl, inr, ⊎_elim, ℕ, ◌+◌, ◌*◌, ◌^◌, ◌<◌, List, [], ◌∷◌, length, refl, sym, ap, ◌∙◌, subst, arith, Option, Some, None}
use mathlib.Core.Path.{Path}
use Rattle.chord_base.specs.Meaning.{Program}
use Rattle.chord_base.specs.Machine.{IsPast}
use Rattle.chord_base.specs.Messages.{Message, message_of}
use Rattle.chord_base.specs.Story.{IsIn}
use Rattle.chord_base.specs.declared.value.Object.{Object}
use Rattle.chord_base.specs.declared.event.What.{What}
use Rattle.chord_base.specs.declared.event.What.TheVariants.{Begun, Made, Sent, Called, Printed, Fired, Ended}
use Rattle.chord_base.specs.declared.event.Entry.{Entry}
use Rattle.chord_word.specs.declared.cells.Word.{Word}
use Rattle.chord_rule.specs.Bags.{LinkOrder, head_number, BagLaw}
use Rattle.chord_rule.specs.Made.{Names, IsMade, AreMade, key, IsKey}
use Rattle.chord_rule.specs.Heads.{HeadLaw}
use Rattle.chord_rule.proofs.Puts.{put, put_all}
use Rattle.chord_rule.proofs.Keys.{more_keys}
use Rattle.chord_rule.proofs.Waiting.{what_is, what_entry, pending_was}
use Rattle.chord_base.specs.Machine.{Fires, Takes}
use Rattle.chord_base.specs.Messages.{has}
use Rattle.chord_base.specs.declared.value.Value as value
use Rattle.chord_rule.specs.Made.{IsTabled}
use Rattle.chord_rule.specs.Stages.{said_at, message_in}
use Rattle.chord_rule.proofs.ParcelSteps.{same_entry}

-- an object that was made stays so after one more entry
made_more : (e : Entry) (h : List Entry) (o : Object) → IsMade h o → IsMade (e ∷ h) o
made_more e h o t = (t.0, inr t.1, t.2, t.3)

-- an object that an entry of the history names was made
pub made_in : (h : List Entry) (e : Entry) (o : Object) → AreMade h → IsIn e h → Names e.what o → IsMade h o
made_in [] e o a i n = absurd i
made_in (x ∷ h) e o a i n = ⊎_elim (λ q. made_more x h o (a.1 o (subst (λ (y : Entry). Names y.what o) q n))) (λ k. made_more x h o (made_in h e o a.0 k n)) i

-- an entry names the object of the message that it sends
pub message_names : (w : What) (x : Message) → message_of w ≡ Some x → Names w x.object
message_names (Sent o j vs) x e = inl (let z : record { object = o; method = j; arguments = vs } ≡ x = cc in ap (λ (y : Message). y.object) z)
message_names (Called o j vs) x e = inl (let z : record { object = o; method = j; arguments = vs } ≡ x = cc in ap (λ (y : Message). y.object) z)
message_names Begun x e = absurd (let z : Path (Option Message) None (Some x) = e in cc)
message_names (Made c) x e = absurd (let z : Path (Option Message) None (Some x) = e in cc)
message_names (Printed t) x e = absurd (let z : Path (Option Message) None (Some x) = e in cc)
message_names (Fired k o ms vs) x e = absurd (let z : Path (Option Message) None (Some x) = e in cc)
message_names (Ended t) x e = absurd (let z : Path (Option Message) None (Some x) = e in cc)

-- an object that was made in a past has a number below its length
pub made_low : (p : Program) (h : List Entry) (o : Object) → IsPast p h → IsMade h o → o.number < length h
made_low p h o r t = let l = (what_is p h t.0 r t.1).1 in let q = t.2 in omega arith

-- the objects that the newest entry of a past names have numbers below its own
pub names_low : (p : Program) (e : Entry) (h : List Entry) → IsTabled p → IsPast p (e ∷ h) → (o : Object) → Names e.what o → o.number < length h
names_low p e h tabled past o names = made_low p h o past.0 ((tabled.made (e ∷ h) past).1 o names)

-- the object of a firing was made
pub fires_low : (p : Program) (h : List Entry) → IsTabled p → IsPast p h → (k : ℕ) (o : Object) (ms : List ℕ) (vs : List value.Value) → Fires p h k o ms vs → o.number < length h
fires_low p h tabled past k o ms vs f = first f.0 ms vs (tabled.some_method o.class k f.0 f.1) f.2
  where
    with_entry : (i : ℕ) (x : Message) (w : Option What) → said_at i h ≡ w → message_in w ≡ Some x → x.object.number < length h
    with_entry i x None e s = absurd (let z : Path (Option Message) None (Some x) = s in cc)
    with_entry i x (Some w) e s = let t = what_entry h i w e in made_low p h x.object past (made_in h t.0 x.object (tabled.made h past) t.1 (message_names t.0.what x (ap message_of t.3 ∙ s)))

    first : (js ms : List ℕ) (vs : List value.Value) → (j : ℕ) × (has j js ≡ true) → Takes h o js ms vs → o.number < length h
    first [] ms vs j t = absurd (let z : false ≡ true = j.1 in cc)
    first (j ∷ js) [] vs r t = absurd t
    first (j ∷ js) (i ∷ ms) vs r t = let x : Message = record { object = o; method = j; arguments = t.0 } in with_entry i x (said_at i h) refl (pending_was p h i x past t.2).0

-- the head of a bag
pub head_key : (o : Object) (j : ℕ) → o.number < 65536 → j < 16 → head_number (key o j) ≡ 16 * o.number + j
head_key o j l k = omega arith

-- a class that was made
made_class : (w : What) (c d : ℕ) → w ≡ Made c → w ≡ Made d → c ≡ d
made_class w c d a b = let z : Made c ≡ Made d = sym a ∙ b in cc

-- one head is of one bag
pub one_key : (p : Program) (h : List Entry) → IsPast p h → (k l : ℕ) → IsKey h k → IsKey h l → head_number k ≡ head_number l → k ≡ l
one_key p h r k l a b e =
    let x = head_key a.0 a.1 a.3 a.4 in let y = head_key b.0 b.1 b.3 b.4 in
    let head : head_number (key a.0 a.1) ≡ head_number (key b.0 b.1) = ap head_number (sym a.5) ∙ e ∙ ap head_number b.5 in
    let both : 16 * a.0.number + a.1 ≡ 16 * b.0.number + b.1 = sym x ∙ head ∙ y in
    let j = a.4 in let i = b.4 in
    let method : a.1 ≡ b.1 = omega (arith, both, j, i) in
    let number : a.0.number ≡ b.0.number = omega (arith, both, j, i) in
    let entry = same_entry p h a.2.0 b.2.0 r a.2.1 b.2.1 (a.2.2 ∙ number ∙ sym b.2.2) in
    let class : a.0.class ≡ b.0.class = made_class a.2.0.what a.0.class b.0.class a.2.3 (ap (λ (z : Entry). z.what) entry ∙ b.2.3) in
    a.5 ∙ (λ z. 16 * number z + method z + 2 ^ 20 * class z) ∙ sym b.5

-- a key is that of one object and method
pub same_key : (o q : Object) (j k : ℕ) → o.number < 65536 → j < 16 → q.number < 65536 → k < 16 → key o j ≡ key q k → (o ≡ q) × (j ≡ k)
same_key o q j k a b c d e =
    let number : o.number ≡ q.number = omega (arith, a, b, c, d, e) in
    let class : o.class ≡ q.class = omega (arith, a, b, c, d, e) in
    ((λ z. record { number = number z; class = class z }), omega (arith, a, b, c, d, e))

-- a bag stays a bag after one more entry
pub key_more : (e : Entry) (h : List Entry) (k : ℕ) → IsKey h k → IsKey (e ∷ h) k
key_more e h k t = (t.0, t.1, made_more e h t.0 t.2, t.3, t.4, t.5)

module _ (cells : ℕ → Word) (heads : ℕ → Option ℕ) (o : LinkOrder) where
  -- an entry is drawn: the bags of an object that it makes are empty
  pub bags_draw : (p : Program) (h : List Entry) (e : Entry) → IsPast p h → e.number ≡ length h → HeadLaw (IsKey h) heads → BagLaw (IsKey h) cells heads o → BagLaw (IsKey (e ∷ h)) cells heads o
  bags_draw p h e r num bare law = more_keys (IsKey h) (IsKey (e ∷ h)) cells heads o (key_more e h)
      (λ k t. ⊎_elim
      (λ q. inr (apart k t q, none_there k t q (heads (head_number k)) refl))
      (λ old. inl (t.0, t.1, (t.2.0, old, t.2.2, t.2.3), t.3, t.4, t.5)) t.2.1)
      law
    where
      -- another object of this number was not made
      apart : (k : ℕ) (t : IsKey (e ∷ h) k) → t.2.0 ≡ e → IsKey h k → ⊥
      apart k t q s =
          let head : head_number (key t.0 t.1) ≡ head_number (key s.0 s.1) = ap head_number (sym t.5 ∙ s.5) in
          let both : 16 * t.0.number + t.1 ≡ 16 * s.0.number + s.1 = sym (head_key t.0 t.1 t.3 t.4) ∙ head ∙ head_key s.0 s.1 s.3 s.4 in
          let low = made_low p h s.0 r s.2 in let is = ap (λ (z : Entry). z.number) q in let n = t.2.2 in let i = t.4 in let j = s.4 in omega (arith, both, low, is, n, num, i, j)

      none_there : (k : ℕ) (t : IsKey (e ∷ h) k) → t.2.0 ≡ e → (x : Option ℕ) → heads (head_number k) ≡ x → x ≡ None
      none_there k t q None a = refl
      none_there k t q (Some x) a =
          let s = bare.keyed (head_number k) x a in
          let both : 16 * t.0.number + t.1 ≡ 16 * s.1.0.number + s.1.1 = sym (head_key t.0 t.1 t.3 t.4) ∙ ap head_number (sym t.5) ∙ sym s.2 ∙ ap head_number s.1.5 ∙ head_key s.1.0 s.1.1 s.1.3 s.1.4 in
          let low = made_low p h s.1.0 r s.1.2 in let is = ap (λ (z : Entry). z.number) q in let n = t.2.2 in let i = t.4 in let j = s.1.4 in absurd (omega (arith, both, low, is, n, num, i, j))

  -- and heads stay those of bags
  pub heads_draw : (h : List Entry) (e : Entry) → HeadLaw (IsKey h) heads → HeadLaw (IsKey (e ∷ h)) heads
  heads_draw h e bare = record { keyed = λ i x s. let t = bare.keyed i x s in (t.0, key_more e h t.0 t.1, t.2) }

-- a message is linked at the head of its bag
pub heads_link : (IsKey : ℕ → Type 0) (heads : ℕ → Option ℕ) (k i : ℕ) → IsKey k → HeadLaw IsKey heads → HeadLaw IsKey (put heads (head_number k) (Some i))
heads_link IsKey heads k i is bare = record {
  keyed = λ j x s. put_all heads (head_number k) (Some i) (λ j y. y ≡ Some x → (l : ℕ) × IsKey l × (head_number l ≡ j)) j (λ _. (k, is, refl)) (λ ne t. bare.keyed j x t) s;
}
