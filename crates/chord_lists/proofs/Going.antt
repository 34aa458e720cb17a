-- Whether a run of a code may go on.
use Rattle.std.proofs.Common.{◌≡◌, ℕ, zero, suc, ◌+◌, ◌<◌, ◌≤◌, Bool, true, false, ◌==◌, List, [], ◌∷◌, ◌++◌, length, Option, Some, None, refl, sym, ap, ◌∙◌, subst, arith, inl, inr, reverse, take, drop, get_or, ⊎_elim}
use Rattle.std.specs.Prelude.{slice_get, if◌then◌else◌}
use Rattle.std.proofs.lemmas.List.{reverse-append, reverse-reverse, take_more, length-reverse}
use Rattle.std.proofs.lemmas.Bool.{eqb-true, eqb-false, cases_lt}
use Rattle.chord_base.specs.declared.value.Object.{Object}
use Rattle.chord_base.specs.declared.value.Value.{Value}
use Rattle.chord_base.specs.declared.event.What.{What}
use Rattle.chord_base.specs.declared.event.What.TheVariants.{Begun, Made, Sent, Called, Printed, Fired, Ended}
use Rattle.chord_base.specs.declared.event.Entry.{Entry}
use Rattle.chord_base.specs.declared.event.Limits.{Limits}
use Rattle.chord_base.specs.Meaning.{Program}
use Rattle.chord_base.specs.Messages.{Message, message_of, pending}
use Rattle.chord_base.specs.Bodies.{Asks}
use Rattle.chord_base.specs.Bounds.{AreWithin}
use Rattle.chord_base.specs.Machine.{Takes, MayFollow, Comes, IsPast, IsFinal, NoneFires}
use Rattle.chord_base.specs.Meaning.{HaveMethods}
use Rattle.chord_base.proofs.Waits.{either}
use Rattle.chord_base.proofs.Final.{own_comes, final_when}
use Rattle.chord_base.proofs.Merged.{merged_asks}
use Rattle.chord_code.specs.declared.parts.Parts.{Parts}
use Rattle.chord_code.specs.Meaning.{code_program}
use Rattle.chord_task.proofs.Asking.{ready_can}
use Rattle.chord_lists.specs.Engine.{main_begun, fired, IsRunOfLength}
use Rattle.chord_lists.specs.declared.code_bodies.CodeBodies.{CodeBodies}
use Rattle.chord_lists.specs.Bag.{Address, address_to, HasMessages, Lists}
use Rattle.chord_lists.specs.CodeStands.{past_of, views, entry_message, message_at, ready_at, StandsAfter}
use Rattle.chord_lists.specs.CodeGoes.{IsNoted, message_left, is_taken, MarksTaken, CanFire, FiresAt, LacksAt}
use Rattle.chord_lists.proofs.Bags.{lists_none, lists_on, lists_more, message_to}
use Rattle.chord_lists.proofs.Taking.{lacks_fires}
use Rattle.chord_lists.proofs.PendingEntries.{pending_entry}
use Rattle.chord_lists.proofs.Spots.{one_some, nothing_some, has_first}
use Rattle.chord_lists.proofs.CodeSteps.{stands_merged, ready_task}
use Rattle.chord_lists.proofs.CodeOver.{none_asks}

-- ---- the entries of a run

-- an older part of a run is a run
pub past_tail : (p : Program) (xs ys : List Entry) → IsPast p (xs ++ ys) → IsPast p ys
past_tail p [] ys r = r
past_tail p (x ∷ xs) ys r = past_tail p xs ys r.0

-- an older part of a history within bounds is within bounds
pub within_tail : (xs ys : List Entry) → AreWithin (xs ++ ys) → AreWithin ys
within_tail [] ys w = w
within_tail (x ∷ xs) ys w = within_tail xs ys w.0

-- a list is its first items and the rest
take_drop : (es : List Entry) (k : ℕ) → es ≡ take k es ++ drop k es
take_drop es zero = refl
take_drop [] (suc k) = refl
take_drop (e ∷ es) (suc k) = ap (λ l. e ∷ l) (take_drop es k)

-- a list turned round is its rest turned round, and then its first items turned round
reverse_parts : (es : List Entry) (k : ℕ) → reverse es ≡ reverse (drop k es) ++ reverse (take k es)
reverse_parts es k = ap reverse (take_drop es k) ∙ reverse-append (take k es) (drop k es)

-- as many items are taken as there are
take_all : (es : List Entry) (k : ℕ) → k ≤ length es → length (take k es) ≡ k
take_all es zero l = refl
take_all [] (suc k) l = absurd (omega (arith, l))
take_all (e ∷ es) (suc k) l = ap suc (take_all es k (omega (arith, l)))

-- the first entries, and the next
pub more_is : (es : List Entry) (k : ℕ) (x : Entry) → k < length es → x ≡ get_or es k x → reverse (take (k + 1) es) ≡ x ∷ reverse (take k es)
more_is es k x l is = ap reverse (take_more es k x l) ∙ reverse-append (take k es) (get_or es k x ∷ []) ∙ ap (λ e. e ∷ reverse (take k es)) (sym is)

-- an entry and those before it are within bounds if all are
within_next : (es : List Entry) (k : ℕ) (x : Entry) → k < length es → x ≡ get_or es k x → AreWithin (reverse es) → AreWithin (x ∷ reverse (take k es))
within_next es k x l is w = subst AreWithin (more_is es k x l is) (within_tail (reverse (drop (k + 1) es)) (reverse (take (k + 1) es)) (subst AreWithin (reverse_parts es (k + 1)) w))

-- the first entries are as many as were taken
pub first_length : (es : List Entry) (k : ℕ) → k ≤ length es → length (reverse (take k es)) ≡ k
first_length es k l = length-reverse (take k es) ∙ take_all es k l

-- an entry has the number of its place
pub number_at : (es : List Entry) (k : ℕ) (x : Entry) → k < length es → x ≡ get_or es k x → AreWithin (reverse es) → x.number ≡ k
number_at es k x l is w = (within_next es k x l is w).1 ∙ first_length es k (omega (arith, l))

-- the first entries of a run, and the next
pub record NextEntry (p : Program) (es : List Entry) (k : ℕ) (x : Entry) : Type 0 where
  pub more : reverse (take (k + 1) es) ≡ x ∷ reverse (take k es)
  pub played : IsRunOfLength p x.number (reverse (take k es))
  pub follows : MayFollow p (reverse (take k es)) x
  pub within : AreWithin (x ∷ reverse (take k es))
  pub number : x.number ≡ k

-- of a run, the entry of a place may follow those before it
pub next_entry : (p : Program) (es : List Entry) (k : ℕ) (x : Entry) → k < length es → x ≡ get_or es k x → IsPast p (reverse es) → AreWithin (reverse es) → NextEntry p es k x
next_entry p es k x l is r w =
    let more = more_is es k x l is in
    let past : IsPast p (x ∷ reverse (take k es)) = subst (IsPast p) more (past_tail p (reverse (drop (k + 1) es)) (reverse (take (k + 1) es)) (subst (IsPast p) (reverse_parts es (k + 1)) r)) in
    let within = within_next es k x l is w in
    record {
      more = more;
      played = record { past = past.0; within = within.0; so_long = sym within.1 };
      follows = past.1;
      within = within;
      number = number_at es k x l is w;
    }

-- the first entry of a run begins `Main`
pub first_begun : (p : Program) (e : Entry) → HaveMethods p → IsPast p (e ∷ []) → e ∷ [] ≡ main_begun
first_begun p e some r = by_what e.what refl r.1.comes
  where
    nothing_asked : (w : What) → Asks p [] e.body w → e ∷ [] ≡ main_begun
    nothing_asked w a = nothing_some (record { what = w; depth = a.0 }) a.1

    none_taken : (o : Object) (js ms : List ℕ) (vs : List Value) → 0 < length js → Takes [] o js ms vs → ⊥
    none_taken o [] ms vs l t = omega (arith, l)
    none_taken o (j ∷ js) [] vs l t = t
    none_taken o (j ∷ js) (i ∷ ms) vs l t = nothing_some (record { object = o; method = j; arguments = t.0 }) t.2

    by_what : (w : What) → e.what ≡ w → Comes p [] e.number e.body w → e ∷ [] ≡ main_begun
    by_what Begun i c = ap (λ n. record { number = n; body = e.body; what = e.what } ∷ []) r.1.numbered ∙ ap (λ b. record { number = 0; body = b; what = e.what } ∷ []) c.1 ∙ ap (λ w. record { number = 0; body = 0; what = w } ∷ []) i
    by_what (Fired k o ms vs) i c = let f = c.1 in absurd (none_taken o f.0 ms vs (some o.class k f.0 f.1) f.2)
    by_what (Made k) i c = nothing_asked (Made k) c
    by_what (Sent o j vs) i c = nothing_asked (Sent o j vs) c
    by_what (Called o j vs) i c = nothing_asked (Called o j vs) c
    by_what (Printed t) i c = nothing_asked (Printed t) c
    by_what (Ended x) i c = nothing_asked (Ended x) c

-- a run begins with the entry that begins `Main`
pub begun_first : (p : Program) (es : List Entry) → 0 < length es → HaveMethods p → IsPast p (reverse es) → main_begun ≡ reverse (take 1 es)
begun_first p [] l some r = absurd (omega (arith, l))
begun_first p (e ∷ es) l some r = sym (first_begun p e some (past_tail p (reverse es) (e ∷ []) (subst (IsPast p) (reverse_parts (e ∷ es) 1) r)))

-- ---- the bag of the pending messages

-- the messages of numbers below this one
abbrev pub early : ℕ → (ℕ → Option Message) → ℕ → Option Message
early zero f i = None
early (suc k) f i = if k == i then f k else early k f i

-- a bound above all messages takes none away
early_all : (k : ℕ) (f : ℕ → Option Message) (i : ℕ) → (k ≤ i → f i ≡ None) → early k f i ≡ f i
early_all zero f i n = sym (n (omega arith))
early_all (suc k) f i n =
    elim (either (k == i)) [
      | inl y ↦ rw y (ap f (eqb-true k i y))
      | inr o ↦ rw o (early_all k f i (λ l. n (let d = eqb-false k i o in omega (arith, l, d))))
    ]

-- an empty bag lists the messages below number 0
pub lists_early : (index : Address → List ℕ) (f : ℕ → Option Message) → ((k : Address) → index k ≡ []) → Lists (early 0 f) 0 index
lists_early index f e = lists_none (λ i. None) 0 index (λ i. refl) e

-- a number that is no pending message
pub lists_pass : (f : ℕ → Option Message) (n : ℕ) (index : Address → List ℕ) → Lists (early n f) n index → f n ≡ None → Lists (early (n + 1) f) (n + 1) index
lists_pass f n index s e =
    let next : suc n ≡ n + 1 = omega arith in
    subst (λ k. Lists (early k f) k index) next (subst (λ x. Lists (λ i. if n == i then x else early n f i) (suc n) index) (sym e) (lists_on (early n f) n index s))

-- a number that is one
pub lists_noted : (f : ℕ → Option Message) (n : ℕ) (old new : Address → List ℕ) (m : Message) → Lists (early n f) n old → f n ≡ Some m → IsNoted n (Some m) old new → Lists (early (n + 1) f) (n + 1) new
lists_noted f n old new m s e p =
    let next : suc n ≡ n + 1 = omega arith in
    subst (λ k. Lists (early k f) k new) next (subst (λ x. Lists (λ i. if n == i then x else early n f i) (suc n) new) (sym e) (lists_more (early n f) n old new m s p))

-- no message is pending of a number that no entry has yet
pending_past : (h : List Entry) (i : ℕ) → AreWithin h → length h ≤ i → pending i h ≡ None
pending_past h i w l = by_pending (pending i h) refl
  where
    by_pending : (o : Option Message) → pending i h ≡ o → pending i h ≡ None
    by_pending None e = e
    by_pending (Some m) e =
        let x = pending_entry h i m w e in
        let k = Rattle.std.proofs.lemmas.Option.slice_get_within (reverse h) i x.0 x.1 in
        let j = length-reverse h in
        absurd (omega (arith, k, j, l))

-- all are noted
pub lists_all : (h : List Entry) (n : ℕ) (index : Address → List ℕ) → AreWithin h → n ≡ length h → Lists (early n (λ i. pending i h)) n index → Lists (λ i. pending i h) n index
lists_all h n index w e s = subst (λ f. Lists f n index) (λ z i. early_all n (λ j. pending j h) i (λ l. pending_past h i w (omega (arith, e, l))) z) s

-- a number of which it is known whether it is pending
lists_either : (f : ℕ → Option Message) (n : ℕ) (old new : Address → List ℕ) (o : Option Message) → Lists (early n f) n old → f n ≡ o → IsNoted n o old new → Lists (early (n + 1) f) (n + 1) new
lists_either f n old new None s e p = subst (λ index. Lists (early (n + 1) f) (n + 1) index) (λ z k. sym (p k) z) (lists_pass f n old s e)
lists_either f n old new (Some m) s e p = lists_noted f n old new m s e p

-- one more number
pub lists_next : (taken : List Bool) (es : List Entry) (n : ℕ) (e : Entry) (b : Bool) (old new : Address → List ℕ) → MarksTaken taken es (reverse es) → slice_get es n ≡ Some e → is_taken taken n ≡ b → IsNoted n (message_left b (message_of e.what)) old new → Lists (early n (λ i. pending i (reverse es))) n old → Lists (early (n + 1) (λ i. pending i (reverse es))) (n + 1) new
lists_next taken es n e b old new a g is p s =
    let left : pending n (reverse es) ≡ message_left b (message_of e.what) = a.left n ∙ ap (λ z. message_left z (message_at es n)) is ∙ ap (λ o. message_left b (entry_message o)) g in
    lists_either (λ i. pending i (reverse es)) n old new (message_left b (message_of e.what)) s left p

-- ---- chords

-- messages to all methods of a chord are taken by a firing of it
all_taken : (h : List Entry) (n : ℕ) (index : Address → List ℕ) (o : Object) (js : List ℕ) → Lists (λ i. pending i h) n index → HasMessages o js index → (ms : List ℕ) × (vs : List Value) × Takes h o js ms vs
all_taken h n index o [] s a = ([], [], refl)
all_taken h n index o (j ∷ js) s a =
    let has = a.0 in
    let r = all_taken h n index o js s a.1 in
    let t = s.there (address_to o j) has.0 (ap (λ l. Rattle.chord_base.specs.Messages.has has.0 l) has.2 ∙ Rattle.chord_lists.proofs.Spots.has_first has.0 has.1) in
    let m = t.0 in
    (has.0 ∷ r.0, m.arguments ++ r.1, (m.arguments, r.1, t.1 ∙ ap Some (message_to m o j t.2), refl, r.2))

-- a chord to each of whose methods a message is in the bag may fire
pub can_fire : (p : Program) (h : List Entry) (n : ℕ) (index : Address → List ℕ) → Lists (λ i. pending i h) n index → FiresAt p index → CanFire p h
can_fire p h n index s f =
    let t = all_taken h n index f.0 f.2 s f.4 in
    (f.1, f.0, t.0, t.1, (f.2, f.3, t.2))

-- where each chord that has the method of a message lacks one, none fires
pub none_can : (p : Program) (es : List Entry) (n : ℕ) (index : Address → List ℕ) → HaveMethods p → AreWithin (reverse es) → Lists (λ i. pending i (reverse es)) n index → ((i : ℕ) (e : Entry) → slice_get es i ≡ Some e → LacksAt p index e) → NoneFires p (reverse es)
none_can p es n index some w s f k o ms vs fires = by_methods fires.0 ms (some o.class k fires.0 fires.1) fires.1 fires.2
  where
    by_methods : (js ms' : List ℕ) → 0 < length js → slice_get (p.chords o.class) k ≡ Some js → Takes (reverse es) o js ms' vs → ⊥
    by_methods [] ms' l c t = omega (arith, l)
    by_methods (j ∷ js) [] l c t = t
    by_methods (j ∷ js) (i ∷ ms') l c t =
        let m : Message = record { object = o; method = j; arguments = t.0 } in
        let y = pending_entry (reverse es) i m w t.2 in
        let g : slice_get es i ≡ Some y.0 = ap (λ x. slice_get x i) (sym (reverse-reverse es)) ∙ y.1 in
        let lacks = f i y.0 g m y.2 k (j ∷ js) c (has_first j js) in
        lacks_fires (reverse es) n index o (j ∷ js) (i ∷ ms') vs lacks.0 lacks.1 s lacks.2 lacks.3 t

-- ---- the answer

-- the entry that begins `Main` may follow no entry
pub begun_follows : (p : Program) → (e : Entry) × MayFollow p [] e
begun_follows p = (record { number = 0; body = 0; what = Begun }, record { numbered = refl; comes = (refl, refl) })

-- a task that may go on makes an entry
pub ready_follows : (code : Parts) (limits : Limits) (bodies : CodeBodies) (h : List Entry) (i : ℕ) → StandsAfter code limits bodies h → ready_at bodies.tasks.items i ≡ true → (e : Entry) × MayFollow (code_program code limits) h e
ready_follows code limits bodies h i s r =
    let p = code_program code limits in
    let t = ready_task bodies.tasks.items i r in
    let c = ready_can code limits t.0 (s.tasks i t.0 t.1) t.2 in
    let a = c.1 in
    let asks : Asks p (views bodies.tasks.items i) a.body c.0 = subst (λ x. Asks p x a.body c.0) (sym (ap past_of t.1)) a.asks in
    (record { number = length h; body = a.body; what = c.0 }, record { numbered = refl; comes = own_comes p h (length h) a.body c.0 a.own (merged_asks p (views bodies.tasks.items) h i a.body c.0 (stands_merged code limits bodies h s) asks) })

-- a chord that has all its messages fires
pub fire_follows : (p : Program) (h : List Entry) → CanFire p h → (e : Entry) × MayFollow p h e
fire_follows p h f = (fired (length h) f.0 f.1 f.2 f.3, record { numbered = refl; comes = (refl, f.4) })

-- else nothing follows
pub nothing_follows : (code : Parts) (limits : Limits) (bodies : CodeBodies) (h : List Entry) → StandsAfter code limits bodies h → 0 < length h → ((i : ℕ) → ready_at bodies.tasks.items i ≡ false) → NoneFires (code_program code limits) h → IsFinal (code_program code limits) h
nothing_follows code limits bodies h s some none f = final_when (code_program code limits) h s.past some (none_asks code limits bodies h s none) f

-- a list without items is empty, turned round too
pub no_entries : (es : List Entry) → length es ≡ 0 → reverse es ≡ []
no_entries [] e = refl
no_entries (x ∷ es) e = absurd (omega (arith, e))

-- one more entry whose method has only chords that lack a message
pub lacks_more : (p : Program) (index : Address → List ℕ) (es : List Entry) (k : ℕ) (x : Entry) → slice_get es k ≡ Some x → LacksAt p index x → ((i : ℕ) (e : Entry) → i < k → slice_get es i ≡ Some e → LacksAt p index e) → (i : ℕ) (e : Entry) → i < k + 1 → slice_get es i ≡ Some e → LacksAt p index e
lacks_more p index es k x g l before i e lt s =
    ⊎_elim (λ less. before i e less s)
    (λ le.
    let q : i ≡ k = omega (arith, le, lt) in
    let same : x ≡ e = one_some x e (slice_get es i) (ap (slice_get es) q ∙ g) s in
    subst (λ (z : Entry). LacksAt p index z) same l)
    (cases_lt i k)
