-- In a run the answers of a body are those of its entries.
use Rattle.std.proofs.Common.{◌≡◌, ℕ, ◌≤◌, false, ◌==◌, List, [], ◌∷◌, ◌++◌, length, reverse, Option, Some, None, refl, sym, ap, subst, arith, inl, inr}
use Rattle.std.proofs.lemmas.Bool.{eq-eqb, eqb-true, ne_eqb}
use Rattle.std.proofs.lemmas.List.{reverse-append}
use Rattle.chord_base.specs.declared.event.End.{End}
use Rattle.chord_base.specs.declared.event.What.{What}
use Rattle.chord_base.specs.declared.event.What.TheVariants.{Begun, Made, Sent, Called, Printed, Fired, Ended}
use Rattle.chord_base.specs.declared.event.Entry.{Entry}
use Rattle.chord_base.specs.Meaning.{Program, Start, Chord, Asked}
use Rattle.chord_base.specs.Messages.{IsCall, maker}
use Rattle.chord_base.specs.Bodies.{Doing, Absent, Unplaced, Ready, Waits, Over, replied, waiting, placed, begun, begun_by, served, own, answered, heard, doing, serves, asked}
use Rattle.chord_base.specs.Machine.{Comes, IsPast}
use Rattle.chord_base.specs.Served.{AreAnswered, IsAnswered, IsServed, later}
use Rattle.chord_base.specs.Laws.{AnswersBeforeCall, AnswersOfEntries}
use Rattle.chord_base.proofs.AskLists.{asks_entry, body_below, entry_within}
use Rattle.chord_base.proofs.Callers.{serves_entry, served_has}
use Rattle.chord_base.proofs.Waits.{either}

-- ---- one more entry

-- an answer stays one
answered_more : (e : Entry) (h : List Entry) (n : ℕ) (w : What) (x : End) → IsAnswered h n w x → IsAnswered (e ∷ h) n w x
answered_more e h n (Called o j vs) x a = record {
  firing = a.firing;
  there = inr a.there;
  took = a.took;
  ended = record { entry = a.ended.entry; there = inr a.ended.there; body = a.ended.body; ended = a.ended.ended };
}
answered_more e h n (Made c) x a = a
answered_more e h n (Sent o j vs) x a = a
answered_more e h n (Printed t) x a = a
answered_more e h n Begun x a = a
answered_more e h n (Fired k o ms vs) x a = a
answered_more e h n (Ended y) x a = a

-- answers stay so
all_more : (e : Entry) (h es : List Entry) (rs : List End) → AreAnswered h es rs → AreAnswered (e ∷ h) es rs
all_more e h [] [] a = a
all_more e h [] (r ∷ rs) a = a
all_more e h (i ∷ es) [] a = a
all_more e h (i ∷ es) (r ∷ rs) a = (answered_more e h i.number i.what r a.0, all_more e h es rs a.1)

-- the newest answer comes first
newest : (rs : List End) (x : End) → reverse (rs ++ x ∷ []) ≡ x ∷ reverse rs
newest rs x = reverse-append rs (x ∷ [])

-- what a body got is what its entries were answered; of one that waits, those before its call
abbrev IsAnsweredSoFar : List Entry → List Entry → Doing → Type 0
IsAnsweredSoFar h es (Ready s d rs) = AreAnswered h es (reverse rs)
IsAnsweredSoFar h es (Waits s d rs q l) = (c : Entry) × (before : List Entry) × (es ≡ c ∷ before) × IsCall q c × AreAnswered h before (reverse rs)
IsAnsweredSoFar h es Absent = Unit {0}
IsAnsweredSoFar h es Unplaced = Unit {0}
IsAnsweredSoFar h es (Over x) = Unit {0}

-- with one more entry in the history, what a body got still is what its entries were answered
state_more : (e : Entry) (h es : List Entry) (d : Doing) → IsAnsweredSoFar h es d → IsAnsweredSoFar (e ∷ h) es d
state_more e h es (Ready s d rs) a = all_more e h es (reverse rs) a
state_more e h es (Waits s d rs q l) a = (a.0, a.1, a.2, a.3, all_more e h a.1 (reverse rs) a.4)
state_more e h es Absent a = tt
state_more e h es Unplaced a = tt
state_more e h es (Over x) a = tt

-- ---- entries of the body itself

-- a body without later entries that begins one deeper than its caller, or lacks its call, has no answer
placed_state : (h : List Entry) (s : Start) (q : ℕ) (d : Doing) → IsAnsweredSoFar h [] (placed s q d)
placed_state h s q (Waits t k rs c l) = elim (either (q == c)) [ inl y ↦ rw y tt | inr o ↦ rw o tt ]
placed_state h s q Absent = tt
placed_state h s q Unplaced = tt
placed_state h s q (Ready t k rs) = tt
placed_state h s q (Over x) = tt

-- a body without later entries that begins to serve a call, whether the call has a maker or not, has no answer
by_state : (h : List Entry) (s : Start) (q : ℕ) (o : Option ℕ) (f : ℕ → Doing) → IsAnsweredSoFar h [] (begun_by s q o f)
by_state h s q None f = tt
by_state h s q (Some b) f = placed_state h s q (f b)

-- a body that begins has no answer
begun_state : (h : List Entry) (s : Start) (c : Option ℕ) (m : ℕ → Option ℕ) (f : ℕ → Doing) → IsAnsweredSoFar h [] (begun s c m f)
begun_state h s None m f = tt
begun_state h s (Some q) m f = by_state h s q (m q) f

-- an answer comes at once
replied_state : (p : Program) (h es : List Entry) (e : Entry) (x : End) (d : Doing) (a : Asked) → asked p d ≡ Some a → IsAnswered (e ∷ h) e.number e.what x → IsAnsweredSoFar h es d → IsAnsweredSoFar (e ∷ h) (e ∷ es) (replied x d)
replied_state p h es e x (Ready s d rs) a k i st = subst (AreAnswered (e ∷ h) (e ∷ es)) (sym (newest rs x)) (i, all_more e h es (reverse rs) st)
replied_state p h es e x (Waits s d rs q l) a k i st = (let z : ◌≡◌ {A = Option Asked} None (Some a) = k in cc)
replied_state p h es e x Absent a k i st = tt
replied_state p h es e x Unplaced a k i st = tt
replied_state p h es e x (Over y) a k i st = tt

-- a call is made
waiting_state : (p : Program) (h es : List Entry) (e : Entry) (d : Doing) (a : Asked) → asked p d ≡ Some a → IsCall e.number e → IsAnsweredSoFar h es d → IsAnsweredSoFar (e ∷ h) (e ∷ es) (waiting p e.number d)
waiting_state p h es e (Ready s d rs) a k i st = (e, es, refl, i, all_more e h es (reverse rs) st)
waiting_state p h es e (Waits s d rs q l) a k i st = (let z : ◌≡◌ {A = Option Asked} None (Some a) = k in cc)
waiting_state p h es e Absent a k i st = tt
waiting_state p h es e Unplaced a k i st = tt
waiting_state p h es e (Over y) a k i st = tt

-- ---- entries of other bodies

-- the end that serves the caller of a call is the answer to the entry of that call
call_is_answered : (h : List Entry) (c : Entry) (q : ℕ) (x : End) → IsCall q c → IsServed q x h → IsAnswered h c.number c.what x
call_is_answered h c q x call s =
    subst (λ (w : What). IsAnswered h c.number w x) (sym call.1.3) (subst (λ (n : ℕ). IsServed n x h) (sym call.0) s)

-- where an end serves the caller that waits for its call, what a body of these entries got still is what they were answered
answered_state : (h es : List Entry) (e : Entry) (x : End) (c : Option ℕ) (d : Doing) → ((q : ℕ) → c ≡ Some q → IsServed q x (e ∷ h)) → IsAnsweredSoFar h es d → IsAnsweredSoFar (e ∷ h) es (answered x c d)
answered_state h es e x None d f st = state_more e h es d st
answered_state h es e x (Some c) (Waits s d rs q l) f st =
    elim (either (c == q)) [
      | inl y ↦
          (let here : AreAnswered (e ∷ h) (st.0 ∷ st.1) (x ∷ reverse rs) = (call_is_answered (e ∷ h) st.0 q x st.3 (f q (ap Some (eqb-true c q y))), all_more e h st.1 (reverse rs) st.4) in
          let turned : AreAnswered (e ∷ h) (st.0 ∷ st.1) (reverse (rs ++ x ∷ [])) = subst (AreAnswered (e ∷ h) (st.0 ∷ st.1)) (sym (newest rs x)) here in
          rw y (subst (λ (z : List Entry). AreAnswered (e ∷ h) z (reverse (rs ++ x ∷ []))) (sym st.2) turned))
      | inr o ↦ rw o (state_more e h es (Waits s d rs q l) st)
    ]
answered_state h es e x (Some c) (Ready s d rs) f st = state_more e h es (Ready s d rs) st
answered_state h es e x (Some c) Absent f st = tt
answered_state h es e x (Some c) Unplaced f st = tt
answered_state h es e x (Some c) (Over y) f st = tt

-- after an entry of another body, what a body got still is what its own entries were answered
heard_state : (h es : List Entry) (e : Entry) (w : What) (c : Option ℕ) (d : Doing) → ((q : ℕ) (x : End) → w ≡ Ended x → c ≡ Some q → IsServed q x (e ∷ h)) → IsAnsweredSoFar h es d → IsAnsweredSoFar (e ∷ h) es (heard w c d)
heard_state h es e (Ended x) c d f st = answered_state h es e x c d (λ q i. f q x refl i) st
heard_state h es e Begun c d f st = state_more e h es d st
heard_state h es e (Made k) c d f st = state_more e h es d st
heard_state h es e (Sent o j vs) c d f st = state_more e h es d st
heard_state h es e (Called o j vs) c d f st = state_more e h es d st
heard_state h es e (Printed t) c d f st = state_more e h es d st
heard_state h es e (Fired k o ms vs) c d f st = state_more e h es d st

-- the end of a body that serves a call serves its caller
end_serves : (p : Program) (h : List Entry) (e : Entry) (q : ℕ) (x : End) → e.what ≡ Ended x → serves p e.body h ≡ Some q → IsServed q x (e ∷ h)
end_serves p h e q x is s =
    let f = serves_entry p e.body h q s in
    record { firing = f.0; there = inr f.1; took = served_has p f.0.what q f.3; ended = record { entry = e; there = inl refl; body = sym f.2; ended = is } }

-- ---- which entries are a body's later ones

-- in a run, a body whose number is no entry's yet has no later entries
later_nothing : (p : Program) (h : List Entry) (b : ℕ) → IsPast p h → length h ≤ b → later b h ≡ []
later_nothing p [] b r l = refl
later_nothing p (x ∷ h) b r l =
    let w = body_below p h x.number x.body x.what r.1.numbered r.1.comes (λ c d. entry_within p h c r.0 d) in
    let other : (x.body == b) ≡ false = ne_eqb x.body b (λ e. omega (arith, e, w, l)) in
    rw other (later_nothing p h b r.0 (omega (arith, l)))

-- after an entry of its own, what a body got is what its entries were answered, if that was so before
own_state : (p : Program) (h : List Entry) (b n : ℕ) (w : What) → IsPast p h → n ≡ length h → Comes p h n b w → IsAnsweredSoFar h (later b h) (doing p h b) → IsAnsweredSoFar (record { number = n; body = b; what = w } ∷ h) (later b (record { number = n; body = b; what = w } ∷ h)) (own p n w (λ q. maker q h) (doing p h) (doing p h b))
own_state p h b n Begun r e c i =
    let first : n ≡ b = (let z : length h ≡ 0 = ap length c.0 in omega (arith, e, z, c.1)) in
    rw (eq-eqb b b refl, eq-eqb n b first, later_nothing p h b r (omega (arith, e, first))) tt
own_state p h b n (Fired k o ms vs) r e c i =
    rw (eq-eqb b b refl, eq-eqb n b (sym c.0), later_nothing p h b r (omega (arith, e, c.0))) (begun_state _ (Chord k o vs) (served p (Fired k o ms vs)) (λ q. maker q h) (doing p h))
own_state p h b n (Made k) r e c i =
    (let l = entry_within p h b r (asks_entry p (doing p h b) _ c.1) in rw (eq-eqb b b refl, ne_eqb n b (λ z. omega (arith, z, e, l))) (replied_state p h (later b h) (record { number = n; body = b; what = Made k }) _ (doing p h b) _ c.1 refl i))
own_state p h b n (Sent o j vs) r e c i =
    (let l = entry_within p h b r (asks_entry p (doing p h b) _ c.1) in rw (eq-eqb b b refl, ne_eqb n b (λ z. omega (arith, z, e, l))) (replied_state p h (later b h) (record { number = n; body = b; what = Sent o j vs }) _ (doing p h b) _ c.1 refl i))
own_state p h b n (Printed t) r e c i =
    (let l = entry_within p h b r (asks_entry p (doing p h b) _ c.1) in rw (eq-eqb b b refl, ne_eqb n b (λ z. omega (arith, z, e, l))) (replied_state p h (later b h) (record { number = n; body = b; what = Printed t }) _ (doing p h b) _ c.1 refl i))
own_state p h b n (Called o j vs) r e c i =
    (let l = entry_within p h b r (asks_entry p (doing p h b) _ c.1) in rw (eq-eqb b b refl, ne_eqb n b (λ z. omega (arith, z, e, l))) (waiting_state p h (later b h) (record { number = n; body = b; what = Called o j vs }) (doing p h b) _ c.1 (refl, (o, j, vs, refl)) i))
own_state p h b n (Ended x) r e c i = tt

-- in a run, what each body got is what its later entries were answered
all_answered : (p : Program) (h : List Entry) (b : ℕ) → IsPast p h → IsAnsweredSoFar h (later b h) (doing p h b)
all_answered p [] b r = tt
all_answered p (e ∷ h) b r =
    elim (either (e.body == b)) [
      | inl y ↦
          subst (λ c. IsAnsweredSoFar (e ∷ h) (later c (e ∷ h)) (doing p (e ∷ h) c)) (eqb-true e.body b y)
          (rw (eq-eqb e.body e.body refl) (rw (eq-eqb e.body e.body refl) at (own_state p h e.body e.number e.what r.0 r.1.numbered r.1.comes (all_answered p h e.body r.0))))
      | inr o ↦ rw o (heard_state h (later b h) e e.what (serves p e.body h) (doing p h b) (λ q x i s. end_serves p h e q x i s) (all_answered p h b r.0))
    ]

-- the answers of a body that may go on are those of its entries
pub answers_of_entries : AnswersOfEntries
answers_of_entries p h b d s rs r e = subst (λ (z : Doing). IsAnsweredSoFar h (later b h) z) e (all_answered p h b r)

-- the answers of a body that waits are those of its entries before its call
pub answers_before_call : AnswersBeforeCall
answers_before_call p h b d q l s rs r e = subst (λ (z : Doing). IsAnsweredSoFar h (later b h) z) e (all_answered p h b r)
