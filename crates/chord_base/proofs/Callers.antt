-- Callers in a run: who is served, by what, and who waits.
use Rattle.std.proofs.Common.{◌≡◌, ℕ, ◌<◌, Bool, true, false, ◌==◌, List, [], ◌∷◌, length, Option, Some, None, refl, sym, ap, ◌∙◌, subst, arith, ◌⊎◌, inl, inr}
use Rattle.std.proofs.lemmas.Bool.{eq-eqb, eqb-true, eqb-false, ne_eqb}
use Rattle.chord_base.specs.declared.event.End.{End}
use Rattle.chord_base.specs.declared.event.What.{What}
use Rattle.chord_base.specs.declared.event.What.TheVariants.{Begun, Made, Sent, Called, Printed, Fired, Ended}
use Rattle.chord_base.specs.declared.event.Entry.{Entry}
use Rattle.chord_base.specs.Meaning.{Program, Start, Asked, HasOneSync}
use Rattle.chord_base.specs.Messages.{IsCall, has, maker, members_of}
use Rattle.chord_base.specs.Bodies.{Doing, Absent, Unplaced, Ready, Waits, Over, WaitsFor, answered, heard, waiting, own, doing, asked, Asks, served, served_among, serves}
use Rattle.chord_base.specs.Machine.{Comes, IsPast, MayFollow}
use Rattle.chord_base.specs.Served.{IsServed}
use Rattle.chord_base.specs.Story.{IsIn, IsSound}
use Rattle.chord_base.specs.Laws.{OthersWait, ServedGoesOn, ServedOnce, ServedWaitsNoMore}
use Rattle.chord_base.proofs.AskLists.{body_below, entry_within}
use Rattle.chord_base.proofs.Calls.{number_within, serves_its_member}
use Rattle.chord_base.proofs.Firings.{member_within, taken_once}
use Rattle.chord_base.proofs.Local.{call_answered, waits_on_it}
use Rattle.chord_base.proofs.Pending.{has_more}
use Rattle.chord_base.proofs.Waits.{either, WaitsOn, heard_waits, own_waits}

-- ---- which call a body serves

-- the call that is served stands among the members
among_has : (sync : ℕ → Bool) (js ms : List ℕ) (q : ℕ) → served_among sync js ms ≡ Some q → has q ms ≡ true
among_has sync [] ms q s = (let z : ◌≡◌ {A = Option ℕ} None (Some q) = s in cc)
among_has sync (j ∷ js) [] q s = (let z : ◌≡◌ {A = Option ℕ} None (Some q) = s in cc)
among_has sync (j ∷ js) (i ∷ ms) q s =
    elim (either (sync j)) [
      | inl y ↦ (let same : Some i ≡ Some q = rw y at s in let here : i ≡ q = cc in rw (eq-eqb q i (sym here)) refl)
      | inr n ↦ has_more q i ms (among_has sync js ms q (rw n at s))
    ]

-- the call that a firing serves is a member of it
pub served_has : (p : Program) (w : What) (q : ℕ) → served p w ≡ Some q → has q (members_of w) ≡ true
served_has p (Fired k o ms vs) q s = among_has _ _ ms q s
served_has p Begun q s = (let z : ◌≡◌ {A = Option ℕ} None (Some q) = s in cc)
served_has p (Made c) q s = (let z : ◌≡◌ {A = Option ℕ} None (Some q) = s in cc)
served_has p (Sent o j vs) q s = (let z : ◌≡◌ {A = Option ℕ} None (Some q) = s in cc)
served_has p (Called o j vs) q s = (let z : ◌≡◌ {A = Option ℕ} None (Some q) = s in cc)
served_has p (Printed t) q s = (let z : ◌≡◌ {A = Option ℕ} None (Some q) = s in cc)
served_has p (Ended x) q s = (let z : ◌≡◌ {A = Option ℕ} None (Some q) = s in cc)

-- a body that serves a call has its firing
pub serves_entry : (p : Program) (b : ℕ) (h : List Entry) (q : ℕ) → serves p b h ≡ Some q → (f : Entry) × IsIn f h × (f.number ≡ b) × (served p f.what ≡ Some q)
serves_entry p b [] q s = (let z : ◌≡◌ {A = Option ℕ} None (Some q) = s in cc)
serves_entry p b (e ∷ h) q s =
    elim (either (e.number == b)) [
      | inl y ↦ (e, inl refl, eqb-true e.number b y, rw y at s)
      | inr o ↦ (let k = serves_entry p b h q (rw o at s) in (k.0, inr k.1, k.2, k.3))
    ]

-- the body of an entry serves what the entry does
pub entry_serves : (p : Program) (h : List Entry) (f : Entry) → IsPast p h → IsIn f h → serves p f.number h ≡ served p f.what
entry_serves p [] f r i = absurd i
entry_serves p (e ∷ h) f r i =
    elim i [
      | inl y ↦ subst (λ (z : Entry). serves p z.number (e ∷ h) ≡ served p z.what) (sym y) (rw (eq-eqb e.number e.number refl) refl)
      | inr y ↦
          (let l = number_within p h f r.0 y in
          let other : (e.number == f.number) ≡ false = ne_eqb e.number f.number (λ q. let m = r.1.numbered in omega (arith, q, m, l)) in
          rw other (entry_serves p h f r.0 y))
    ]

-- the call that a body serves is an entry before
call_within : (p : Program) (h : List Entry) (b q : ℕ) → IsPast p h → serves p b h ≡ Some q → q < length h
call_within p h b q r s = (let f = serves_entry p b h q s in member_within p h f.0 q r f.1 (served_has p f.0.what q f.3))

-- ---- bodies that ask nothing

-- the body of an entry of a run has a smaller number than the next entry
body_within : (p : Program) (h : List Entry) (e : Entry) → IsPast p h → IsIn e h → e.body < length h
body_within p [] e r i = absurd i
body_within p (x ∷ h) e r i =
    elim i [
      | inl y ↦
          (let l = body_below p h x.number x.body x.what r.1.numbered r.1.comes (λ c d. entry_within p h c r.0 d) in
          let same : e.body ≡ x.body = ap (λ (z : Entry). z.body) y in omega (arith, l, same))
      | inr y ↦ (let l = body_within p h e r.0 y in omega (arith, l))
    ]

-- a body that has a next ask is none that asks nothing
asks_none : (p : Program) (h : List Entry) (b c : ℕ) (w : What) → Asks p h b w → b ≡ c → asked p (doing p h c) ≡ None → ⊥
asks_none p h b c w a e n = let z : ◌≡◌ {A = Option Asked} None (Some (record { what = w; depth = a.0 })) = sym n ∙ ap (λ i. asked p (doing p h i)) (sym e) ∙ a.1 in cc

-- a body with an entry that asks nothing does not make the next one
silent_is_other : (p : Program) (h : List Entry) (n b c : ℕ) (w : What) → n ≡ length h → Comes p h n b w → c < length h → asked p (doing p h c) ≡ None → b ≡ c → ⊥
silent_is_other p h n b c Begun e f l s y = (let z : length h ≡ 0 = ap length f.0 in omega (arith, z, l))
silent_is_other p h n b c (Fired k o ms vs) e f l s y = (let z = f.0 in omega (arith, z, e, l, y))
silent_is_other p h n b c (Made k) e f l s y = asks_none p h b c (Made k) f y s
silent_is_other p h n b c (Sent o j vs) e f l s y = asks_none p h b c (Sent o j vs) f y s
silent_is_other p h n b c (Called o j vs) e f l s y = asks_none p h b c (Called o j vs) f y s
silent_is_other p h n b c (Printed t) e f l s y = asks_none p h b c (Printed t) f y s
silent_is_other p h n b c (Ended x) e f l s y = asks_none p h b c (Ended x) f y s

-- a body that waits for a call asks nothing
waits_silent : (p : Program) (q : ℕ) (d : Doing) → WaitsFor q d → asked p d ≡ None
waits_silent p q (Waits s d rs c l) w = refl
waits_silent p q (Ready s d rs) w = absurd w
waits_silent p q Absent w = absurd w
waits_silent p q Unplaced w = absurd w
waits_silent p q (Over x) w = absurd w

-- an entry of another body leaves a body that has ended as it is
heard_over : (w : What) (c : Option ℕ) (x : End) → heard w c (Over x) ≡ Over x
heard_over (Ended y) None x = refl
heard_over (Ended y) (Some c) x = refl
heard_over Begun c x = refl
heard_over (Made k) c x = refl
heard_over (Sent o j vs) c x = refl
heard_over (Called o j vs) c x = refl
heard_over (Printed t) c x = refl
heard_over (Fired k o ms vs) c x = refl

-- a body that has ended stays so
pub over_after : (p : Program) (h : List Entry) (e : Entry) (x : End) → IsPast p h → IsIn e h → e.what ≡ Ended x → doing p h e.body ≡ Over x
over_after p [] e x r i w = absurd i
over_after p (g ∷ h) e x r i w =
    elim i [
      | inl y ↦
          (let here : g.what ≡ Ended x = ap (λ (z : Entry). z.what) (sym y) ∙ w in
          subst (λ (z : Entry). doing p (g ∷ h) z.body ≡ Over x) (sym y) (rw (eq-eqb g.body g.body refl, here) refl))
      | inr y ↦
          (let before = over_after p h e x r.0 y w in
          elim (either (g.body == e.body)) [
            | inl s ↦ absurd (silent_is_other p h g.number g.body e.body g.what r.1.numbered r.1.comes (body_within p h e r.0 y) (ap (asked p) before) (eqb-true g.body e.body s))
            | inr o ↦ rw (o, before) (heard_over g.what (serves p g.body h) x)
          ])
    ]

-- ---- by the call that a body serves

-- the call is served by the end of a body that serves it
pub record IsServedBy (p : Program) (q : ℕ) (x : End) (h : List Entry) : Type 0 where
  pub entry : Entry
  pub there : IsIn entry h
  pub ended : entry.what ≡ Ended x
  pub serving : serves p entry.body h ≡ Some q

-- by that body's firing
pub served_by_firing : (p : Program) (h : List Entry) (q : ℕ) (x : End) → IsServedBy p q x h → IsServed q x h
served_by_firing p h q x s =
    let f = serves_entry p s.entry.body h q s.serving in
    record { firing = f.0; there = f.1; took = served_has p f.0.what q f.3; ended = record { entry = s.entry; there = s.there; body = sym f.2; ended = s.ended } }

-- of a sound program, whose chords have one synchronous method at most, a firing that took the call serves it
served_by_body : (p : Program) (h : List Entry) (c : Entry) (q : ℕ) (x : End) → IsSound p → HasOneSync p → IsPast p h → IsIn c h → IsCall q c → IsServed q x h → IsServedBy p q x h
served_by_body p h c q x sound one r i call s = record {
  entry = s.ended.entry;
  there = s.ended.there;
  ended = s.ended.ended;
  serving = ap (λ b. serves p b h) s.ended.body ∙ entry_serves p h s.firing r s.there ∙ serves_its_member p h c s.firing q sound one r i call s.there s.took;
}

-- ---- a call, from its entry on

-- a body that asks, and that makes a call of this number, waits for that call
waits_now : (p : Program) (n : ℕ) (d : Doing) (a : Asked) → asked p d ≡ Some a → WaitsFor n (waiting p n d)
waits_now p n (Ready s d rs) a e = refl
waits_now p n (Waits s d rs q l) a e = (let z : ◌≡◌ {A = Option Asked} None (Some a) = e in cc)
waits_now p n Absent a e = (let z : ◌≡◌ {A = Option Asked} None (Some a) = e in cc)
waits_now p n Unplaced a e = (let z : ◌≡◌ {A = Option Asked} None (Some a) = e in cc)
waits_now p n (Over x) a e = (let z : ◌≡◌ {A = Option Asked} None (Some a) = e in cc)

-- after its call a body waits for it
call_waits : (p : Program) (h : List Entry) (e : Entry) (q : ℕ) → MayFollow p h e → IsCall q e → WaitsFor q (doing p (e ∷ h) e.body)
call_waits p h e q f c =
    let what = c.1.3 in
    let asks : Comes p h e.number e.body (Called c.1.0 c.1.1 c.1.2) = subst (λ (w : What). Comes p h e.number e.body w) what f.comes in
    let now : WaitsFor e.number (own p e.number (Called c.1.0 c.1.1 c.1.2) (λ i. maker i h) (doing p h) (doing p h e.body)) = waits_now p e.number (doing p h e.body) _ asks.1 in
    let said : WaitsFor e.number (own p e.number e.what (λ i. maker i h) (doing p h) (doing p h e.body)) = subst (λ (w : What). WaitsFor e.number (own p e.number w (λ i. maker i h) (doing p h) (doing p h e.body))) (sym what) now in
    rw (eq-eqb e.body e.body refl) (subst (λ i. WaitsFor i (own p e.number e.what (λ i. maker i h) (doing p h) (doing p h e.body))) c.0 said)

-- after the end of another body a body still waits for its call, or the end answers that call
answered_or : (x : End) (c : Option ℕ) (q : ℕ) (d : Doing) → WaitsFor q d → WaitsFor q (answered x c d) ⊎ (c ≡ Some q)
answered_or x None q d w = inl w
answered_or x (Some c) q (Waits s d rs i l) w =
    elim (either (c == i)) [ inl y ↦ inr (ap Some (eqb-true c i y ∙ sym w)) | inr o ↦ inl (rw o w) ]
answered_or x (Some c) q (Ready s d rs) w = absurd w
answered_or x (Some c) q Absent w = absurd w
answered_or x (Some c) q Unplaced w = absurd w
answered_or x (Some c) q (Over y) w = absurd w

-- a body that waits still does, or the body that serves its call has ended
heard_or : (w : What) (c : Option ℕ) (q : ℕ) (d : Doing) → WaitsFor q d → WaitsFor q (heard w c d) ⊎ ((x : End) × (w ≡ Ended x) × (c ≡ Some q))
heard_or (Ended x) c q d w = elim (answered_or x c q d w) [ inl k ↦ inl k | inr k ↦ inr (x, refl, k) ]
heard_or Begun c q d w = inl w
heard_or (Made k) c q d w = inl w
heard_or (Sent o j vs) c q d w = inl w
heard_or (Called o j vs) c q d w = inl w
heard_or (Printed t) c q d w = inl w
heard_or (Fired k o ms vs) c q d w = inl w

-- a caller waits, or is served
pub call_state : (p : Program) (h : List Entry) (c : Entry) (q : ℕ) → IsPast p h → IsIn c h → IsCall q c → WaitsFor q (doing p h c.body) ⊎ ((x : End) × IsServedBy p q x h)
call_state p [] c q r i call = absurd i
call_state p (e ∷ h) c q r i call =
    elim i [
      | inl y ↦ inl (subst (λ (z : Entry). WaitsFor q (doing p (e ∷ h) z.body)) (sym y) (call_waits p h e q r.1 (subst (λ (z : Entry). IsCall q z) y call)))
      | inr y ↦
          elim (call_state p h c q r.0 y call) [
            | inl waits ↦
                (let other : (e.body == c.body) ≡ false = ne_eqb e.body c.body (silent_is_other p h e.number e.body c.body e.what r.1.numbered r.1.comes (body_within p h c r.0 y) (waits_silent p q (doing p h c.body) waits)) in
                elim (heard_or e.what (serves p e.body h) q (doing p h c.body) waits) [
                  | inl k ↦ inl (rw other k)
                  | inr k ↦ inr (k.0, record { entry = e; there = inl refl; ended = k.1; serving = serves_on p e h e.body q r k.2 })
                ])
            | inr s ↦ inr (s.0, record { entry = s.1.entry; there = inr s.1.there; ended = s.1.ended; serving = serves_on p e h s.1.entry.body q r s.1.serving })
          ]
    ]
  where
    serves_on : (p : Program) (e : Entry) (h : List Entry) (b q : ℕ) → IsPast p (e ∷ h) → serves p b h ≡ Some q → serves p b (e ∷ h) ≡ Some q
    serves_on p e h b q r s =
        let f = serves_entry p b h q s in
        let l = number_within p h f.0 r.0 f.1 in
        rw (ne_eqb e.number b (λ i. let m = r.1.numbered in let k = f.2 in omega (arith, i, m, l, k))) s

-- ---- once served, nobody waits

-- after an end that answers a call no body waits for that call
not_after_end : (x : End) (q : ℕ) (d : Doing) → WaitsFor q (answered x (Some q) d) → ⊥
not_after_end x q (Waits s d rs i l) w =
    elim (either (q == i)) [ inl y ↦ rw y at w | inr o ↦ (let same : q ≡ i = rw o at w in eqb-false q i o same) ]
not_after_end x q (Ready s d rs) w = w
not_after_end x q Absent w = w
not_after_end x q Unplaced w = w
not_after_end x q (Over y) w = w

-- if a body waits for a call, then that call is one that it waits for, or it is this number
self_waits : (n : ℕ) (d : Doing) → WaitsOn (λ i. WaitsFor i d ⊎ (i ≡ n)) d
self_waits n (Waits s d rs q l) = inl refl
self_waits n (Ready s d rs) = tt
self_waits n Absent = tt
self_waits n Unplaced = tt
self_waits n (Over x) = tt

-- a body that waits did so before, or has called now
waits_before : (p : Program) (e : Entry) (h : List Entry) (b q : ℕ) → WaitsFor q (doing p (e ∷ h) b) → WaitsFor q (doing p h b) ⊎ (q ≡ e.number)
waits_before p e h b q w =
    let self = self_waits e.number (doing p h b) in
    waits_on_it (λ i. WaitsFor i (doing p h b) ⊎ (i ≡ e.number)) q (doing p (e ∷ h) b)
    (elim (either (e.body == b)) [
      | inl y ↦ rw y (own_waits p (λ i. WaitsFor i (doing p h b) ⊎ (i ≡ e.number)) e.number e.what _ (doing p h) (doing p h b) (inr refl) self)
      | inr o ↦ rw o (heard_waits (λ i. WaitsFor i (doing p h b) ⊎ (i ≡ e.number)) e.what (serves p e.body h) (doing p h b) self)
    ])
    w

-- at the end of the body that serves the call
served_now : (p : Program) (e : Entry) (h : List Entry) (b q : ℕ) (x : End) → e.what ≡ Ended x → serves p e.body (e ∷ h) ≡ Some q → WaitsFor q (doing p (e ∷ h) b) → ⊥
served_now p e h b q x is s w =
    elim (either (e.number == e.body)) [
      | inl y ↦ (let z : ◌≡◌ {A = Option ℕ} None (Some q) = ap (served p) (sym is) ∙ (rw y at s) in cc)
      | inr n ↦
          (let serving : serves p e.body h ≡ Some q = rw n at s in
          elim (either (e.body == b)) [
            | inl y ↦ rw (y, is) at w
            | inr o ↦ not_after_end x q (doing p h b) (rw (o, is, serving) at w)
          ])
    ]

-- nobody waits for a call that was served
served_no_wait : (p : Program) (h : List Entry) (b q : ℕ) (x : End) → IsPast p h → IsServedBy p q x h → WaitsFor q (doing p h b) → ⊥
served_no_wait p [] b q x r s w = s.there
served_no_wait p (e ∷ h) b q x r s w =
    elim s.there [
      | inl y ↦ served_now p e h b q x (ap (λ (z : Entry). z.what) (sym y) ∙ s.ended) (ap (λ (z : Entry). serves p z.body (e ∷ h)) (sym y) ∙ s.serving) w
      | inr y ↦
          (let l = body_within p h s.entry r.0 y in
          let other : (e.number == s.entry.body) ≡ false = ne_eqb e.number s.entry.body (λ i. let m = r.1.numbered in omega (arith, i, m, l)) in
          let serving : serves p s.entry.body h ≡ Some q = rw other at s.serving in
          elim (waits_before p e h b q w) [
            | inl k ↦ served_no_wait p h b q x r.0 (record { entry = s.entry; there = y; ended = s.ended; serving = serving }) k
            | inr k ↦ (let k' = call_within p h s.entry.body q r.0 serving in let m = r.1.numbered in omega (arith, k, k', m))
          ])
    ]

-- ---- the laws

-- no body waits for a call that is served
pub served_waits_no_more : ServedWaitsNoMore
served_waits_no_more p h c b q x sound one r i call s w = served_no_wait p h b q x r (served_by_body p h c q x sound one r i call s) w

-- a caller that is not served waits
pub others_wait : OthersWait
others_wait p h c q r i call none =
    elim (call_state p h c q r i call) [
      | inl w ↦ w
      | inr s ↦ absurd (none s.0 (served_by_firing p h q s.0 s.1))
    ]

-- a call is served by one end
pub served_once : ServedOnce
served_once p h q x y r s t =
    let same = taken_once p h s.firing t.firing q r s.there t.there s.took t.took in
    let body : s.ended.entry.body ≡ t.ended.entry.body = s.ended.body ∙ ap (λ (z : Entry). z.number) same ∙ sym t.ended.body in
    let both : Over x ≡ Over y = sym (over_after p h s.ended.entry x r s.ended.there s.ended.ended) ∙ ap (doing p h) body ∙ over_after p h t.ended.entry y r t.ended.there t.ended.ended in
    cc

-- a body that waits for a call does so from some start, at some depth, with some answers, at a place of some depth
waits_form : (q : ℕ) (d : Doing) → WaitsFor q d → (s : Start) × (k l : ℕ) × (rs : List End) × (d ≡ Waits s k rs q l)
waits_form q (Waits s d rs c l) w = (s, d, l, rs, ap (λ i. Waits s d rs i l) (sym w))
waits_form q (Ready s d rs) w = absurd w
waits_form q Absent w = absurd w
waits_form q Unplaced w = absurd w
waits_form q (Over x) w = absurd w

-- a caller goes on with the end of the body that served it
pub served_goes_on : ServedGoesOn
served_goes_on p h c f e q x sound one r i call j took body is =
    let serving : serves p e.body h ≡ Some q = ap (λ b. serves p b h) body ∙ entry_serves p h f r.0 j ∙ serves_its_member p h c f q sound one r.0 i call j took in
    let asks : Comes p h e.number e.body (Ended x) = subst (λ (w : What). Comes p h e.number e.body w) is r.1.comes in
    elim (call_state p h c q r.0 i call) [
      | inl w ↦
          (let k = waits_form q (doing p h c.body) w in
          let other : (e.body == c.body) ≡ false = ne_eqb e.body c.body (silent_is_other p h e.number e.body c.body e.what r.1.numbered r.1.comes (body_within p h c r.0 i) (waits_silent p q (doing p h c.body) w)) in
          (k.0, k.1, k.2, k.3, k.4, call_answered p e h c.body x k.0 k.1 k.3 q k.2 other is k.4 serving))
      | inr s ↦
          (let t = served_by_firing p h q s.0 s.1 in
          let same = taken_once p h t.firing f q r.0 t.there j t.took took in
          let ended : t.ended.entry.body ≡ e.body = t.ended.body ∙ ap (λ (z : Entry). z.number) same ∙ sym body in
          let over = over_after p h t.ended.entry s.0 r.0 t.ended.there t.ended.ended in
          absurd (asks_none p h e.body t.ended.entry.body (Ended x) asks (sym ended) (ap (asked p) over)))
    ]
