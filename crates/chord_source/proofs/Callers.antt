-- A run of a sound machine takes no message twice, and each caller that is served goes on with the end that served it.
use Rattle.std.proofs.Common.{◌≡◌, ℕ, ◌<◌, ◌≤◌, false, ◌==◌, List, [], ◌∷◌, ◌++◌, length, reverse, Some, None, refl, sym, ap, ◌∙◌, subst, arith, inl, inr}
use Rattle.std.proofs.lemmas.Bool.{cases_lt, ne_eqb}
use Rattle.std.proofs.lemmas.List.{append_assoc, length-append, reverse-append, reverse-reverse}
use Rattle.std.proofs.lemmas.Option.{none-some}
use Rattle.chord_base.specs.Bodies.{Absent, Asks, asked, doing, serves}
use Rattle.chord_base.specs.Machine.{Comes, IsPast, IsRun}
use Rattle.chord_base.specs.Meaning.{Program}
use Rattle.chord_base.specs.Messages.{AreDifferent, IsCall, members_of}
use Rattle.chord_base.specs.Served.{IsServed}
use Rattle.chord_base.specs.Story.{IsIn}
use Rattle.chord_base.specs.declared.event.End.{End}
use Rattle.chord_base.specs.declared.event.Entry.{Entry}
use Rattle.chord_base.specs.declared.event.What.{What}
use Rattle.chord_base.specs.declared.event.What.TheVariants.{Begun, Made, Sent, Called, Printed, Fired, Ended}
use Rattle.chord_base.proofs.Callers.{others_wait, served_goes_on}
use Rattle.chord_base.proofs.Firings.{member_within, members_differ, taken_once}
use Rattle.chord_base.proofs.Waits.{heard_absent}
use Rattle.chord_source.specs.Callers.{GoesOnWith, RunsServeCallers, ServesCallers}
use Rattle.chord_source.specs.Laws.{IsSoundMachine}

-- an entry of a list, with what stands before and after it
record StandsIn (e : Entry) (entries : List Entry) : Type 0 where
  before : List Entry
  after : List Entry
  parts : entries ≡ before ++ e ∷ after

-- an entry of a list stands in it
stands_in : (e : Entry) (entries : List Entry) → IsIn e entries → StandsIn e entries
stands_in e [] i = absurd i
stands_in e (x ∷ h) i =
    elim i [
      | inl y ↦ record { before = []; after = h; parts = ap (λ (z : Entry). z ∷ h) (sym y) }
      | inr y ↦ (let s = stands_in e h y in record { before = x ∷ s.before; after = s.after; parts = ap (λ (z : List Entry). x ∷ z) s.parts })
    ]

-- an entry between two lists is one of them joined
in_middle : (e : Entry) (before after : List Entry) → IsIn e (before ++ e ∷ after)
in_middle e [] after = inl refl
in_middle e (x ∷ before) after = inr (in_middle e before after)

-- a list with an entry in it, backwards
pub reversed_parts : (before after : List Entry) (e : Entry) → reverse (before ++ e ∷ after) ≡ reverse after ++ e ∷ reverse before
reversed_parts before after e =
    reverse-append before (e ∷ after) ∙ ap (λ (z : List Entry). z ++ reverse before) (reverse-append (e ∷ []) after) ∙ append_assoc (reverse after) (e ∷ []) (reverse before)

-- an entry of a list is one of it backwards
pub in_reversed : (e : Entry) (entries : List Entry) → IsIn e entries → IsIn e (reverse entries)
in_reversed e entries i =
    let s = stands_in e entries i in
    subst (λ (z : List Entry). IsIn e z) (sym (ap reverse s.parts ∙ reversed_parts s.before s.after e)) (in_middle e (reverse s.after) (reverse s.before))

-- an entry of a list backwards is one of it
in_forwards : (e : Entry) (entries : List Entry) → IsIn e (reverse entries) → IsIn e entries
in_forwards e entries i = subst (λ (z : List Entry). IsIn e z) (reverse-reverse entries) (in_reversed e (reverse entries) i)

-- what stands before an entry of a past is a past
pub past_before : (p : Program) (later h : List Entry) → IsPast p (later ++ h) → IsPast p h
past_before p [] h r = r
past_before p (x ∷ later) h r = past_before p later h r.0

-- an entry of a past whose number is below the number of those before is one of these
in_before : (p : Program) (later h : List Entry) (e : Entry) → IsPast p (later ++ h) → IsIn e (later ++ h) → e.number < length h → IsIn e h
in_before p [] h e r i l = i
in_before p (x ∷ later) h e r i l =
    elim i [
      | inl y ↦ (let n : e.number ≡ x.number = ap (λ (z : Entry). z.number) y in let m = r.1.numbered in let k = length-append later h in absurd (omega (arith, n, m, k, l)))
      | inr y ↦ in_before p later h e r.0 y l
    ]

-- a body that makes an ask is none that asks nothing
pub asks_not : (p : Program) (h : List Entry) (b c : ℕ) (w : What) → asked p (doing p h b) ≡ None → c ≡ b → Asks p h c w → ⊥
asks_not p h b c w none y a = none-some _ (sym none ∙ subst (λ z. asked p (doing p h z) ≡ Some (record { what = w; depth = a.0 })) y a.1)

-- the entry that comes next is of no body that asks nothing, but for a body that begins with it
pub next_is_other : (p : Program) (h : List Entry) (b n c : ℕ) (w : What) → (b ≡ length h → ⊥) → asked p (doing p h b) ≡ None → n ≡ length h → Comes p h n c w → c ≡ b → ⊥
next_is_other p h b n c Begun l none i f y = l (let z : length h ≡ 0 = ap length f.0 in let k = f.1 in omega (arith, z, k, y))
next_is_other p h b n c (Fired k o ms vs) l none i f y = l (let z = f.0 in omega (arith, z, i, y))
next_is_other p h b n c (Made k) l none i f y = asks_not p h b c (Made k) none y f
next_is_other p h b n c (Sent o j vs) l none i f y = asks_not p h b c (Sent o j vs) none y f
next_is_other p h b n c (Called o j vs) l none i f y = asks_not p h b c (Called o j vs) none y f
next_is_other p h b n c (Printed t) l none i f y = asks_not p h b c (Printed t) none y f
next_is_other p h b n c (Ended x) l none i f y = asks_not p h b c (Ended x) none y f

-- after a past there are no bodies but those that its entries began
absent_above : (p : Program) (h : List Entry) (b : ℕ) → IsPast p h → length h ≤ b → doing p h b ≡ Absent
absent_above p [] b r l = refl
absent_above p (x ∷ h) b r l =
    let before = absent_above p h b r.0 (omega (arith, l)) in
    let other : (x.body == b) ≡ false = ne_eqb x.body b (next_is_other p h b x.number x.body x.what (λ e. omega (arith, l, e)) (ap (asked p) before) r.1.numbered r.1.comes) in
    rw (other, before) (heard_absent x.what (serves p x.body h))

-- a body that asks began before
pub asks_early : (p : Program) (h : List Entry) (b : ℕ) (w : What) → IsPast p h → Asks p h b w → b < length h
asks_early p h b w r a =
    elim (cases_lt b (length h)) [
      | inl l ↦ l
      | inr l ↦ absurd (asks_not p h b b w (ap (asked p) (absent_above p h b r l)) refl a)
    ]

module _ (p : Program) (is : IsSoundMachine p) (journal : List Entry) (run : IsRun p journal) where
  -- what a firing of a past takes is all different
  takes_once : (h : List Entry) (f : Entry) → IsPast p h → IsIn f h → AreDifferent (members_of f.what)
  takes_once [] f r i = absurd i
  takes_once (x ∷ h) f r i =
      elim i [
        | inl y ↦ subst (λ (z : Entry). AreDifferent (members_of z.what)) (sym y) (by_what x.number x.body x.what r.1.comes)
        | inr y ↦ takes_once h f r.0 y
      ]
    where
      by_what : (n b : ℕ) (w : What) → Comes p h n b w → AreDifferent (members_of w)
      by_what n b (Fired k o ms vs) c = members_differ p h k o c.1.0 ms vs c.1.1 (is.chords.different o.class k c.1.0 c.1.1) c.1
      by_what n b Begun c = tt
      by_what n b (Made k) c = tt
      by_what n b (Sent o j vs) c = tt
      by_what n b (Called o j vs) c = tt
      by_what n b (Printed t) c = tt
      by_what n b (Ended x) c = tt

  -- each caller that is served goes on with the end of the body that served it
  caller_goes_on : (c : Entry) (call : ℕ) (end : End) → IsIn c journal → IsCall call c → (s : IsServed call end journal) → GoesOnWith p journal c.body call s.firing end
  caller_goes_on c call end i calls s =
      let at = stands_in s.ended.entry journal s.ended.there in
      let h : List Entry = reverse at.before in
      let same : reverse journal ≡ reverse at.after ++ s.ended.entry ∷ h = ap reverse at.parts ∙ reversed_parts at.before at.after s.ended.entry in
      let whole : IsPast p (reverse at.after ++ s.ended.entry ∷ h) = subst (IsPast p) same run in
      let here : IsPast p (s.ended.entry ∷ h) = past_before p (reverse at.after) (s.ended.entry ∷ h) whole in
      let asks : Asks p h s.ended.entry.body (Ended end) = subst (λ (w : What). Comes p h s.ended.entry.number s.ended.entry.body w) s.ended.ended here.1.comes in
      let early : s.ended.entry.body < length h = asks_early p h s.ended.entry.body (Ended end) here.0 asks in
      let firing : IsIn s.firing h = found s.ended.entry h (reverse at.after) s.firing whole (subst (IsIn s.firing) same (in_reversed s.firing journal s.there)) (let b = s.ended.body in omega (arith, early, b)) in
      let taken : call < length h = member_within p h s.firing call here.0 firing s.took in
      let caller : IsIn c h = found s.ended.entry h (reverse at.after) c whole (subst (IsIn c) same (in_reversed c journal i)) (let n = calls.0 in omega (arith, taken, n)) in
      let goes = served_goes_on p h c s.firing s.ended.entry call end is.sound is.chords.one_sync here caller calls firing s.took s.ended.body s.ended.ended in
      record {
        before = at.before;
        entry = s.ended.entry;
        after = at.after;
        parts = at.parts;
        body = s.ended.body;
        ended = s.ended.ended;
        start = goes.0;
        depth = goes.1;
        place = goes.2;
        answers = goes.3;
        waits = goes.4;
        goes_on = rw (reverse-append at.before (s.ended.entry ∷ [])) goes.5;
      }
    where
      -- an entry with a number below that of another stands before it
      found : (e : Entry) (h later : List Entry) (f : Entry) → IsPast p (later ++ e ∷ h) → IsIn f (later ++ e ∷ h) → f.number < length h → IsIn f h
      found e h later f r i l =
          elim (in_before p later (e ∷ h) f r i (omega (arith, l))) [
            | inl y ↦ (let n : f.number ≡ e.number = ap (λ (z : Entry). z.number) y in let m = (past_before p later (e ∷ h) r).1.numbered in absurd (omega (arith, n, m, l)))
            | inr y ↦ y
          ]

  -- the run serves its callers, and takes no message twice
  serves_callers : ServesCallers p journal
  serves_callers = record {
    one_firing = λ f g n i j t u. taken_once p (reverse journal) f g n run (in_reversed f journal i) (in_reversed g journal j) t u;
    once = λ f i. takes_once (reverse journal) f run (in_reversed f journal i);
    served = caller_goes_on;
    others = λ c call i calls none.
        others_wait p (reverse journal) c call run (in_reversed c journal i) calls (λ end s. none end (forwards call end s));
  }
    where
      -- who is served in the history is served in the journal
      forwards : (call : ℕ) (end : End) → IsServed call end (reverse journal) → IsServed call end journal
      forwards call end s = record {
        firing = s.firing;
        there = in_forwards s.firing journal s.there;
        took = s.took;
        ended = record { entry = s.ended.entry; there = in_forwards s.ended.entry journal s.ended.there; body = s.ended.body; ended = s.ended.ended };
      }

-- each run of a sound machine serves its callers
pub runs_serve_callers : RunsServeCallers
runs_serve_callers p journal is run = serves_callers p is journal run
