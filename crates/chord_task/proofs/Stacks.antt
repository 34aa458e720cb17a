-- What a stack of bodies is after one more entry: that the clauses of a task can be met, for every program.
use Rattle.std.proofs.Common.{◌≡◌, ℕ, ◌+◌, ◌<◌, arith, true, false, ◌==◌, List, [], ◌∷◌, ◌++◌, Option, Some, None, refl, sym, ap, ◌∙◌, subst, inl, inr}
use Rattle.std.proofs.lemmas.Bool.{eq-eqb, eqb-true, eqb-false, ne_eqb}
use Rattle.chord_base.specs.declared.value.Object.{Object}
use Rattle.chord_base.specs.declared.value.Value as value
use Rattle.chord_base.specs.declared.event.End.{End}
use Rattle.chord_base.specs.declared.event.What.{What}
use Rattle.chord_base.specs.declared.event.What.TheVariants.{Begun, Made, Sent, Called, Printed, Fired, Ended}
use Rattle.chord_base.specs.declared.event.Entry.{Entry}
use Rattle.chord_base.specs.Meaning.{Program, Start, Chord, Asked}
use Rattle.chord_base.specs.Bodies.{Doing, Absent, Unplaced, Ready, Waits, Over, served, serves, ask_depth, begun, own, answered, doing, asked}
use Rattle.chord_base.specs.Printed.{is_end}
use Rattle.chord_base.specs.Messages.{maker}
use Rattle.chord_base.specs.Story.{IsTold, IsOwn, AllBelow}
use Rattle.chord_base.proofs.Waits.{either, WaitsOn}
use Rattle.chord_base.proofs.Local.{waits_for, answered_same, other_body, call_answered}
use Rattle.chord_base.proofs.Places.{below_rises, told_waits}
use Rattle.chord_base.proofs.Merged.{own_tells}
use Rattle.chord_task.specs.Stacks.{TaskView, IsServedThere, IsTask, IsNext, TopWaitsFor}

-- a stack after one more entry, with this body on top
abbrev pub after : TaskView → ℕ → ℕ → What → Option ℕ → TaskView
after t n b w top = record { past = record { number = n; body = b; what = w } ∷ t.past; top = top }

-- an own entry leaves its body placed, and the body of an own ask is ready before it
abbrev IsReady : Doing → Type 0
IsReady (Ready s d rs) = Unit {0}
IsReady (Waits s d rs q l) = ⊥
IsReady Absent = ⊥
IsReady Unplaced = ⊥
IsReady (Over x) = ⊥

-- a body that asks is ready
asked_ready : (p : Program) (d : Doing) (a : Asked) → asked p d ≡ Some a → IsReady d
asked_ready p (Ready s k rs) a e = tt
asked_ready p (Waits s k rs q l) a e = cc
asked_ready p Absent a e = cc
asked_ready p Unplaced a e = cc
asked_ready p (Over x) a e = cc

-- the next ask of the top body is told
next_told : (p : Program) (t : TaskView) (n : ℕ) (w : What) (a : IsNext p t w) → IsTask p t → AllBelow n t.past → IsTold p (record { number = n; body = a.body; what = w } ∷ t.past)
next_told p t n w a k l = (k.told, below_rises n t.past l, own_tells p t.past n a.body w a.own a.asks)

-- a body of another number than the one on top is not on top
other_top : (t : TaskView) (b c : ℕ) → t.top ≡ Some b → (b == c) ≡ false → t.top ≡ Some c → ⊥
other_top t b c e o f = (let z : Some b ≡ Some c = sym e ∙ f in let w : b ≡ c = cc in eqb-false b c o w)

-- what an entry other than an end does to its own body
own_placed : (p : Program) (n : ℕ) (w : What) (m : ℕ → Option ℕ) (f : ℕ → Doing) (d : Doing) → IsOwn w → IsReady d → own p n w m f d ≡ Unplaced → ⊥
own_placed p n (Made c) m f (Ready s k rs) o r e = cc
own_placed p n (Sent o' j vs) m f (Ready s k rs) o r e = cc
own_placed p n (Called o' j vs) m f (Ready s k rs) o r e = cc
own_placed p n (Printed t) m f (Ready s k rs) o r e = cc
own_placed p n (Ended x) m f (Ready s k rs) o r e = cc
own_placed p n Begun m f (Ready s k rs) o r e = absurd o
own_placed p n (Fired k' o' ms vs) m f (Ready s k rs) o r e = absurd o
own_placed p n w m f (Waits s k rs q l) o r e = absurd r
own_placed p n w m f Absent o r e = absurd r
own_placed p n w m f Unplaced o r e = absurd r
own_placed p n w m f (Over x) o r e = absurd r

-- a body that serves a call has its entry there
serves_below : (p : Program) (n c q : ℕ) (h : List Entry) → AllBelow n h → serves p c h ≡ Some q → c < n
serves_below p n c q [] l s = cc
serves_below p n c q (e ∷ h) l s =
    elim (either (e.number == c)) [
      | inl y ↦ subst (λ z. z < n) (eqb-true e.number c y) l.0
      | inr o ↦ serves_below p n c q h l.1 (let z : serves p c (e ∷ h) ≡ serves p c h = rw o refl in sym z ∙ s)
    ]

-- what a body serves it serves after one more entry too
still_serves : (p : Program) (e : Entry) (c q : ℕ) (h : List Entry) → AllBelow e.number h → serves p c h ≡ Some q → serves p c (e ∷ h) ≡ Some q
still_serves p e c q h l s =
    let under = serves_below p e.number c q h l s in
    let o : (e.number == c) ≡ false = ne_eqb e.number c (λ z. omega (arith, z, under)) in
    rw o s

-- a call that a body waits for is served there after one more entry too
served_more : (p : Program) (e : Entry) (h : List Entry) (d : Doing) → AllBelow e.number h → IsServedThere p h d → IsServedThere p (e ∷ h) d
served_more p e h (Waits s k rs q l) a (c, f) = (c, still_serves p e c q h a f)
served_more p e h (Ready s k rs) a w = tt
served_more p e h Absent a w = tt
served_more p e h Unplaced a w = tt
served_more p e h (Over x) a w = tt

-- no end: the top body stays on top
pub task_note : (p : Program) (t : TaskView) (n : ℕ) (w : What) (a : IsNext p t w) → is_end w ≡ false → IsTask p t → AllBelow n t.past → IsTask p (after t n a.body w t.top)
task_note p t n w a no_end k l =
    let e : Entry = record { number = n; body = a.body; what = w } in
    let same : (c : ℕ) → (a.body == c) ≡ false → doing p (e ∷ t.past) c ≡ doing p t.past c =
    λ c o. other_body p e t.past c o (λ i. let z : true ≡ false = sym i ∙ no_end in cc)
    in
    record {
      told = next_told p t n w a k l;
      quiet = λ c d. elim (either (a.body == c)) [ inl y ↦ absurd (d (a.on_top ∙ ap Some (eqb-true a.body c y))) | inr o ↦ rw (same c o) (k.quiet c d) ];
      placed =
          λ c u.
          elim (either (a.body == c)) [
            | inl y ↦
                own_placed p n w _ (doing p t.past) (doing p t.past c) a.own
                (subst (λ i. IsReady (doing p t.past i)) (eqb-true a.body c y) (asked_ready p (doing p t.past a.body) _ a.asks.1)) (rw y at u)
            | inr o ↦ k.placed c (sym (same c o) ∙ u)
          ];
      below =
          λ c d.
          elim (either (a.body == c)) [
            | inl y ↦ absurd (d (a.on_top ∙ ap Some (eqb-true a.body c y)))
            | inr o ↦ subst (λ z. IsServedThere p (e ∷ t.past) z) (sym (same c o)) (served_more p e t.past (doing p t.past c) l (k.below c d))
          ];
    }

-- a body whose call is in the past is still so after an answer
answered_placed : (x : End) (c : Option ℕ) (d : Doing) → (d ≡ Unplaced → ⊥) → answered x c d ≡ Unplaced → ⊥
answered_placed x None d f e = f e
answered_placed x (Some c) (Waits s k rs q l) f e = elim (either (c == q)) [ inl y ↦ (let z : Ready s k (rs ++ x ∷ []) ≡ Unplaced = rw y at e in cc) | inr o ↦ (let z : Waits s k rs q l ≡ Unplaced = rw o at e in cc) ]
answered_placed x (Some c) (Ready s k rs) f e = cc
answered_placed x (Some c) Absent f e = cc
answered_placed x (Some c) Unplaced f e = f refl
answered_placed x (Some c) (Over y) f e = cc

-- an end: the body that waits for the call is on top
pub task_end : (p : Program) (t : TaskView) (n : ℕ) (x : End) (a : IsNext p t (Ended x)) (top : Option ℕ) → ((c : ℕ) → waits_for (serves p a.body t.past) (doing p t.past c) ≡ true → top ≡ Some c) → IsTask p t → AllBelow n t.past → IsTask p (after t n a.body (Ended x) top)
task_end p t n x a top f k l =
    record {
      told = next_told p t n (Ended x) a k l;
      quiet =
          λ c d.
          elim (either (a.body == c)) [
            | inl y ↦ rw y refl
            | inr o ↦
                elim (either (waits_for (serves p a.body t.past) (doing p t.past c))) [
                  | inl y ↦ absurd (d (f c y))
                  | inr z ↦ rw (o, answered_same x (serves p a.body t.past) (doing p t.past c) z) (k.quiet c (other_top t a.body c a.on_top o))
                ]
          ];
      placed =
          λ c u.
          elim (either (a.body == c)) [
            | inl y ↦ (let z : Over x ≡ Unplaced = rw y at u in cc)
            | inr o ↦ answered_placed x (serves p a.body t.past) (doing p t.past c) (k.placed c) (rw o at u)
          ];
      below =
          λ c d.
          elim (either (a.body == c)) [
            | inl y ↦ rw y tt
            | inr o ↦
                elim (either (waits_for (serves p a.body t.past) (doing p t.past c))) [
                  | inl y ↦ absurd (d (f c y))
                  | inr z ↦
                      rw (o, answered_same x (serves p a.body t.past) (doing p t.past c) z)
                      (served_more p (record { number = n; body = a.body; what = Ended x }) t.past (doing p t.past c) l (k.below c (other_top t a.body c a.on_top o)))
                ]
          ];
    }

-- the body that a served call gets is ready, one deeper than the place of the call
pub begun_ready : (p : Program) (t : TaskView) (s : Start) (q : ℕ) (w : TopWaitsFor p t q) → IsTask p t → begun s (Some q) (λ i. maker i t.past) (doing p t.past) ≡ Ready s (w.place + 1) []
begun_ready p t s q w k =
    let own : WaitsOn (λ i. maker i t.past ≡ Some w.body) (doing p t.past w.body) = told_waits p t.past w.body k.told in
    let made : maker q t.past ≡ Some w.body = subst (λ (d : Doing). WaitsOn (λ i. maker i t.past ≡ Some w.body) d) w.is own in
    rw (made, w.is, eq-eqb q q refl)

-- a firing in its caller's task: the new body is on top
pub task_resume : (p : Program) (t : TaskView) (n k : ℕ) (o : Object) (ms : List ℕ) (vs : List value.Value) (q : ℕ) → served p (Fired k o ms vs) ≡ Some q → TopWaitsFor p t q → IsTask p t → AllBelow n t.past → IsTask p (after t n n (Fired k o ms vs) (Some n))
task_resume p t n k o ms vs q s w i l =
    let ready : begun (Chord k o vs) (served p (Fired k o ms vs)) (λ j. maker j t.past) (doing p t.past) ≡ Ready (Chord k o vs) (w.place + 1) [] =
    ap (λ c. begun (Chord k o vs) c (λ j. maker j t.past) (doing p t.past)) s ∙ begun_ready p t (Chord k o vs) q w i
    in
    record {
      told = (i.told, below_rises n t.past l, refl);
      quiet =
          λ c d.
          elim (either (n == c)) [
            | inl y ↦ absurd (d (ap Some (eqb-true n c y)))
            | inr z ↦
                rw z
                (elim (either (w.body == c)) [
                  | inl y ↦ subst (λ j. asked p (doing p t.past j) ≡ None) (eqb-true w.body c y) (rw w.is refl)
                  | inr v ↦ i.quiet c (other_top t w.body c w.on_top v)
                ])
          ];
      placed =
          λ c u.
          elim (either (n == c)) [
            | inl y ↦ (let z : Ready (Chord k o vs) (w.place + 1) [] ≡ Unplaced = sym ready ∙ rw y at u in cc)
            | inr z ↦ i.placed c (rw z at u)
          ];
      below =
          λ c d.
          elim (either (n == c)) [
            | inl y ↦ absurd (d (ap Some (eqb-true n c y)))
            | inr z ↦
                rw z
                (elim (either (w.body == c)) [
                  | inl y ↦
                      subst (λ j. IsServedThere p (record { number = n; body = n; what = Fired k o ms vs } ∷ t.past) (doing p t.past j)) (eqb-true w.body c y)
                      (subst (λ v. IsServedThere p (record { number = n; body = n; what = Fired k o ms vs } ∷ t.past) v) (sym w.is) (n, let a : (n == n) ≡ true = eq-eqb n n refl in rw a s))
                  | inr v ↦ served_more p (record { number = n; body = n; what = Fired k o ms vs }) t.past (doing p t.past c) l (i.below c (other_top t w.body c w.on_top v))
                ])
          ];
    }

-- a firing that serves no call, in a task that is over
pub task_spare : (p : Program) (t : TaskView) (n k : ℕ) (o : Object) (ms : List ℕ) (vs : List value.Value) → served p (Fired k o ms vs) ≡ None → t.top ≡ None → IsTask p t → AllBelow n t.past → IsTask p (after t n n (Fired k o ms vs) (Some n))
task_spare p t n k o ms vs s e i l =
    let ready : begun (Chord k o vs) (served p (Fired k o ms vs)) (λ j. maker j t.past) (doing p t.past) ≡ Ready (Chord k o vs) 1 [] =
    ap (λ c. begun (Chord k o vs) c (λ j. maker j t.past) (doing p t.past)) s
    in
    record {
      told = (i.told, below_rises n t.past l, refl);
      quiet =
          λ c d.
          elim (either (n == c)) [
            | inl y ↦ absurd (d (ap Some (eqb-true n c y)))
            | inr z ↦ rw z (i.quiet c (λ f. let a : ◌≡◌ {A = Option ℕ} None (Some c) = sym e ∙ f in cc))
          ];
      placed =
          λ c u.
          elim (either (n == c)) [
            | inl y ↦ (let z : Ready (Chord k o vs) 1 [] ≡ Unplaced = sym ready ∙ rw y at u in cc)
            | inr z ↦ i.placed c (rw z at u)
          ];
      below =
          λ c d.
          elim (either (n == c)) [
            | inl y ↦ absurd (d (ap Some (eqb-true n c y)))
            | inr z ↦ rw z (served_more p (record { number = n; body = n; what = Fired k o ms vs }) t.past (doing p t.past c) l (i.below c (λ f. let a : ◌≡◌ {A = Option ℕ} None (Some c) = sym e ∙ f in cc)))
          ];
    }

-- a ready body that calls waits for that call
pub called_waits : (p : Program) (t : TaskView) (n : ℕ) (o : Object) (j : ℕ) (vs : List value.Value) (a : IsNext p t (Called o j vs)) (s : Start) (d : ℕ) (rs : List End) → doing p t.past a.body ≡ Ready s d rs → TopWaitsFor p (after t n a.body (Called o j vs) t.top) n
called_waits p t n o j vs a s d rs e =
    record {
      body = a.body;
      on_top = a.on_top;
      start = s;
      depth = d;
      answers = rs;
      place = ask_depth (p.next s d rs);
      is = rw (eq-eqb a.body a.body refl, e);
    }

-- a caller whose call's body has ended is ready again, with this answer
pub caller_ready : (p : Program) (t : TaskView) (n b c q l d : ℕ) (x : End) (s : Start) (rs : List End) → (b == c) ≡ false → serves p b t.past ≡ Some q → doing p t.past c ≡ Waits s d rs q l → doing p (record { number = n; body = b; what = Ended x } ∷ t.past) c ≡ Ready s d (rs ++ x ∷ [])
caller_ready p t n b c q l d x s rs o f e = call_answered p (record { number = n; body = b; what = Ended x }) t.past c x s d rs q l o refl e f
