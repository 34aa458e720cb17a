-- Two programs that agree in their runs have the same runs.
use Rattle.std.proofs.Common.{◌≡◌, ℕ, Bool, true, false, ◌==◌, List, [], ◌∷◌, Option, refl, sym, ap, ◌∙◌}
use Rattle.std.specs.Prelude.{if◌then◌else◌}
use Rattle.chord_base.specs.declared.event.End.{End}
use Rattle.chord_base.specs.declared.event.What.{What}
use Rattle.chord_base.specs.declared.event.What.TheVariants.{Begun, Made, Sent, Called, Printed, Fired, Ended}
use Rattle.chord_base.specs.declared.event.Entry.{Entry}
use Rattle.chord_base.specs.Meaning.{Program, Start, Chord, Asked}
use Rattle.chord_base.specs.Messages.{maker}
use Rattle.chord_base.specs.Bodies.{Doing, Absent, Unplaced, Ready, Waits, Over, ask_depth, waiting, served, begun, own, heard, doing, serves, asked}
use Rattle.chord_base.specs.Machine.{IsPast, IsFinal, Comes}
use Rattle.chord_base.specs.Agreement.{AgreeInRuns, SameRuns}

-- programs that agree in runs say the same of the call that a firing serves
served_same : (p q : Program) → AgreeInRuns p q → (w : What) → served p w ≡ served q w
served_same p q a (Fired k o ms vs) = rw (a.chords, a.is_sync) refl
served_same p q a Begun = refl
served_same p q a (Made c) = refl
served_same p q a (Sent o j vs) = refl
served_same p q a (Called o j vs) = refl
served_same p q a (Printed t) = refl
served_same p q a (Ended x) = refl

-- a choice between equal branches gives equal results
if_same : {A : Type 0} (b : Bool) (x y u v : A) → x ≡ u → y ≡ v → (if b then x else y) ≡ (if b then u else v)
if_same true x y u v e f = e
if_same false x y u v e f = f

-- programs that agree in runs say the same of the call that a body serves
serves_same : (p q : Program) → AgreeInRuns p q → (b : ℕ) (h : List Entry) → serves p b h ≡ serves q b h
serves_same p q a b [] = refl
serves_same p q a b (e ∷ h) = if_same (e.number == b) (served p e.what) (serves p b h) (served q e.what) (serves q b h) (served_same p q a e.what) (serves_same p q a b h)

-- a body that makes a call then does the same in two programs that have the same next ask for it
waiting_same : (p q : Program) (n : ℕ) (d : Doing) → ((s : Start) (k : ℕ) (rs : List End) → d ≡ Ready s k rs → p.next s k rs ≡ q.next s k rs) → waiting p n d ≡ waiting q n d
waiting_same p q n (Ready s k rs) f = ap (λ (z : Option Asked). Waits s k rs n (ask_depth z)) (f s k rs refl)
waiting_same p q n (Waits s k rs c l) f = refl
waiting_same p q n Absent f = refl
waiting_same p q n Unplaced f = refl
waiting_same p q n (Over x) f = refl

-- after an entry of its own a body does the same in programs that agree in runs and have the same next ask for it
own_same : (p q : Program) → AgreeInRuns p q → (n : ℕ) (w : What) (m : ℕ → Option ℕ) (f g : ℕ → Doing) (d : Doing) → f ≡ g
    → ((s : Start) (k : ℕ) (rs : List End) → d ≡ Ready s k rs → p.next s k rs ≡ q.next s k rs) → own p n w m f d ≡ own q n w m g d
own_same p q a n (Fired k o ms vs) m f g d e next = ap (λ (z : Option ℕ). begun (Chord k o vs) z m f) (served_same p q a (Fired k o ms vs)) ∙ ap (λ (z : ℕ → Doing). begun (Chord k o vs) (served q (Fired k o ms vs)) m z) e
own_same p q a n (Called o j vs) m f g d e next = waiting_same p q n d next
own_same p q a n Begun m f g d e next = refl
own_same p q a n (Made c) m f g d e next = refl
own_same p q a n (Sent o j vs) m f g d e next = refl
own_same p q a n (Printed t) m f g d e next = refl
own_same p q a n (Ended x) m f g d e next = refl

-- each body does the same
pub doing_same : (p q : Program) → AgreeInRuns p q → (h : List Entry) → IsPast p h → (b : ℕ) → doing p h b ≡ doing q h b
doing_same p q a [] past b = refl
doing_same p q a (e ∷ h) past b =
    let before : doing p h ≡ doing q h = λ i c. doing_same p q a h past.0 c i in
    if_same (e.body == b) (own p e.number e.what (λ c. maker c h) (doing p h) (doing p h b)) (heard e.what (serves p e.body h) (doing p h b)) _ _
    (own_same p q a e.number e.what (λ c. maker c h) (doing p h) (doing q h) (doing p h b) before (λ s k rs is. a.next h b k s rs past.0 is) ∙ ap (λ (z : Doing). own q e.number e.what (λ c. maker c h) (doing q h) z) (doing_same p q a h past.0 b))
    (ap (λ (z : Option ℕ). heard e.what z (doing p h b)) (serves_same p q a e.body h) ∙ ap (λ (z : Doing). heard e.what (serves q e.body h) z) (doing_same p q a h past.0 b))

-- a body asks the same in two programs that have the same next ask for it
asked_same : (p q : Program) (d : Doing) → ((s : Start) (k : ℕ) (rs : List End) → d ≡ Ready s k rs → p.next s k rs ≡ q.next s k rs) → asked p d ≡ asked q d
asked_same p q (Ready s k rs) f = f s k rs refl
asked_same p q (Waits s k rs c l) f = refl
asked_same p q Absent f = refl
asked_same p q Unplaced f = refl
asked_same p q (Over x) f = refl

-- each body asks the same
asks_same : (p q : Program) → AgreeInRuns p q → (h : List Entry) → IsPast p h → (b : ℕ) → asked p (doing p h b) ≡ asked q (doing q h b)
asks_same p q a h past b = asked_same p q (doing p h b) (λ s k rs is. a.next h b k s rs past is) ∙ ap (asked q) (doing_same p q a h past b)

-- what may come next in a run of the first of two programs that agree in runs may come next in the second
comes_on : (p q : Program) → AgreeInRuns p q → (h : List Entry) → IsPast p h → (n b : ℕ) (w : What) → Comes p h n b w → Comes q h n b w
comes_on p q a h past n b Begun c = c
comes_on p q a h past n b (Fired k o ms vs) c = (c.0, (c.1.0, rw (sym a.chords) c.1.1, c.1.2))
comes_on p q a h past n b (Made x) c = (c.0, rw (sym (asks_same p q a h past b)) c.1)
comes_on p q a h past n b (Sent o j vs) c = (c.0, rw (sym (asks_same p q a h past b)) c.1)
comes_on p q a h past n b (Called o j vs) c = (c.0, rw (sym (asks_same p q a h past b)) c.1)
comes_on p q a h past n b (Printed t) c = (c.0, rw (sym (asks_same p q a h past b)) c.1)
comes_on p q a h past n b (Ended x) c = (c.0, rw (sym (asks_same p q a h past b)) c.1)

-- what may come next in the second of two programs that agree in runs, after a run of the first, may come next in the first
comes_back : (p q : Program) → AgreeInRuns p q → (h : List Entry) → IsPast p h → (n b : ℕ) (w : What) → Comes q h n b w → Comes p h n b w
comes_back p q a h past n b Begun c = c
comes_back p q a h past n b (Fired k o ms vs) c = (c.0, (c.1.0, rw a.chords c.1.1, c.1.2))
comes_back p q a h past n b (Made x) c = (c.0, rw (asks_same p q a h past b) c.1)
comes_back p q a h past n b (Sent o j vs) c = (c.0, rw (asks_same p q a h past b) c.1)
comes_back p q a h past n b (Called o j vs) c = (c.0, rw (asks_same p q a h past b) c.1)
comes_back p q a h past n b (Printed t) c = (c.0, rw (asks_same p q a h past b) c.1)
comes_back p q a h past n b (Ended x) c = (c.0, rw (asks_same p q a h past b) c.1)

-- of two programs that agree in runs each past of the first is one of the second
pub past_same : (p q : Program) → AgreeInRuns p q → (h : List Entry) → IsPast p h → IsPast q h
past_same p q a [] past = tt
past_same p q a (e ∷ h) past = (past_same p q a h past.0, record { numbered = past.1.numbered; comes = comes_on p q a h past.0 e.number e.body e.what past.1.comes })

-- and each past of the second is one of the first
past_back : (p q : Program) → AgreeInRuns p q → (h : List Entry) → IsPast q h → IsPast p h
past_back p q a [] past = tt
past_back p q a (e ∷ h) past = let before : IsPast p h = past_back p q a h past.0 in (before, record { numbered = past.1.numbered; comes = comes_back p q a h before e.number e.body e.what past.1.comes })

-- a final past of the first is one of the second
final_same : (p q : Program) → AgreeInRuns p q → (h : List Entry) → IsFinal p h → IsFinal q h
final_same p q a h f = record {
  past = past_same p q a h f.past;
  nothing = λ e may. f.nothing e (record { numbered = may.numbered; comes = comes_back p q a h f.past e.number e.body e.what may.comes });
}

-- and a final past of the second is one of the first
final_back : (p q : Program) → AgreeInRuns p q → (h : List Entry) → IsFinal q h → IsFinal p h
final_back p q a h f = let past : IsPast p h = past_back p q a h f.past in record {
  past = past;
  nothing = λ e may. f.nothing e (record { numbered = may.numbered; comes = comes_on p q a h past e.number e.body e.what may.comes });
}

pub same_runs : SameRuns
same_runs p q h a = ((past_same p q a h, past_back p q a h), (final_same p q a h, final_back p q a h))
