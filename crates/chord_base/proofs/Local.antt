-- What an entry changes for the other bodies.
use Rattle.std.proofs.Common.{◌≡◌, ℕ, Bool, true, false, ◌==◌, List, [], ◌∷◌, ◌++◌, Option, Some, None, refl, sym, subst, inl, inr}
use Rattle.std.proofs.lemmas.Bool.{eq-eqb, eqb-true, ne_eqb}
use Rattle.chord_base.specs.declared.event.End.{End}
use Rattle.chord_base.specs.declared.event.What.{What}
use Rattle.chord_base.specs.declared.event.What.TheVariants.{Begun, Made, Sent, Called, Printed, Fired, Ended}
use Rattle.chord_base.specs.declared.event.Entry.{Entry}
use Rattle.chord_base.specs.Meaning.{Program, Start}
use Rattle.chord_base.specs.Bodies.{Doing, Absent, Unplaced, Ready, Waits, Over, WaitsFor, answered, heard, doing, serves}
use Rattle.chord_base.specs.Messages.{maker}
use Rattle.chord_base.specs.Laws.{OthersChangeNothing, EndAnswersCaller, CallerMadeCall}
use Rattle.chord_base.specs.Printed.{is_end}
use Rattle.chord_base.proofs.Waits.{either, WaitsOn, waits_for_own}

-- the body waits for this call
abbrev pub waits_for : Option ℕ → Doing → Bool
waits_for None d = false
waits_for (Some c) (Waits s d rs q l) = c == q
waits_for (Some c) (Ready s d rs) = false
waits_for (Some c) Absent = false
waits_for (Some c) Unplaced = false
waits_for (Some c) (Over x) = false

-- an end changes nothing of a body that does not wait for the call that it answers
pub answered_same : (x : End) (c : Option ℕ) (d : Doing) → waits_for c d ≡ false → answered x c d ≡ d
answered_same x None d n = refl
answered_same x (Some c) (Waits s d rs q l) n = rw n
answered_same x (Some c) (Ready s d rs) n = refl
answered_same x (Some c) Absent n = refl
answered_same x (Some c) Unplaced n = refl
answered_same x (Some c) (Over y) n = refl

-- an entry of another body changes nothing, unless it is an end and the body waits for the call that it answers
pub heard_same : (w : What) (c : Option ℕ) (d : Doing) → (is_end w ≡ true → waits_for c d ≡ false) → heard w c d ≡ d
heard_same (Ended x) c d n = answered_same x c d (n refl)
heard_same Begun c d n = refl
heard_same (Made k) c d n = refl
heard_same (Sent o j vs) c d n = refl
heard_same (Called o j vs) c d n = refl
heard_same (Printed t) c d n = refl
heard_same (Fired k o ms vs) c d n = refl

-- an entry of another body changes nothing, unless it ends the body that serves this one's open call
pub other_body : (p : Program) (e : Entry) (h : List Entry) (b : ℕ) → (e.body == b) ≡ false → (is_end e.what ≡ true → waits_for (serves p e.body h) (doing p h b) ≡ false) → doing p (e ∷ h) b ≡ doing p h b
other_body p e h b n m = rw n (heard_same e.what (serves p e.body h) (doing p h b) m)

-- the end of the serving body is the caller's answer
pub call_answered : (p : Program) (e : Entry) (h : List Entry) (b : ℕ) (x : End) (s : Start) (d : ℕ) (rs : List End) (q l : ℕ) → (e.body == b) ≡ false → e.what ≡ Ended x → doing p h b ≡ Waits s d rs q l → serves p e.body h ≡ Some q → doing p (e ∷ h) b ≡ Ready s d (rs ++ x ∷ [])
call_answered p e h b x s d rs q l n w o c = rw (n, w, c, o, eq-eqb q q refl)

-- an entry that is an end says how a body ended
end_of : (w : What) → is_end w ≡ true → (x : End) × (w ≡ Ended x)
end_of (Ended x) e = (x, refl)
end_of Begun e = cc
end_of (Made k) e = cc
end_of (Sent o j vs) e = cc
end_of (Called o j vs) e = cc
end_of (Printed t) e = cc
end_of (Fired k o ms vs) e = cc

-- where a body waits for the call that is served, there is such a call
waits_of : (c : Option ℕ) (d : Doing) → waits_for c d ≡ true → (q : ℕ) × (c ≡ Some q) × WaitsFor q d
waits_of None d e = cc
waits_of (Some c) (Waits s d rs q l) e = (c, refl, eqb-true c q e)
waits_of (Some c) (Ready s d rs) e = cc
waits_of (Some c) Absent e = cc
waits_of (Some c) Unplaced e = cc
waits_of (Some c) (Over x) e = cc

-- an entry of another body changes nothing, unless it ends the body that serves this one's open call
pub others_change_nothing : OthersChangeNothing
others_change_nothing p e h b other unless =
    other_body p e h b (ne_eqb e.body b other)
    (λ is.
    elim (either (waits_for (serves p e.body h) (doing p h b))) [
      | inl y ↦ (let x = end_of e.what is in let w = waits_of (serves p e.body h) (doing p h b) y in absurd (unless (x.0, w.0, x.1, w.1, w.2)))
      | inr n ↦ n
    ])

-- the end of the body that serves a call is the answer of the caller
pub end_answers_caller : EndAnswersCaller
end_answers_caller p e h b q d l x s rs other is serving waits = call_answered p e h b x s d rs q l (ne_eqb e.body b other) is waits serving

-- where each call that a body waits for has a property, the one that it waits for has it
pub waits_on_it : (P : ℕ → Type 0) (q : ℕ) (d : Doing) → WaitsOn P d → WaitsFor q d → P q
waits_on_it P q (Waits s d rs c l) w e = subst P (sym e) w
waits_on_it P q (Ready s d rs) w e = absurd e
waits_on_it P q Absent w e = absurd e
waits_on_it P q Unplaced w e = absurd e
waits_on_it P q (Over x) w e = absurd e

-- a body waits for a call that it has made itself
pub caller_made_call : CallerMadeCall
caller_made_call p h b q r w = waits_on_it (λ i. maker i h ≡ Some b) q (doing p h b) (waits_for_own p h b r) w
