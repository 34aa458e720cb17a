-- A body's next ask in the story that keeps it is its next ask in the whole journal.
use Rattle.std.proofs.Common.{◌≡◌, ℕ, Bool, true, false, ◌==◌, List, [], ◌∷◌, Option, Some, None, refl, sym, ap, ◌∙◌, subst, ◌⊎◌, inl, inr}
use Rattle.std.proofs.lemmas.Bool.{eq-eqb, eqb-true}
use Rattle.chord_base.specs.declared.event.End.{End}
use Rattle.chord_base.specs.declared.event.What.{What}
use Rattle.chord_base.specs.declared.event.What.TheVariants.{Begun, Made, Sent, Called, Printed, Fired, Ended}
use Rattle.chord_base.specs.declared.event.Entry.{Entry}
use Rattle.chord_base.proofs.Waits.{either, Known, WaitsOn, own_waits, heard_waits}
use Rattle.chord_base.proofs.Local.{waits_for, heard_same}
use Rattle.chord_base.specs.Meaning.{Program, Start, Chord, Asked}
use Rattle.chord_base.specs.Messages.{maker}
use Rattle.chord_base.specs.Bodies.{Doing, Absent, Unplaced, Ready, Waits, Over, waiting, served, placed, begun, begun_by, own, answered, heard, doing, serves, asked, Asks}
use Rattle.chord_base.specs.Story.{kept, IsTold, AreTold, Tells}
use Rattle.chord_base.specs.Printed.{is_end}

-- the first does what the second does, or does not know its call
abbrev pub Agrees : Doing → Doing → Type 0
Agrees Unplaced d = Unit {0}
Agrees Absent d = Absent ≡ d
Agrees (Ready s k rs) d = Ready s k rs ≡ d
Agrees (Waits s k rs q l) d = Waits s k rs q l ≡ d
Agrees (Over x) d = Over x ≡ d

-- each body's doing agrees with itself
agrees_refl : (d : Doing) → Agrees d d
agrees_refl Absent = refl
agrees_refl Unplaced = tt
agrees_refl (Ready s k rs) = refl
agrees_refl (Waits s k rs q l) = refl
agrees_refl (Over x) = refl

-- a function that leaves an unplaced body unplaced keeps this
agrees_through : (f : Doing → Doing) (d d' : Doing) → f Unplaced ≡ Unplaced → Agrees d d' → Agrees (f d) (f d')
agrees_through f Unplaced d' u a = let g : Doing → Type 0 = λ o. Agrees o (f d') in subst g (sym u) tt
agrees_through f Absent d' u a = subst (λ (o : Doing). Agrees (f Absent) (f o)) a (agrees_refl (f Absent))
agrees_through f (Ready s k rs) d' u a = subst (λ (o : Doing). Agrees (f (Ready s k rs)) (f o)) a (agrees_refl (f (Ready s k rs)))
agrees_through f (Waits s k rs q l) d' u a = subst (λ (o : Doing). Agrees (f (Waits s k rs q l)) (f o)) a (agrees_refl (f (Waits s k rs q l)))
agrees_through f (Over x) d' u a = subst (λ (o : Doing). Agrees (f (Over x)) (f o)) a (agrees_refl (f (Over x)))

-- each entry is kept with its body, and the end of a body with the call that it serves
abbrev pub IsWhole : Program → (ℕ → Bool) → List Entry → Type 0
IsWhole p keep [] = Unit {0}
IsWhole p keep (e ∷ h) =
    IsWhole p keep h × (keep e.number ≡ keep e.body) × (is_end e.what ≡ true → (q : ℕ) → serves p e.body h ≡ Some q → keep q ≡ keep e.body)

-- a number that is not kept is not this one
other_number : (keep : ℕ → Bool) (m n : ℕ) → keep m ≡ false → keep n ≡ true → (m == n) ≡ false
other_number keep m n out in_it =
    elim (either (m == n)) [ inl same ↦ (let e : true ≡ false = sym in_it ∙ ap keep (sym (eqb-true m n same)) ∙ out in cc) | inr o ↦ o ]

-- looking up a kept number
kept_maker : (keep : ℕ → Bool) (n : ℕ) (h : List Entry) → keep n ≡ true → maker n (kept keep h) ≡ maker n h
kept_maker keep n [] k = refl
kept_maker keep n (e ∷ h) k =
    elim (either (keep e.number)) [
      | inl y ↦ rw (y, kept_maker keep n h k)
      | inr o ↦ rw (o, other_number keep e.number n o k, kept_maker keep n h k)
    ]

-- of a body whose first entry's number is kept, what is kept tells the call that it serves as the whole history does
kept_serves : (p : Program) (keep : ℕ → Bool) (n : ℕ) (h : List Entry) → keep n ≡ true → serves p n (kept keep h) ≡ serves p n h
kept_serves p keep n [] k = refl
kept_serves p keep n (e ∷ h) k =
    elim (either (keep e.number)) [
      | inl y ↦ rw (y, kept_serves p keep n h k)
      | inr o ↦ rw (o, other_number keep e.number n o k, kept_serves p keep n h k)
    ]

-- the maker of a kept entry is kept
kept_with_maker : (p : Program) (keep : ℕ → Bool) (h : List Entry) (n b : ℕ) → IsWhole p keep h → maker n h ≡ Some b → keep n ≡ keep b
kept_with_maker p keep [] n b w m = cc
kept_with_maker p keep (e ∷ h) n b w m =
    elim (either (e.number == n)) [
      | inl y ↦ (let i : Some e.body ≡ Some b = rw y at m in let j : e.body ≡ b = cc in ap keep (sym (eqb-true e.number n y)) ∙ w.1 ∙ ap keep j)
      | inr o ↦ kept_with_maker p keep h n b w.0 (rw o at m)
    ]

-- where a place keeps each body whole, a body waits only for calls that are kept exactly where the body is
doing_waits : (p : Program) (keep : ℕ → Bool) (h : List Entry) (b : ℕ) → IsWhole p keep h → WaitsOn (λ q. keep q ≡ keep b) (doing p h b)
doing_waits p keep [] b w = tt
doing_waits p keep (e ∷ h) b w =
    elim (either (e.body == b)) [
      | inl y ↦ rw y (own_waits p (λ q. keep q ≡ keep b) e.number e.what _ (doing p h) (doing p h b) (w.1 ∙ ap keep (eqb-true e.body b y)) (doing_waits p keep h b w.0))
      | inr o ↦ rw o (heard_waits (λ q. keep q ≡ keep b) e.what (serves p e.body h) (doing p h b) (doing_waits p keep h b w.0))
    ]

-- an entry whose number is not kept has no maker in what is kept
kept_no_maker : (keep : ℕ → Bool) (n : ℕ) (h : List Entry) → keep n ≡ false → maker n (kept keep h) ≡ None
kept_no_maker keep n [] k = refl
kept_no_maker keep n (e ∷ h) k =
    elim (either (keep e.number)) [
      | inl y ↦ (let o : (e.number == n) ≡ false = elim (either (e.number == n)) [ inl same ↦ (let c : true ≡ false = sym y ∙ ap keep (eqb-true e.number n same) ∙ k in cc) | inr o ↦ o ] in rw (y, o, kept_no_maker keep n h k))
      | inr o ↦ rw (o, kept_no_maker keep n h k)
    ]

-- an entry of another body leaves a body that lacks its call as it is
heard_unplaced : (w : What) (c : Option ℕ) → heard w c Unplaced ≡ Unplaced
heard_unplaced (Ended x) None = refl
heard_unplaced (Ended x) (Some c) = refl
heard_unplaced Begun c = refl
heard_unplaced (Made k) c = refl
heard_unplaced (Sent o j vs) c = refl
heard_unplaced (Called o j vs) c = refl
heard_unplaced (Printed t) c = refl
heard_unplaced (Fired k o ms vs) c = refl

-- a kept body does not wait for a call that a body kept elsewhere serves
not_waiting : (keep : ℕ → Bool) (b b' : ℕ) (c : Option ℕ) (d : Doing) → WaitsOn (λ q. keep q ≡ keep b) d → keep b ≡ true → keep b' ≡ false → ((q : ℕ) → c ≡ Some q → keep q ≡ keep b') → waits_for c d ≡ false
not_waiting keep b b' None d w y out ends = refl
not_waiting keep b b' (Some c) (Waits s k rs q l) w y out ends = other_number keep c q (ends c refl ∙ out) (w ∙ y)
not_waiting keep b b' (Some c) (Ready s k rs) w y out ends = refl
not_waiting keep b b' (Some c) Absent w y out ends = refl
not_waiting keep b b' (Some c) Unplaced w y out ends = refl
not_waiting keep b b' (Some c) (Over x) w y out ends = refl

module _ (p : Program) (keep : ℕ → Bool) (h : List Entry) (w : IsWhole p keep h) (ih : (b : ℕ) → keep b ≡ true → Agrees (doing p (kept keep h) b) (doing p h b)) where
  -- how a body begins by the maker of a kept call, if there is one, agrees in what is kept with the whole history
  by_maker : (s : Start) (q : ℕ) (o : Option ℕ) → maker q h ≡ o → keep q ≡ true → Agrees (begun_by s q o (doing p (kept keep h))) (begun_by s q o (doing p h))
  by_maker s q None m y = tt
  by_maker s q (Some b) m y =
      agrees_through (placed s q) (doing p (kept keep h) b) (doing p h b) refl (ih b (sym (kept_with_maker p keep h q b w m) ∙ y))

  -- how a body begins that serves a call agrees in what is kept with the whole history
  begun_some_agrees : (s : Start) (q : ℕ) → Agrees (begun_by s q (maker q (kept keep h)) (doing p (kept keep h))) (begun_by s q (maker q h) (doing p h))
  begun_some_agrees s q =
      elim (either (keep q)) [
        | inl y ↦ rw (kept_maker keep q h y) (by_maker s q (maker q h) refl y)
        | inr o ↦ rw (kept_no_maker keep q h o) tt
      ]

  -- how a body begins agrees in what is kept with the whole history
  begun_agrees : (s : Start) (c : Option ℕ) → Agrees (begun s c (λ q. maker q (kept keep h)) (doing p (kept keep h))) (begun s c (λ q. maker q h) (doing p h))
  begun_agrees s None = refl
  begun_agrees s (Some q) = begun_some_agrees s q

  -- what a kept body does after an entry of its own agrees in what is kept with the whole history
  own_agrees : (b n : ℕ) (what : What) → keep b ≡ true → Agrees (own p n what (λ q. maker q (kept keep h)) (doing p (kept keep h)) (doing p (kept keep h) b)) (own p n what (λ q. maker q h) (doing p h) (doing p h b))
  own_agrees b n Begun y = refl
  own_agrees b n (Fired k o ms vs) y = begun_agrees (Chord k o vs) (served p (Fired k o ms vs))
  own_agrees b n (Made c) y = agrees_through (λ d. own p n (Made c) (λ q. None) (doing p h) d) (doing p (kept keep h) b) (doing p h b) refl (ih b y)
  own_agrees b n (Sent o j vs) y = agrees_through (λ d. own p n (Sent o j vs) (λ q. None) (doing p h) d) (doing p (kept keep h) b) (doing p h b) refl (ih b y)
  own_agrees b n (Printed t) y = agrees_through (λ d. own p n (Printed t) (λ q. None) (doing p h) d) (doing p (kept keep h) b) (doing p h b) refl (ih b y)
  own_agrees b n (Called o j vs) y = agrees_through (waiting p n) (doing p (kept keep h) b) (doing p h b) refl (ih b y)
  own_agrees b n (Ended x) y = refl

  -- what a kept body does after a kept entry of another body agrees in what is kept with the whole history
  heard_agrees : (b : ℕ) (what : What) (c : Option ℕ) → keep b ≡ true → Agrees (heard what c (doing p (kept keep h) b)) (heard what c (doing p h b))
  heard_agrees b what c y = agrees_through (heard what c) (doing p (kept keep h) b) (doing p h b) (heard_unplaced what c) (ih b y)

  -- an entry that is kept elsewhere
  away_agrees : (e : Entry) (b : ℕ) → keep b ≡ true → keep e.body ≡ false → (is_end e.what ≡ true → (q : ℕ) → serves p e.body h ≡ Some q → keep q ≡ keep e.body) → Agrees (doing p (kept keep h) b) (heard e.what (serves p e.body h) (doing p h b))
  away_agrees e b y out ends = rw (heard_same e.what (serves p e.body h) (doing p h b) (λ is. not_waiting keep b e.body (serves p e.body h) (doing p h b) (doing_waits p keep h b w) y out (ends is))) (ih b y)

-- what a place keeps whole of a body agrees with what the body does in the whole history
pub agrees : (p : Program) (keep : ℕ → Bool) (h : List Entry) → IsWhole p keep h → (b : ℕ) → keep b ≡ true → Agrees (doing p (kept keep h) b) (doing p h b)
agrees p keep [] w b y = refl
agrees p keep (e ∷ h) w b y =
    elim (either (keep e.number)) [
      | inl in_it ↦
          rw in_it
          (elim (either (e.body == b)) [
            | inl same ↦ rw same (own_agrees p keep h w.0 (agrees p keep h w.0) b e.number e.what y)
            | inr other ↦ rw (other, kept_serves p keep e.body h (sym w.1 ∙ in_it)) (heard_agrees p keep h w.0 (agrees p keep h w.0) b e.what (serves p e.body h) y)
          ])
      | inr out ↦ rw (out, other_number keep e.body b (sym w.1 ∙ out) y) (away_agrees p keep h w.0 (agrees p keep h w.0) e b y (sym w.1 ∙ out) w.2)
    ]

-- an entry that is known stays known after one more
known_more : (n : ℕ) (e : Entry) (h : List Entry) → Known n h → Known n (e ∷ h)
known_more n e h k = elim (either (e.number == n)) [ inl y ↦ (e.body, rw y refl) | inr o ↦ (k.0, rw o k.1) ]

-- what is known of what is kept was kept
pub known_kept : (keep : ℕ → Bool) (n : ℕ) (h : List Entry) → Known n (kept keep h) → keep n ≡ true
known_kept keep n h k =
    elim (either (keep n)) [ inl y ↦ y | inr o ↦ (let c : ◌≡◌ {A = Option ℕ} None (Some k.0) = sym (kept_no_maker keep n h o) ∙ k.1 in cc) ]

-- the body has an entry, and the call that it serves is there
abbrev pub IsPlaced : Doing → Type 0
IsPlaced Absent = ⊥
IsPlaced Unplaced = ⊥
IsPlaced (Ready s k rs) = Unit {0}
IsPlaced (Waits s k rs q l) = Unit {0}
IsPlaced (Over x) = Unit {0}

-- the body has an entry
abbrev pub IsSeen : Doing → Type 0
IsSeen Absent = ⊥
IsSeen Unplaced = Unit {0}
IsSeen (Ready s k rs) = Unit {0}
IsSeen (Waits s k rs q l) = Unit {0}
IsSeen (Over x) = Unit {0}

-- a body that asks is placed
pub asked_placed : (p : Program) (d : Doing) (a : Asked) → asked p d ≡ Some a → IsPlaced d
asked_placed p (Ready s k rs) a e = tt
asked_placed p (Waits s k rs q l) a e = tt
asked_placed p (Over x) a e = tt
asked_placed p Absent a e = cc
asked_placed p Unplaced a e = cc

-- a placed body is seen
pub placed_seen : (d : Doing) → IsPlaced d → IsSeen d
placed_seen (Ready s k rs) e = tt
placed_seen (Waits s k rs q l) e = tt
placed_seen (Over x) e = tt
placed_seen Absent e = absurd e
placed_seen Unplaced e = absurd e

-- a body that has an entry after the end of another body had one before
answered_seen : (x : End) (c : Option ℕ) (d : Doing) → IsSeen (answered x c d) → IsSeen d
answered_seen x None d s = s
answered_seen x (Some c) (Waits st k rs q l) s = tt
answered_seen x (Some c) (Ready st k rs) s = tt
answered_seen x (Some c) Absent s = s
answered_seen x (Some c) Unplaced s = tt
answered_seen x (Some c) (Over y) s = tt

-- a body that has an entry after an entry of another body had one before
heard_seen : (w : What) (c : Option ℕ) (d : Doing) → IsSeen (heard w c d) → IsSeen d
heard_seen (Ended x) c d s = answered_seen x c d s
heard_seen Begun c d s = s
heard_seen (Made k) c d s = s
heard_seen (Sent o j vs) c d s = s
heard_seen (Called o j vs) c d s = s
heard_seen (Printed t) c d s = s
heard_seen (Fired k o ms vs) c d s = s

-- a body that is placed after the end of another body was placed before
answered_placed : (x : End) (c : Option ℕ) (d : Doing) → IsPlaced (answered x c d) → IsPlaced d
answered_placed x None d s = s
answered_placed x (Some c) (Waits st k rs q l) s = tt
answered_placed x (Some c) (Ready st k rs) s = tt
answered_placed x (Some c) Absent s = s
answered_placed x (Some c) Unplaced s = s
answered_placed x (Some c) (Over y) s = tt

-- a body that is placed after an entry of another body was placed before
heard_placed : (w : What) (c : Option ℕ) (d : Doing) → IsPlaced (heard w c d) → IsPlaced d
heard_placed (Ended x) c d s = answered_placed x c d s
heard_placed Begun c d s = s
heard_placed (Made k) c d s = s
heard_placed (Sent o j vs) c d s = s
heard_placed (Called o j vs) c d s = s
heard_placed (Printed t) c d s = s
heard_placed (Fired k o ms vs) c d s = s

-- what is told of a body is its first entry or its next ask
pub first_or_next : (p : Program) (h : List Entry) (n b : ℕ) (w : What) → Tells p h n b w → (b ≡ n) ⊎ Asks p h b w
first_or_next p h n b Begun t = inl t
first_or_next p h n b (Fired k o ms vs) t = inl t
first_or_next p h n b (Made c) t = inr t
first_or_next p h n b (Sent o j vs) t = inr t
first_or_next p h n b (Called o j vs) t = inr t
first_or_next p h n b (Printed t') t = inr t
first_or_next p h n b (Ended x) t = inr t

-- a body that has an entry has its first one
pub body_known : (p : Program) (h : List Entry) (b : ℕ) → IsTold p h → IsSeen (doing p h b) → Known b h
body_known p [] b t s = absurd s
body_known p (e ∷ h) b t s =
    elim (either (e.number == b)) [
      | inl y ↦ (e.body, rw y refl)
      | inr n ↦
          elim (either (e.body == b)) [
            | inl same ↦
                elim (first_or_next p h e.number e.body e.what t.2) [
                  | inl f ↦ (let c : true ≡ false = sym (eq-eqb e.number b (sym f ∙ eqb-true e.body b same)) ∙ n in cc)
                  | inr a ↦
                      (let here : IsSeen (doing p h b) = subst (λ i. IsSeen (doing p h i)) (eqb-true e.body b same) (placed_seen (doing p h e.body) (asked_placed p (doing p h e.body) _ a.1)) in
                      known_more b e h (body_known p h b t.0 here))
                ]
            | inr other ↦ known_more b e h (body_known p h b t.0 (heard_seen e.what (serves p e.body h) (doing p h b) (rw other at s)))
          ]
    ]

-- two numbers are equal where both are there as equal options
some_inj : (a b : ℕ) → ◌≡◌ {A = Option ℕ} (Some a) (Some b) → a ≡ b
some_inj a b e = cc

-- a body that begins to serve a call, and is placed, has the entry of that call before it
begun_by_known : (s : Start) (q : ℕ) (o : Option ℕ) (f : ℕ → Doing) (h : List Entry) → maker q h ≡ o → IsPlaced (begun_by s q o f) → Known q h
begun_by_known s q None f h m i = absurd i
begun_by_known s q (Some b) f h m i = (b, m)

-- a body that begins, serves this call and is placed has the entry of the call before it
begun_known : (s : Start) (c : Option ℕ) (q : ℕ) (f : ℕ → Doing) (h : List Entry) → c ≡ Some q → IsPlaced (begun s c (λ n. maker n h) f) → Known q h
begun_known s None q f h e i = cc
begun_known s (Some c) q f h e i = subst (λ n. Known n h) (some_inj c q e) (begun_by_known s c (maker c h) f h refl i)

-- a firing that serves a call, and whose body is placed, has the call before it
fired_known : (p : Program) (n : ℕ) (w : What) (f : ℕ → Doing) (d : Doing) (h : List Entry) (q : ℕ) → served p w ≡ Some q → IsPlaced (own p n w (λ i. maker i h) f d) → Known q h
fired_known p n (Fired k o ms vs) f d h q e i = begun_known (Chord k o vs) (served p (Fired k o ms vs)) q f h e i
fired_known p n Begun f d h q e i = cc
fired_known p n (Made c) f d h q e i = cc
fired_known p n (Sent o j vs) f d h q e i = cc
fired_known p n (Called o j vs) f d h q e i = cc
fired_known p n (Printed t) f d h q e i = cc
fired_known p n (Ended x) f d h q e i = cc

-- a told entry that serves a call is the first entry of its body
served_first : (p : Program) (h : List Entry) (n b : ℕ) (w : What) (q : ℕ) → Tells p h n b w → served p w ≡ Some q → b ≡ n
served_first p h n b (Fired k o ms vs) q t e = t
served_first p h n b Begun q t e = t
served_first p h n b (Made c) q t e = cc
served_first p h n b (Sent o j vs) q t e = cc
served_first p h n b (Called o j vs) q t e = cc
served_first p h n b (Printed t') q t e = cc
served_first p h n b (Ended x) q t e = cc

-- a body that goes on has the call that it serves
call_known : (p : Program) (h : List Entry) (b q : ℕ) → IsTold p h → IsPlaced (doing p h b) → serves p b h ≡ Some q → Known q h
call_known p [] b q t s c = absurd s
call_known p (e ∷ h) b q t s c =
    known_more q e h
    (elim (either (e.number == b)) [
      | inl y ↦
          (let c' : served p e.what ≡ Some q = rw y at c in
          let same : (e.body == b) ≡ true = eq-eqb e.body b (served_first p h e.number e.body e.what q t.2 c' ∙ eqb-true e.number b y) in
          fired_known p e.number e.what (doing p h) (doing p h b) h q c' (rw same at s))
      | inr n ↦
          (let c' : serves p b h ≡ Some q = rw n at c in
          elim (either (e.body == b)) [
            | inl same ↦
                elim (first_or_next p h e.number e.body e.what t.2) [
                  | inl f ↦ (let x : true ≡ false = sym (eq-eqb e.number b (sym f ∙ eqb-true e.body b same)) ∙ n in cc)
                  | inr a ↦ call_known p h b q t.0 (subst (λ i. IsPlaced (doing p h i)) (eqb-true e.body b same) (asked_placed p (doing p h e.body) _ a.1)) c'
                ]
            | inr other ↦ call_known p h b q t.0 (heard_placed e.what (serves p e.body h) (doing p h b) (rw other at s)) c'
          ])
    ])

-- an end is no first entry
end_next : (p : Program) (h : List Entry) (n b : ℕ) (w : What) → is_end w ≡ true → Tells p h n b w → Asks p h b w
end_next p h n b (Ended x) e t = t
end_next p h n b Begun e t = cc
end_next p h n b (Made c) e t = cc
end_next p h n b (Sent o j vs) e t = cc
end_next p h n b (Called o j vs) e t = cc
end_next p h n b (Printed t') e t = cc
end_next p h n b (Fired k o ms vs) e t = cc

-- what a place keeps is told without the newest entry of the history, too
pub told_before : (p : Program) (keep : ℕ → Bool) (e : Entry) (h : List Entry) → IsTold p (kept keep (e ∷ h)) → IsTold p (kept keep h)
told_before p keep e h t = elim (either (keep e.number)) [ inl y ↦ (let u = rw y at t in u.0) | inr o ↦ rw o at t ]

module _ (p : Program) (at : ℕ → ℕ) (e : Entry) (h : List Entry) (told : AreTold p at (e ∷ h)) where
  -- whether a number stands in the place of the newest entry
  at_here : ℕ → Bool
  at_here n = at n == at e.number

  -- what the place of the newest entry keeps is told with that entry
  here_told : IsTold p (e ∷ kept (λ n. at n == at e.number) h)
  here_told = let y : (at e.number == at e.number) ≡ true = eq-eqb (at e.number) (at e.number) refl in rw y at (told (at e.number))

  -- a body that has a next ask in the place of the newest entry stands in that place
  asked_here : (b : ℕ) (w : What) → Asks p (kept (λ n. at n == at e.number) h) b w → at b ≡ at e.number
  asked_here b w a =
      eqb-true (at b) (at e.number)
      (known_kept (λ n. at n == at e.number) b h
      (body_known p (kept (λ n. at n == at e.number) h) b here_told.0
      (placed_seen _ (asked_placed p (doing p (kept (λ n. at n == at e.number) h) b) _ a.1))))

  -- an entry stands with the first entry of its body
  with_body : at e.number ≡ at e.body
  with_body =
      elim (first_or_next p (kept (λ n. at n == at e.number) h) e.number e.body e.what here_told.2) [
        | inl f ↦ ap at (sym f)
        | inr a ↦ sym (asked_here e.body e.what a)
      ]

  -- the end of a body stands with the call that the body serves
  with_call : (q : ℕ) → is_end e.what ≡ true → serves p e.body h ≡ Some q → at q ≡ at e.body
  with_call q is c =
      let a : Asks p (kept (λ n. at n == at e.number) h) e.body e.what = end_next p _ e.number e.body e.what is here_told.2 in
      let c' : serves p e.body (kept (λ n. at n == at e.number) h) ≡ Some q = kept_serves p (λ n. at n == at e.number) e.body h (eq-eqb _ _ (asked_here e.body e.what a)) ∙ c in
      eqb-true (at q) (at e.number)
      (known_kept (λ n. at n == at e.number) q h
      (call_known p (kept (λ n. at n == at e.number) h) e.body q here_told.0 (asked_placed p (doing p (kept (λ n. at n == at e.number) h) e.body) _ a.1) c'))
      ∙ with_body

-- each place that tells what it keeps keeps it whole
pub whole_of_told : (p : Program) (at : ℕ → ℕ) (h : List Entry) → AreTold p at h → (c : ℕ) → IsWhole p (λ n. at n == c) h
whole_of_told p at [] t c = tt
whole_of_told p at (e ∷ h) t c = (
  whole_of_told p at h (λ i. told_before p (λ n. at n == i) e h (t i)) c,
  ap (λ i. i == c) (with_body p at e h t),
  λ is q s. ap (λ i. i == c) (with_call p at e h t q is s),
)

-- what a body asks, it asks also by each doing with which its own agrees
agrees_asked : (p : Program) (d d' : Doing) (a : Asked) → Agrees d d' → asked p d ≡ Some a → asked p d' ≡ Some a
agrees_asked p (Ready s k rs) d' a g e = let f : Doing → Type 0 = λ o. asked p o ≡ Some a in subst f g e
agrees_asked p (Waits s k rs q l) d' a g e = cc
agrees_asked p (Over x) d' a g e = cc
agrees_asked p Absent d' a g e = cc
agrees_asked p Unplaced d' a g e = cc

-- a body's next ask in the story that keeps it is its next ask in the whole journal
pub next_in_story : (p : Program) (at : ℕ → ℕ) (h : List Entry) (c b : ℕ) (w : What) → AreTold p at h → Asks p (kept (λ n. at n == c) h) b w → Asks p h b w
next_in_story p at h c b w t a =
    let here : (at b == c) ≡ true =
    known_kept (λ n. at n == c) b h (body_known p (kept (λ n. at n == c) h) b (t c) (placed_seen _ (asked_placed p (doing p (kept (λ n. at n == c) h) b) _ a.1)))
    in
    (a.0, agrees_asked p (doing p (kept (λ n. at n == c) h) b) (doing p h b) _ (agrees p (λ n. at n == c) h (whole_of_told p at h t c) b here) a.1)
