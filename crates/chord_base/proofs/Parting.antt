-- Entries that leave a place, a run in one place, and the entries of all places.
use Rattle.std.proofs.Common.{◌≡◌, ℕ, Bool, true, false, not, ◌==◌, ◌&&◌, List, [], ◌∷◌, length, refl, sym, ap, ◌∙◌, subst, arith, inl, inr, if◌then◌else◌}
use Rattle.std.proofs.lemmas.Bool.{eq-eqb, eqb-true, ne_eqb}
use Rattle.chord_base.specs.declared.event.What.{What}
use Rattle.chord_base.specs.declared.event.What.TheVariants.{Begun, Made, Sent, Called, Printed, Fired, Ended}
use Rattle.chord_base.specs.declared.event.Entry.{Entry}
use Rattle.chord_base.specs.Meaning.{Program}
use Rattle.chord_base.specs.Machine.{Comes, IsPast}
use Rattle.chord_base.specs.Story.{IsIn, kept, Tells, Rises}
use Rattle.chord_base.specs.Laws.{PartingKeepsPlaces, RunIsTold, PlacesGather}
use Rattle.chord_base.proofs.Waits.{either}
use Rattle.chord_base.proofs.Collected.{past_numbered, view_in, collected}

-- a part of a part
kept_kept : (f g : ℕ → Bool) (h : List Entry) → kept f (kept g h) ≡ kept (λ n. g n && f n) h
kept_kept f g [] = refl
kept_kept f g (e ∷ h) =
    elim (either (g e.number)) [
      | inl y ↦ elim (either (f e.number)) [ inl z ↦ rw (y, z, kept_kept f g h) refl | inr z ↦ rw (y, z) (kept_kept f g h) ]
      | inr o ↦ rw o (kept_kept f g h)
    ]

-- two tests that agree keep the same
kept_alike : (f g : ℕ → Bool) (h : List Entry) → ((n : ℕ) → f n ≡ g n) → kept f h ≡ kept g h
kept_alike f g h e = (let same : f ≡ g = (λ k n. e n k) in ap (λ t. kept t h) same)

-- a test that keeps nothing is false of each entry
kept_none : (f : ℕ → Bool) (e : Entry) (h : List Entry) → kept f (e ∷ h) ≡ [] → (f e.number ≡ false) × (kept f h ≡ [])
kept_none f e h k =
    elim (either (f e.number)) [
      | inl y ↦ (let z : ◌≡◌ {A = List Entry} (e ∷ kept f h) [] = rw y at k in cc)
      | inr o ↦ (o, rw o at k)
    ]

-- where two tests hold the first does
both_left : (a b : Bool) → (a && b) ≡ true → a ≡ true
both_left true b e = refl
both_left false b e = e

-- numbers that are not equal are not equal by test
not_it : (a b : ℕ) → (a ≡ b → ⊥) → (a == b) ≡ false
not_it a b n = ne_eqb a b n

-- numbers that are not equal by test are not equal
eq_not : (a b : ℕ) → (a == b) ≡ false → a ≡ b → ⊥
eq_not a b f e = let z : true ≡ false = sym (eq-eqb a b e) ∙ f in cc

module _ (at : ℕ → ℕ) (i j : ℕ) (goes : ℕ → Bool) (apart : i ≡ j → ⊥) where
  -- where each number stands afterwards
  abbrev now_at : ℕ → ℕ
  now_at n = if (at n == i) && goes n then j else at n

  -- what has gone, where nothing was before
  gone_kept : (h : List Entry) → kept (λ n. at n == j) h ≡ [] → kept (λ n. now_at n == j) h ≡ kept (λ n. (at n == i) && goes n) h
  gone_kept [] e = refl
  gone_kept (x ∷ h) e =
      let k = kept_none (λ n. at n == j) x h e in
      elim (either ((at x.number == i) && goes x.number)) [
        | inl y ↦ rw (y, eq-eqb j j refl, gone_kept h k.1) refl
        | inr o ↦ rw (o, k.0) (gone_kept h k.1)
      ]

  -- what stays
  stays_same : (n : ℕ) → (now_at n == i) ≡ ((at n == i) && not (goes n))
  stays_same n =
      elim (either (at n == i)) [
        | inl y ↦ elim (either (goes n)) [ inl z ↦ rw (y, z) (ne_eqb j i (λ e. apart (sym e))) | inr z ↦ rw (y, z) y ]
        | inr o ↦ rw o o
      ]

  -- other places
  other_same : (c n : ℕ) → (c == j) ≡ false → (c == i) ≡ false → (now_at n == c) ≡ (at n == c)
  other_same c n b a =
      elim (either ((at n == i) && goes n)) [
        | inl y ↦
            rw y
            (let here : at n ≡ i = eqb-true (at n) i (both_left (at n == i) (goes n) y) in
            not_it j c (λ e. eq_not c j b (sym e)) ∙ sym (not_it (at n) c (λ e. eq_not c i a (sym e ∙ here))))
        | inr o ↦ rw o refl
      ]

-- entries leave a place for an empty one
pub parting_keeps_places : PartingKeepsPlaces
parting_keeps_places p view h i j goes m apart empty going staying =
    record {
      past = m.past;
      at = now_at m.at i j goes apart;
      keeps =
          λ c.
          elim (either (c == j)) [
            | inl y ↦
                rw (y, eqb-true c j y)
                (gone_kept m.at i j goes apart h (m.keeps j ∙ empty) ∙ sym (kept_kept goes (λ n. m.at n == i) h) ∙ ap (kept goes) (m.keeps i))
            | inr o ↦
                elim (either (c == i)) [
                  | inl y ↦
                      rw (o, y, eqb-true c i y)
                      (kept_alike (λ n. now_at m.at i j goes apart n == i) (λ n. (m.at n == i) && not (goes n)) h (stays_same m.at i j goes apart) ∙ sym (kept_kept (λ n. not (goes n)) (λ n. m.at n == i) h) ∙ ap (kept (λ n. not (goes n))) (m.keeps i))
                  | inr z ↦ rw (o, z) (kept_alike (λ n. now_at m.at i j goes apart n == c) (λ n. m.at n == c) h (λ n. other_same m.at i j goes apart c n o z) ∙ m.keeps c)
                ]
          ];
      told =
          λ c.
          elim (either (c == j)) [
            | inl y ↦ rw y going
            | inr o ↦ elim (either (c == i)) [ inl y ↦ rw (o, y) staying | inr z ↦ rw (o, z) (m.told c) ]
          ];
    }

-- what comes next in a run is told
comes_tells : (p : Program) (h : List Entry) (n b : ℕ) (w : What) → n ≡ length h → Comes p h n b w → Tells p h n b w
comes_tells p h n b Begun e c = (let z : length h ≡ 0 = ap length c.0 in omega (arith, e, z, c.1))
comes_tells p h n b (Fired k o ms vs) e c = c.0
comes_tells p h n b (Made k) e c = c
comes_tells p h n b (Sent o j vs) e c = c
comes_tells p h n b (Called o j vs) e c = c
comes_tells p h n b (Printed t) e c = c
comes_tells p h n b (Ended x) e c = c

-- in a past the next number is above that of the newest entry
past_rises_once : (p : Program) (n : ℕ) (h : List Entry) → IsPast p h → n ≡ length h → Rises n h
past_rises_once p n [] r e = tt
past_rises_once p n (x ∷ h) r e = omega (arith, e, r.1.numbered)

-- a run is told
pub run_is_told : RunIsTold
run_is_told p [] r = tt
run_is_told p (e ∷ h) r = (run_is_told p h r.0, past_rises_once p e.number h r.0 r.1.numbered, comes_tells p h e.number e.body e.what r.1.numbered r.1.comes)

-- the entries of all places, in their order, are the run
pub places_gather : PlacesGather
places_gather p view h h' m n l f =
    collected h' h n (past_numbered p h m.past) l
    (λ e i.
    let x = f e i in
    view_in (λ n. m.at n == x.0) e h (subst (λ (v : List Entry). IsIn e v) (sym (m.keeps x.0)) x.1))
