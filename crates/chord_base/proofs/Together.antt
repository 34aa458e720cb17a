-- A run in places stays one where one place takes over what another keeps.
use Rattle.std.proofs.Common.{◌≡◌, ◌≢◌, ℕ, ◌<◌, Bool, true, false, ◌==◌, ◌||◌, List, [], ◌∷◌, if◌then◌else◌, refl, sym, ap, ap₂, ◌∙◌, subst, arith, inl, inr, lt-ltb, le-ltb}
use Rattle.std.proofs.lemmas.Bool.{eq-eqb, eqb-true, eqb-false, ne_eqb}
use Rattle.chord_base.specs.declared.event.Entry.{Entry}
use Rattle.chord_base.specs.Story.{AllBelow, IsRising, insert, kept, moved_into, together}
use Rattle.chord_base.specs.Laws.{MovingKeepsPlaces, PartsTogether}
use Rattle.chord_base.proofs.Waits.{either}
use Rattle.chord_base.proofs.Merged.{merged_union, past_rises}
use Rattle.chord_base.proofs.Places.{kept_below}

-- an entry whose number is above all comes first
insert_above : (e : Entry) (h : List Entry) → AllBelow e.number h → insert e h ≡ e ∷ h
insert_above e [] b = refl
insert_above e (x ∷ h) b = ap (λ (t : Bool). if t then e ∷ x ∷ h else x ∷ insert e h) (lt-ltb x.number e.number b.0)

-- below the first, it comes behind
insert_below : (e x : Entry) (h : List Entry) → e.number < x.number → insert e (x ∷ h) ≡ x ∷ insert e h
insert_below e x h b = ap (λ (t : Bool). if t then e ∷ x ∷ h else x ∷ insert e h) (le-ltb x.number e.number (omega arith))

-- the newest of the first history stays first
together_above : (x : Entry) (h g : List Entry) → AllBelow x.number g → together (x ∷ h) g ≡ x ∷ together h g
together_above x h [] b = refl
together_above x h (y ∷ g) b = ap (λ (z : List Entry). together z g) (insert_below y x h b.0) ∙ together_above x (insert y h) g b.1

-- two parts of a history that have no number in common are the part of both
rising_together : (f g : ℕ → Bool) (h : List Entry) → IsRising h → ((n : ℕ) → f n ≡ true → g n ≡ false) → together (kept f h) (kept g h) ≡ kept (λ n. f n || g n) h
rising_together f g [] r apart = refl
rising_together f g (e ∷ h) r apart = cases (f e.number) (g e.number) refl refl (rising_together f g h r.1 apart)
  where
    cases : (a b : Bool) → f e.number ≡ a → g e.number ≡ b → together (kept f h) (kept g h) ≡ kept (λ n. f n || g n) h → together (if a then e ∷ kept f h else kept f h) (if b then e ∷ kept g h else kept g h) ≡ (if a || b then e ∷ kept (λ n. f n || g n) h else kept (λ n. f n || g n) h)
    cases true true p q rest = let z : true ≡ false = sym q ∙ apart e.number p in absurd (cc)
    cases true false p q rest = together_above e (kept f h) (kept g h) (kept_below e.number g h r.0) ∙ ap (λ (zs : List Entry). e ∷ zs) rest
    cases false true p q rest = ap (λ (zs : List Entry). together zs (kept g h)) (insert_above e (kept f h) (kept_below e.number f h r.0)) ∙ together_above e (kept f h) (kept g h) (kept_below e.number g h r.0) ∙ ap (λ (zs : List Entry). e ∷ zs) rest
    cases false false p q rest = rest

-- two parts of a run together
pub parts_together : PartsTogether
parts_together p h f g r apart = rising_together f g h (past_rises p h r) apart

-- a test that keeps nothing
kept_nothing : (h : List Entry) → kept (λ n. false) h ≡ []
kept_nothing [] = refl
kept_nothing (e ∷ h) = kept_nothing h

-- tests that agree keep the same
kept_equal : (f g : ℕ → Bool) (h : List Entry) → ((n : ℕ) → f n ≡ g n) → kept f h ≡ kept g h
kept_equal f g h e = ap (λ (t : ℕ → Bool). kept t h) (λ i n. e n i)

-- place a has gone to place b
abbrev pub goes_to : ℕ → ℕ → ℕ → ℕ
goes_to a b c = if c == a then b else c

-- to place b come those of a and of b
comes_to : (a b x : ℕ) → a ≢ b → (goes_to a b x == b) ≡ ((x == b) || (x == a))
comes_to a b x ne =
    elim (either (x == a)) [
      | inl y ↦ rw (y, eq-eqb b b refl, ne_eqb x b (λ q. ne (sym (eqb-true x a y) ∙ q))) refl
      | inr o ↦ rw o (or_false (x == b))
    ]
  where
    or_false : (s : Bool) → s ≡ (s || false)
    or_false true = refl
    or_false false = refl

-- nothing stays in place a
leaves : (a b x : ℕ) → a ≢ b → (goes_to a b x == a) ≡ false
leaves a b x ne =
    elim (either (x == a)) [
      | inl y ↦ rw y (ne_eqb b a (λ q. ne (sym q)))
      | inr o ↦ rw o o
    ]

-- other places stay as they are
stays : (a b c x : ℕ) → c ≢ a → c ≢ b → (goes_to a b x == c) ≡ (x == c)
stays a b c x na nb =
    elim (either (x == a)) [
      | inl y ↦ rw (y, ne_eqb b c (λ q. nb (sym q)), ne_eqb x c (λ q. na (sym q ∙ eqb-true x a y))) refl
      | inr o ↦ rw o refl
    ]

-- where each place keeps its numbers of a history, one place takes over what another keeps
pub moved_keeps : (at : ℕ → ℕ) (view : ℕ → List Entry) (h : List Entry) (a b : ℕ) → a ≢ b → IsRising h → ((i : ℕ) → kept (λ n. at n == i) h ≡ view i)
    → (c : ℕ) → kept (λ n. goes_to a b (at n) == c) h ≡ moved_into a b view c
moved_keeps at view h a b ne rises old c =
    elim (either (c == b)) [
      | inl y ↦ rw y (subst (λ (z : ℕ). kept (λ n. goes_to a b (at n) == z) h ≡ together (view b) (view a)) (sym (eqb-true c b y)) there)
      | inr o ↦
          elim (either (c == a)) [
            | inl y ↦ rw (o, y) (subst (λ (z : ℕ). kept (λ n. goes_to a b (at n) == z) h ≡ []) (sym (eqb-true c a y)) gone)
            | inr k ↦ rw (o, k) (kept_equal (λ n. goes_to a b (at n) == c) (λ n. at n == c) h (λ n. stays a b c (at n) (eqb-false c a k) (eqb-false c b o)) ∙ old c)
          ]
    ]
  where
    there : kept (λ n. goes_to a b (at n) == b) h ≡ together (view b) (view a)
    there = kept_equal (λ n. goes_to a b (at n) == b) (λ n. (at n == b) || (at n == a)) h (λ n. comes_to a b (at n) ne)
        ∙ sym (rising_together (λ n. at n == b) (λ n. at n == a) h rises (λ n q. ne_eqb (at n) a (λ r. ne (sym r ∙ eqb-true (at n) b q))))
        ∙ ap₂ together (old b) (old a)

    gone : kept (λ n. goes_to a b (at n) == a) h ≡ []
    gone = kept_equal (λ n. goes_to a b (at n) == a) (λ n. false) h (λ n. leaves a b (at n) ne) ∙ kept_nothing h

-- a place takes over what another keeps
pub moving_keeps_places : MovingKeepsPlaces
moving_keeps_places p view h a b ne m = merged_union p view (moved_into a b view) h (goes_to a b) m (moved_keeps m.at view h a b ne (past_rises p h m.past) m.keeps)
