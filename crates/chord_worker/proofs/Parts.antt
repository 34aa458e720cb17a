-- Lists of entries in parts: which of them may go, what each of them asks, and when all are quiet.
use Rattle.std.proofs.Common.{◌≡◌, ℕ, Bool, true, false, not, ◌==◌, ◌||◌, ◌&&◌, ◌+◌, ◌≤◌, ◌<◌, List, [], ◌∷◌, refl, sym, ap, ap₂, ◌∙◌, subst, inl, inr, ⊎_elim, arith, if◌then◌else◌}
use Rattle.std.proofs.lemmas.Bool.{eq-eqb, eqb-true, ne_eqb}
use Rattle.chord_base.specs.declared.event.What.{What}
use Rattle.chord_base.specs.declared.event.Entry.{Entry}
use Rattle.chord_base.specs.Meaning.{Program}
use Rattle.chord_base.specs.Bodies.{Doing, Absent, Unplaced, Ready, Waits, Over, doing, Asks}
use Rattle.chord_base.specs.Story.{kept, IsTold, AreTold, IsMerged, IsRising, Rises, IsIn, AllBelow, Tells, grown, together, parted}
use Rattle.chord_base.proofs.Waits.{either}
use Rattle.chord_base.proofs.Merge.{Agrees, agrees, whole_of_told, next_in_story}
use Rattle.chord_base.proofs.Places.{kept_below, below_rises, union_told}
use Rattle.chord_base.proofs.Merged.{past_rises}
use Rattle.chord_base.proofs.Parting.{parting_keeps_places}
use Rattle.chord_base.proofs.Together.{parts_together}
use Rattle.chord_rule.specs.Closing.{IsQuiet, AreQuiet}
use Rattle.chord_rule.specs.Kinds.{is_among, left_by, MayGo}
use Rattle.chord_worker.specs.Parted.{IsParted, with_part}

-- ## What a test keeps

-- tests that agree on the numbers of a history keep the same
pub kept_agree : (f g : ℕ → Bool) (h : List Entry) → ((e : Entry) → IsIn e h → f e.number ≡ g e.number) → kept f h ≡ kept g h
kept_agree f g [] s = refl
kept_agree f g (e ∷ h) s =
    elim (either (g e.number)) [
      | inl y ↦ rw (s e (inl refl), y, kept_agree f g h (λ x i. s x (inr i)))
      | inr o ↦ rw (s e (inl refl), o, kept_agree f g h (λ x i. s x (inr i)))
    ]

-- what a test keeps of what another keeps
kept_within : (f g : ℕ → Bool) (h : List Entry) → kept f (kept g h) ≡ kept (λ n. g n && f n) h
kept_within f g [] = refl
kept_within f g (e ∷ h) =
    elim (either (g e.number)) [
      | inl y ↦ elim (either (f e.number)) [ inl z ↦ rw (y, z, kept_within f g h) refl | inr z ↦ rw (y, z) (kept_within f g h) ]
      | inr o ↦ rw o (kept_within f g h)
    ]

-- what is kept of a history that rises rises
pub kept_rises : (f : ℕ → Bool) (h : List Entry) → IsRising h → IsRising (kept f h)
kept_rises f [] r = tt
kept_rises f (e ∷ h) r =
    elim (either (f e.number)) [
      | inl y ↦ rw y (kept_below e.number f h r.0, kept_rises f h r.1)
      | inr o ↦ rw o (kept_rises f h r.1)
    ]

-- an entry that passes the test is kept
pub in_part : (f : ℕ → Bool) (h : List Entry) (e : Entry) → IsIn e h → f e.number ≡ true → IsIn e (kept f h)
in_part f [] e i y = absurd i
in_part f (x ∷ h) e i y =
    ⊎_elim
    (λ s. let z : f x.number ≡ true = ap (λ (t : Entry). f t.number) (sym s) ∙ y in rw z (inl s))
    (λ k. elim (either (f x.number)) [ inl z ↦ rw z (inr (in_part f h e k y)) | inr o ↦ rw o (in_part f h e k y) ]) i

-- an entry of a history of which a test keeps nothing does not pass it
pub none_kept : (f : ℕ → Bool) (h : List Entry) (e : Entry) → kept f h ≡ [] → IsIn e h → f e.number ≡ false
none_kept f h e none i = elim (either (f e.number)) [ inl y ↦ absurd (subst (IsIn e) none (in_part f h e i y)) | inr o ↦ o ]

-- an entry below a number has a number below it
pub in_below : (n : ℕ) (h : List Entry) (e : Entry) → AllBelow n h → IsIn e h → e.number < n
in_below n [] e a i = absurd i
in_below n (x ∷ h) e a i = ⊎_elim (λ s. subst (λ (z : Entry). z.number < n) (sym s) a.0) (λ k. in_below n h e a.1 k) i

-- a number among those of kept entries passes the test
pub among_kept : (f : ℕ → Bool) (h : List Entry) (n : ℕ) → is_among (kept f h) n ≡ true → f n ≡ true
among_kept f [] n a = let z : false ≡ true = a in absurd (cc)
among_kept f (e ∷ h) n a =
    elim (either (f e.number)) [
      | inl y ↦ elim (either (e.number == n)) [ inl s ↦ ap f (sym (eqb-true e.number n s)) ∙ y | inr o ↦ among_kept f h n (rw (y, o) at a) ]
      | inr o ↦ among_kept f h n (rw o at a)
    ]

-- where the second of two holds one of both does
or_right : (a b : Bool) → b ≡ true → (a || b) ≡ true
or_right true b e = refl
or_right false b e = e

-- the number of an entry that passes the test is among those of the kept entries
pub among_in : (f : ℕ → Bool) (h : List Entry) (e : Entry) → IsIn e h → f e.number ≡ true → is_among (kept f h) e.number ≡ true
among_in f [] e i y = absurd i
among_in f (x ∷ h) e i y =
    ⊎_elim
    (λ s. let z : f x.number ≡ true = ap (λ (t : Entry). f t.number) (sym s) ∙ y in
    let q : x.number ≡ e.number = ap (λ (t : Entry). t.number) (sym s) in
    rw (z, eq-eqb x.number e.number q) refl)
    (λ k. elim (either (f x.number)) [
      | inl z ↦ rw z (or_right (x.number == e.number) (is_among (kept f h) e.number) (among_in f h e k y))
      | inr o ↦ rw o (among_in f h e k y)
    ]) i

-- of an entry of the history, the numbers of the kept entries tell what the test does
among_is : (f : ℕ → Bool) (h : List Entry) (e : Entry) → IsIn e h → is_among (kept f h) e.number ≡ f e.number
among_is f h e i =
    elim (either (f e.number)) [
      | inl y ↦ among_in f h e i y ∙ sym y
      | inr o ↦
          elim (either (is_among (kept f h) e.number)) [
            | inl a ↦ (let z : true ≡ false = sym (among_kept f h e.number a) ∙ o in absurd (cc))
            | inr b ↦ b ∙ sym o
          ]
    ]

-- what is kept is the part with these numbers
pub part_is : (f : ℕ → Bool) (h : List Entry) → kept (is_among (kept f h)) h ≡ kept f h
part_is f h = kept_agree (is_among (kept f h)) f h (λ e i. among_is f h e i)

-- what is left of it is what the test does not keep
pub left_is : (f : ℕ → Bool) (h : List Entry) → left_by (kept f h) h ≡ kept (λ n. not (f n)) h
left_is f h = kept_agree (λ n. not (is_among (kept f h) n)) (λ n. not (f n)) h (λ e i. ap not (among_is f h e i))

-- nothing is kept by a test that nothing passes
pub kept_nothing : (h : List Entry) → kept (λ n. false) h ≡ []
kept_nothing [] = refl
kept_nothing (e ∷ h) = kept_nothing h

-- of one place only that place's entries are kept in it
kept_some : (place : ℕ → ℕ) (g : ℕ → Bool) (c : ℕ) (h : List Entry) → kept (λ n. place n == c) (kept (λ n. g (place n)) h) ≡ (if g c then kept (λ n. place n == c) h else [])
kept_some place g c [] = elim (either (g c)) [ inl y ↦ rw y refl | inr o ↦ rw o refl ]
kept_some place g c (e ∷ h) =
    let before = kept_some place g c h in
    elim (either (place e.number == c)) [
      | inl s ↦
          (let q : g (place e.number) ≡ g c = ap g (eqb-true (place e.number) c s) in
          elim (either (g c)) [
            | inl y ↦ rw (q, y, s) (ap (λ (t : List Entry). e ∷ t) (rw y at before))
            | inr o ↦ rw (q, o) (rw o at before)
          ])
      | inr n ↦ elim (either (g (place e.number))) [ inl y ↦ rw (y, n) before | inr o ↦ rw (o, n) before ]
    ]

-- a test that all pass keeps all
pub all_kept : (h : List Entry) → kept (λ n. true) h ≡ h
all_kept [] = refl
all_kept (e ∷ h) = ap (λ (t : List Entry). e ∷ t) (all_kept h)

-- ## Parts

-- a truth value as 1 or 0
pub flag_is : (b : Bool) → ((if b then 1 else 0) == 1) ≡ b
flag_is true = refl
flag_is false = refl

-- a doing that agrees with a quiet one is quiet
quiet_agrees : (d d' : Doing) → Agrees d d' → IsQuiet d → IsQuiet d'
quiet_agrees Absent d' a q = subst IsQuiet a q
quiet_agrees Unplaced d' a q = absurd q
quiet_agrees (Ready s k rs) d' a q = absurd q
quiet_agrees (Waits s k rs c l) d' a q = subst IsQuiet a q
quiet_agrees (Over x) d' a q = subst IsQuiet a q

module _ (p : Program) (part : ℕ → List Entry) (es : List Entry) (m : IsParted p part es) where
  -- each part is told
  pub parted_told : AreTold p m.at es
  parted_told c = subst (IsTold p) (sym (m.keeps c)) (m.told c)

  -- some parts are told
  pub some_told : (g : ℕ → Bool) → IsTold p (kept (λ n. g (m.at n)) es)
  some_told g = subst (IsTold p) (kept_agree (λ n. (if g (m.at n) then 1 else 0) == 1) (λ n. g (m.at n)) es (λ e i. flag_is (g (m.at e.number))))
      (union_told p m.at (λ c. if g c then 1 else 0) es m.rises parted_told 1)

  -- the whole is told
  pub parts_told : IsTold p es
  parts_told = subst (IsTold p) (all_kept es) (some_told (λ c. true))

  -- some parts may go
  pub some_go : (g : ℕ → Bool) → MayGo p es (kept (λ n. g (m.at n)) es)
  some_go g = record {
    part = part_is (λ n. g (m.at n)) es;
    goes = some_told g;
    stays = subst (IsTold p) (sym (left_is (λ n. g (m.at n)) es)) (some_told (λ c. not (g c)));
  }

  -- one part may go
  pub part_goes : (c : ℕ) → MayGo p es (part c)
  part_goes c = subst (MayGo p es) (m.keeps c) (some_go (λ d. d == c))

  -- some parts alone are a list in parts
  pub some_parted : (g : ℕ → Bool) → IsParted p (λ c. if g c then part c else []) (kept (λ n. g (m.at n)) es)
  some_parted g = record {
    rises = kept_rises (λ n. g (m.at n)) es m.rises;
    at = m.at;
    keeps = λ c. kept_some m.at g c es ∙ elim (either (g c)) [ inl y ↦ rw y (m.keeps c) | inr o ↦ rw o refl ];
    told = λ c. elim (either (g c)) [ inl y ↦ rw y (m.told c) | inr o ↦ rw o tt ];
  }

  -- what stays where one part goes is in the other parts
  pub left_parted : (c : ℕ) → IsParted p (λ d. if not (d == c) then part d else []) (left_by (part c) es)
  left_parted c = subst (IsParted p (λ d. if not (d == c) then part d else []))
      (sym (left_is (λ n. m.at n == c) es) ∙ ap (λ (ps : List Entry). left_by ps es) (m.keeps c)) (some_parted (λ d. not (d == c)))

  -- parts that become one
  pub joined_parts : (f : ℕ → ℕ) (part' : ℕ → List Entry) → ((c : ℕ) → kept (λ n. f (m.at n) == c) es ≡ part' c) → IsParted p part' es
  joined_parts f part' k = record {
    rises = m.rises;
    at = λ n. f (m.at n);
    keeps = k;
    told = λ c. subst (IsTold p) (k c) (union_told p m.at f es m.rises parted_told c);
  }

  -- what a part asks, the whole asks
  pub part_asks : (c b : ℕ) (w : What) → Asks p (part c) b w → Asks p es b w
  part_asks c b w a = next_in_story p m.at es c b w parted_told (subst (λ (v : List Entry). Asks p v b w) (sym (m.keeps c)) a)

  -- where each part is quiet the whole is
  pub parts_quiet : ((c : ℕ) → AreQuiet p (part c)) → AreQuiet p es
  parts_quiet q b = quiet_agrees (doing p (kept (λ n. m.at n == m.at b) es) b) (doing p es b)
      (agrees p (λ n. m.at n == m.at b) es (whole_of_told p m.at es parted_told (m.at b)) b (eq-eqb (m.at b) (m.at b) refl))
      (subst (λ (v : List Entry). IsQuiet (doing p v b)) (sym (m.keeps (m.at b))) (q (m.at b) b))

  module _ (c : ℕ) (e : Entry) (below : AllBelow e.number es) where
    -- where each number stands once the entry is drawn
    abbrev drawn_at : ℕ → ℕ
    drawn_at n = if n == e.number then c else m.at n

    -- the entries before stand where they stood
    drawn_old : (d : ℕ) → kept (λ n. drawn_at n == d) es ≡ part d
    drawn_old d = kept_agree (λ n. drawn_at n == d) (λ n. m.at n == d) es
        (λ x i. let l = in_below e.number es x below i in ap (λ (t : Bool). (if t then c else m.at x.number) == d) (ne_eqb x.number e.number (λ q. omega (arith, q, l)))) ∙ m.keeps d

    -- one part has one more entry, which it tells
    pub part_drawn : Tells p (part c) e.number e.body e.what → IsParted p (grown part c e) (e ∷ es)
    part_drawn t = record {
      rises = (below, m.rises);
      at = drawn_at;
      keeps = λ d. elim (either (c == d)) [
        | inl y ↦ rw (eq-eqb e.number e.number refl, y) (ap (λ (z : List Entry). e ∷ z) (drawn_old d))
        | inr o ↦ rw (eq-eqb e.number e.number refl, o) (drawn_old d)
      ];
      told = λ d. elim (either (c == d)) [
        | inl y ↦
            (let k = eqb-true c d y in
            rw y (
              m.told d,
              subst (λ (z : List Entry). Rises e.number z) (m.keeps d) (below_rises e.number (kept (λ n. m.at n == d) es) (kept_below e.number (λ n. m.at n == d) es below)),
              subst (λ z. Tells p (part z) e.number e.body e.what) k t,
            ))
        | inr o ↦ rw o (m.told d)
      ];
    }

  -- ## Parts of a place of a run

  module _ (h : List Entry) (view : ℕ → List Entry) (merged : IsMerged p view h) (i : ℕ) (here : view i ≡ es) where
    -- a place that keeps nothing
    empty_place : (at : ℕ → ℕ) (g : List Entry) → (j : ℕ) × ((k : ℕ) → j ≤ k → kept (λ n. at n == k) g ≡ [])
    empty_place at [] = (0, λ k l. refl)
    empty_place at (e ∷ g) = let r = empty_place at g in (
      r.0 + at e.number + 1,
      λ k l. rw (ne_eqb (at e.number) k (λ q. omega (arith, q, l))) (r.1 k (omega (arith, l))),
    )

    -- some parts are a place of the same run
    pub place_of_some : (g : ℕ → Bool) → (views : ℕ → List Entry) × (k : ℕ) × IsMerged p views h × (views k ≡ kept (λ n. g (m.at n)) es)
    place_of_some g =
        let r = empty_place merged.at h in
        let j = r.0 + i + 1 in
        let goes : ℕ → Bool = λ n. g (m.at n) in (
          parted view i j goes,
          j,
          parting_keeps_places p view h i j goes merged (λ q. omega (arith, q)) (sym (merged.keeps j) ∙ r.1 j (omega arith))
              (subst (λ (v : List Entry). IsTold p (kept goes v)) (sym here) (some_told g))
              (subst (λ (v : List Entry). IsTold p (kept (λ n. not (goes n)) v)) (sym here) (some_told (λ c. not (g c)))),
          rw (eq-eqb j j refl) (ap (kept goes) here),
        )

    module _ (j : ℕ) (apart : i ≡ j → ⊥) (ps : List Entry) (there : view j ≡ ps) (c : ℕ) (free : part c ≡ []) where
      -- the entries of the two places
      abbrev mine : ℕ → Bool
      mine n = merged.at n == i

      -- whether the number is of the second place
      abbrev others : ℕ → Bool
      others n = merged.at n == j

      -- no number is of both
      other_mine : (n : ℕ) → mine n ≡ true → others n ≡ false
      other_mine n y = ne_eqb (merged.at n) j (λ q. apart (sym (eqb-true (merged.at n) i y) ∙ q))

      -- where each number stands afterwards
      abbrev came_at : ℕ → ℕ
      came_at n = if others n then c else m.at n

      -- both are what is kept of either
      both : together es ps ≡ kept (λ n. mine n || others n) h
      both = ap₂ together (sym (merged.keeps i ∙ here)) (sym (merged.keeps j ∙ there)) ∙ parts_together p h mine others merged.past other_mine

      -- the new part is what came
      new_part : kept (λ n. came_at n == c) (kept (λ n. mine n || others n) h) ≡ ps
      new_part = kept_within (λ n. came_at n == c) (λ n. mine n || others n) h
          ∙ kept_agree (λ n. (mine n || others n) && (came_at n == c)) others h (λ e k. cases e k)
          ∙ merged.keeps j ∙ there
        where
          cases : (e : Entry) → IsIn e h → ((mine e.number || others e.number) && (came_at e.number == c)) ≡ others e.number
          cases e k =
              elim (either (mine e.number)) [
                | inl y ↦
                    (let o = other_mine e.number y in
                    let z : (m.at e.number == c) ≡ false = none_kept (λ n. m.at n == c) es e (m.keeps c ∙ free) (subst (IsIn e) (merged.keeps i ∙ here) (in_part mine h e k y)) in
                    rw (y, o, z) refl)
                | inr n ↦ elim (either (others e.number)) [ inl y ↦ rw (n, y, eq-eqb c c refl) refl | inr o ↦ rw (n, o) refl ]
              ]

      -- each other part is as it was
      old_part : (d : ℕ) → (c == d) ≡ false → kept (λ n. came_at n == d) (kept (λ n. mine n || others n) h) ≡ part d
      old_part d ne = kept_within (λ n. came_at n == d) (λ n. mine n || others n) h
          ∙ kept_agree (λ n. (mine n || others n) && (came_at n == d)) (λ n. mine n && (m.at n == d)) h (λ e k. cases e)
          ∙ sym (kept_within (λ n. m.at n == d) mine h) ∙ ap (kept (λ n. m.at n == d)) (merged.keeps i ∙ here) ∙ m.keeps d
        where
          cases : (e : Entry) → ((mine e.number || others e.number) && (came_at e.number == d)) ≡ (mine e.number && (m.at e.number == d))
          cases e =
              elim (either (mine e.number)) [
                | inl y ↦ (let o = other_mine e.number y in rw (y, o) refl)
                | inr n ↦ elim (either (others e.number)) [ inl y ↦ rw (n, y, ne) refl | inr o ↦ rw (n, o) refl ]
              ]

      -- what another place of the run kept has come, as a part of its own
      pub part_came : IsParted p (with_part part c ps) (together es ps)
      part_came = record {
        rises = subst IsRising (sym both) (kept_rises (λ n. mine n || others n) h (past_rises p h merged.past));
        at = came_at;
        keeps = λ d. ap (kept (λ n. came_at n == d)) both ∙ elim (either (c == d)) [
          | inl y ↦ rw y (subst (λ (z : ℕ). kept (λ n. came_at n == z) (kept (λ n. mine n || others n) h) ≡ ps) (eqb-true c d y) new_part)
          | inr o ↦ rw o (old_part d o)
        ];
        told = λ d. elim (either (c == d)) [ inl y ↦ rw y (subst (IsTold p) there (merged.told j)) | inr o ↦ rw o (m.told d) ];
      }
