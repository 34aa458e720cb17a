-- Which block stands at which number.
use Rattle.std.proofs.Common.{◌≡◌, ℕ, zero, suc, ◌+◌, ◌<◌, ◌≤◌, ◌==◌, List, [], ◌∷◌, ◌++◌, Bool, true, false, ◌||◌, cond, Option, Some, None, length, map, refl, sym, ◌∙◌, ap, subst, arith, slice_get}
use Rattle.std.specs.Prelude.{option_map, option_and_then}
use Rattle.std.proofs.lemmas.Bool.{false≢true, eqb-true, eq-eqb, ne_eqb}
use Rattle.std.proofs.lemmas.Option.{none-some, same_Some, slice_get_within}
use Rattle.chord_base.specs.Messages.{has}
use Rattle.chord_bodies.specs.Resolved.{ClassOf, Resolved}
use Rattle.chord_source.specs.Objects.{constructor_of}
use Rattle.chord_gen.specs.Translation.{has_own, builds, has_builder, Origin, OfMain, OfBuilder, OfBody, is_origin, origins_from, origins, one_higher, block_number, class_line, lines_from}

-- what passes the test for one origin is one
same_origins : (o x : Origin) → is_origin o x ≡ true → o ≡ x
same_origins OfMain OfMain e = refl
same_origins (OfBuilder c) (OfBuilder d) e = ap OfBuilder (eqb-true c d e)
same_origins (OfBody j) (OfBody k) e = ap OfBody (eqb-true j k e)
same_origins OfMain (OfBuilder d) e = absurd (false≢true e)
same_origins OfMain (OfBody k) e = absurd (false≢true e)
same_origins (OfBuilder c) OfMain e = absurd (false≢true e)
same_origins (OfBuilder c) (OfBody k) e = absurd (false≢true e)
same_origins (OfBody j) OfMain e = absurd (false≢true e)
same_origins (OfBody j) (OfBuilder d) e = absurd (false≢true e)

-- an origin passes the test for itself
origin_is_itself : (o : Origin) → is_origin o o ≡ true
origin_is_itself OfMain = refl
origin_is_itself (OfBuilder c) = eq-eqb c c refl
origin_is_itself (OfBody j) = eq-eqb j j refl

-- one more than a number is one more than one that is there
one_more_some : (o : Option ℕ) (n : ℕ) → one_higher o ≡ Some n → (m : ℕ) × (o ≡ Some m) × (suc m ≡ n)
one_more_some None n e = absurd (none-some _ e)
one_more_some (Some m) n e = (m, refl, same_Some _ _ e)

-- at the number of an origin stands this origin
pub origin_at : (o : Origin) (xs : List Origin) (n : ℕ) → block_number o xs ≡ Some n → slice_get xs n ≡ Some o
origin_at o [] n e = absurd (none-some _ e)
origin_at o (x ∷ xs) n e = by_first (is_origin o x) refl e (origin_at o xs)
  where
    by_first : (b : Bool) → is_origin o x ≡ b → cond b (Some 0) (one_higher (block_number o xs)) ≡ Some n → ((m : ℕ) → block_number o xs ≡ Some m → slice_get xs m ≡ Some o) → slice_get (x ∷ xs) n ≡ Some o
    by_first true q e h = subst (λ m. slice_get (x ∷ xs) m ≡ Some o) (same_Some _ _ e) (ap Some (sym (same_origins o x q)))
    by_first false q e h = let l = one_more_some (block_number o xs) n e in subst (λ m. slice_get (x ∷ xs) m ≡ Some o) l.2 (h l.0 l.1)

-- an origin has a number among these
abbrev pub HasNumber : Origin → List Origin → Type 0
HasNumber o xs = (n : ℕ) × (block_number o xs ≡ Some n)

-- an origin that has a number has one behind another origin
numbered_more : (o x : Origin) (xs : List Origin) → HasNumber o xs → HasNumber o (x ∷ xs)
numbered_more o x xs h = by_first (is_origin o x)
  where
    by_first : (b : Bool) → (n : ℕ) × (cond b (Some 0) (one_higher (block_number o xs)) ≡ Some n)
    by_first true = (0, refl)
    by_first false = (suc h.0, ap one_higher h.1)

-- an origin that has a number has one behind others
numbered_behind : (o : Origin) (xs ys : List Origin) → HasNumber o ys → HasNumber o (xs ++ ys)
numbered_behind o [] ys h = h
numbered_behind o (x ∷ xs) ys h = numbered_more o x (xs ++ ys) (numbered_behind o xs ys h)

-- an origin that has a number has one before others
numbered_front : (o : Origin) (xs ys : List Origin) → HasNumber o xs → HasNumber o (xs ++ ys)
numbered_front o [] ys h = absurd (none-some _ h.1)
numbered_front o (x ∷ xs) ys h = by_first (is_origin o x) h.1 (λ k. numbered_front o xs ys k)
  where
    by_first : (b : Bool) → cond b (Some 0) (one_higher (block_number o xs)) ≡ Some h.0 → (HasNumber o xs → HasNumber o (xs ++ ys)) → (n : ℕ) × (cond b (Some 0) (one_higher (block_number o (xs ++ ys))) ≡ Some n)
    by_first true e f = (0, refl)
    by_first false e f = let l = one_more_some (block_number o xs) h.0 e in let q = f (l.0, l.1) in (suc q.0, ap one_higher q.1)

-- the first origin has a number
numbered_first : (o : Origin) (xs : List Origin) → HasNumber o (o ∷ xs)
numbered_first o xs = (0, rw (origin_is_itself o) refl)

-- each member of a list has a number among the bodies that are made from it
body_numbered_among : (j : ℕ) (own : List ℕ) → has j own ≡ true → HasNumber (OfBody j) (map OfBody own)
body_numbered_among j [] e = absurd (false≢true e)
body_numbered_among j (k ∷ own) e = by_first (j == k) e (body_numbered_among j own)
  where
    by_first : (b : Bool) → (b || has j own) ≡ true → (has j own ≡ true → HasNumber (OfBody j) (map OfBody own)) → (n : ℕ) × (cond b (Some 0) (one_higher (block_number (OfBody j) (map OfBody own))) ≡ Some n)
    by_first true e f = (0, refl)
    by_first false e f = let q = f e in (suc q.0, ap one_higher q.1)

-- an origin that has no number among some, and none among others, has none among both
absent_of_both : (o : Origin) (xs ys : List Origin) → block_number o xs ≡ None → block_number o ys ≡ None → block_number o (xs ++ ys) ≡ None
absent_of_both o [] ys e f = f
absent_of_both o (x ∷ xs) ys e f = by_first (is_origin o x) e (λ k. absent_of_both o xs ys k f)
  where
    one_more_none : (z : Option ℕ) → one_higher z ≡ None → z ≡ None
    one_more_none None e = refl
    one_more_none (Some n) e = absurd (none-some _ (sym e))

    by_first : (b : Bool) → cond b (Some 0) (one_higher (block_number o xs)) ≡ None → (block_number o xs ≡ None → block_number o (xs ++ ys) ≡ None) → cond b (Some 0) (one_higher (block_number o (xs ++ ys))) ≡ None
    by_first true e h = absurd (none-some _ (sym e))
    by_first false e h = ap one_higher (h (one_more_none (block_number o xs) e))

-- no builder stands among bodies
absent_of_bodies : (c : ℕ) (own : List ℕ) → block_number (OfBuilder c) (map OfBody own) ≡ None
absent_of_bodies c [] = refl
absent_of_bodies c (k ∷ own) = ap one_higher (absent_of_bodies c own)

module _ (p : Resolved) where
  -- the body of an own chord of one of these classes has a number among their blocks
  body_numbered_from : (j a d : ℕ) (xs : List ClassOf) (z : ClassOf) → slice_get xs d ≡ Some z → has j z.own ≡ true → HasNumber (OfBody j) (origins_from p a xs)
  body_numbered_from j a d [] z e h = absurd (none-some _ e)
  body_numbered_from j a zero (x ∷ xs) z e h =
      numbered_behind (OfBody j) (cond (has_builder p a) (OfBuilder a ∷ []) []) (map OfBody x.own ++ origins_from p (suc a) xs)
      (numbered_front (OfBody j) (map OfBody x.own) (origins_from p (suc a) xs) (body_numbered_among j x.own (subst (λ (y : ClassOf). has j y.own ≡ true) (sym (same_Some _ _ e)) h)))
  body_numbered_from j a (suc d) (x ∷ xs) z e h =
      numbered_behind (OfBody j) (cond (has_builder p a) (OfBuilder a ∷ []) []) (map OfBody x.own ++ origins_from p (suc a) xs)
      (numbered_behind (OfBody j) (map OfBody x.own) (origins_from p (suc a) xs) (body_numbered_from j (suc a) d xs z e h))

  -- the body of each own chord has a block
  pub body_numbered : (j d : ℕ) (z : ClassOf) → slice_get p.classes d ≡ Some z → has j z.own ≡ true → HasNumber (OfBody j) (origins p)
  body_numbered j d z e h = numbered_more (OfBody j) OfMain (origins_from p 0 p.classes) (body_numbered_from j 0 d p.classes z e h)

  -- a builder of one of these classes has a number among their blocks
  builder_numbered_from : (c a d : ℕ) (xs : List ClassOf) (z : ClassOf) → a + d ≡ c → slice_get xs d ≡ Some z → has_builder p c ≡ true → HasNumber (OfBuilder c) (origins_from p a xs)
  builder_numbered_from c a d [] z n e h = absurd (none-some _ e)
  builder_numbered_from c a zero (x ∷ xs) z n e h =
      let same : c ≡ a = omega (arith, n) in
      let first : cond (has_builder p a) (OfBuilder a ∷ []) [] ≡ OfBuilder c ∷ [] = rw (sym same) (rw h refl) in
      subst (λ z. HasNumber (OfBuilder c) (z ++ (map OfBody x.own ++ origins_from p (suc a) xs))) (sym first) (numbered_first (OfBuilder c) (map OfBody x.own ++ origins_from p (suc a) xs))
  builder_numbered_from c a (suc d) (x ∷ xs) z n e h =
      numbered_behind (OfBuilder c) (cond (has_builder p a) (OfBuilder a ∷ []) []) (map OfBody x.own ++ origins_from p (suc a) xs)
      (numbered_behind (OfBuilder c) (map OfBody x.own) (origins_from p (suc a) xs) (builder_numbered_from c (suc a) d xs z (omega (arith, n)) e h))

  -- the builder of a class that has one has a block
  pub builder_numbered : (c : ℕ) (x : ClassOf) → slice_get p.classes c ≡ Some x → has_builder p c ≡ true → HasNumber (OfBuilder c) (origins p)
  builder_numbered c x e h = numbered_more (OfBuilder c) OfMain (origins_from p 0 p.classes) (builder_numbered_from c 0 c p.classes x (omega arith) e h)

  -- a class that is none of these, or has no builder, has none among their blocks
  builder_absent_from : (c a : ℕ) (xs : List ClassOf) → ((b : ℕ) → a ≤ b → has_builder p b ≡ true → (c == b) ≡ false) → block_number (OfBuilder c) (origins_from p a xs) ≡ None
  builder_absent_from c a [] h = refl
  builder_absent_from c a (x ∷ xs) h =
      absent_of_both (OfBuilder c) (cond (has_builder p a) (OfBuilder a ∷ []) []) (map OfBody x.own ++ origins_from p (suc a) xs) (by_builder (has_builder p a) refl)
      (absent_of_both (OfBuilder c) (map OfBody x.own) (origins_from p (suc a) xs) (absent_of_bodies c x.own) (builder_absent_from c (suc a) xs (λ b l k. h b (omega arith) k)))
    where
      by_builder : (b : Bool) → has_builder p a ≡ b → block_number (OfBuilder c) (cond b (OfBuilder a ∷ []) []) ≡ None
      by_builder true q = let e : (c == a) ≡ false = h a (omega arith) q in rw e refl
      by_builder false q = refl

  -- a class that has no builder has no block for it
  pub builder_absent : (c : ℕ) → has_builder p c ≡ false → block_number (OfBuilder c) (origins p) ≡ None
  builder_absent c h = ap one_higher (builder_absent_from c 0 p.classes (λ b l k. ne_eqb c b (λ e. false≢true (sym h ∙ ap (has_builder p) e ∙ k))))

  -- among the blocks of these classes builders stand in the order of their classes
  builders_rise_from : (c d a : ℕ) (xs : List ClassOf) (n j : ℕ) → c < d → block_number (OfBuilder c) (origins_from p a xs) ≡ Some n → slice_get (origins_from p a xs) j ≡ Some (OfBuilder d) → n < j
  builders_rise_from c d a [] n j l e f = absurd (none-some _ e)
  builders_rise_from c d a (x ∷ xs) n j l e f = by_builder (has_builder p a) refl e f (builders_rise_from c d (suc a) xs)
    where
      -- behind the bodies of a class's own chords
      behind : (own : List ℕ) (rest : List Origin) (n j : ℕ) → ((m k : ℕ) → block_number (OfBuilder c) rest ≡ Some m → slice_get rest k ≡ Some (OfBuilder d) → m < k) → block_number (OfBuilder c) (map OfBody own ++ rest) ≡ Some n → slice_get (map OfBody own ++ rest) j ≡ Some (OfBuilder d) → n < j
      behind [] rest n j h e f = h n j e f
      behind (k ∷ own) rest n zero h e f = absurd (no (same_Some _ _ f))
        where
          no : OfBody k ≡ OfBuilder d → ⊥
          no e = cc
      behind (k ∷ own) rest n (suc j) h e f =
          let q = one_more_some (block_number (OfBuilder c) (map OfBody own ++ rest)) n e in
          let less = behind own rest q.0 j h q.1 f in
          let eq = q.2 in
          omega (arith, less, eq)

      by_builder : (b : Bool) → has_builder p a ≡ b → block_number (OfBuilder c) (cond b (OfBuilder a ∷ []) [] ++ (map OfBody x.own ++ origins_from p (suc a) xs)) ≡ Some n → slice_get (cond b (OfBuilder a ∷ []) [] ++ (map OfBody x.own ++ origins_from p (suc a) xs)) j ≡ Some (OfBuilder d)
          → ((m k : ℕ) → c < d → block_number (OfBuilder c) (origins_from p (suc a) xs) ≡ Some m → slice_get (origins_from p (suc a) xs) k ≡ Some (OfBuilder d) → m < k) → n < j
      by_builder false q e f h = behind x.own (origins_from p (suc a) xs) n j (λ m k. h m k l) e f
      by_builder true q e f h = by_same (c == a) refl j e f
        where
          builder_number : (m k : ℕ) → OfBuilder m ≡ OfBuilder k → m ≡ k
          builder_number m k e = cc

          by_same : (b : Bool) → (c == a) ≡ b → (j : ℕ) → cond (c == a) (Some 0) (one_higher (block_number (OfBuilder c) (map OfBody x.own ++ origins_from p (suc a) xs))) ≡ Some n → slice_get (OfBuilder a ∷ (map OfBody x.own ++ origins_from p (suc a) xs)) j ≡ Some (OfBuilder d) → n < j
          by_same true w zero e f = let one = builder_number a d (same_Some _ _ f) in let two = eqb-true c a w in absurd (omega (arith, l, one, two))
          by_same true w (suc j) e f = let z : 0 ≡ n = same_Some _ _ (rw w at e) in omega (arith, z)
          by_same false w zero e f =
              let one = builder_number a d (same_Some _ _ f) in
              let q = one_more_some (block_number (OfBuilder c) (map OfBody x.own ++ origins_from p (suc a) xs)) n (rw w at e) in
              absurd (none-some _ (sym (absent_of_both (OfBuilder c) (map OfBody x.own) (origins_from p (suc a) xs) (absent_of_bodies c x.own) (builder_absent_from c (suc a) xs (λ b l2 k. ne_eqb c b (λ i. omega (arith, i, l, l2, one))))) ∙ q.1))
          by_same false w (suc j) e f =
              let q = one_more_some (block_number (OfBuilder c) (map OfBody x.own ++ origins_from p (suc a) xs)) n (rw w at e) in
              let less = behind x.own (origins_from p (suc a) xs) q.0 j (λ m k. h m k l) q.1 f in
              let eq = q.2 in
              omega (arith, less, eq)

  -- builders stand in the order of their classes
  pub builders_rise : (c d n j : ℕ) → c < d → block_number (OfBuilder c) (origins p) ≡ Some n → slice_get (origins p) j ≡ Some (OfBuilder d) → n < j
  builders_rise c d n zero l e f = absurd (no (same_Some _ _ f))
    where
      no : OfMain ≡ OfBuilder d → ⊥
      no e = cc
  builders_rise c d n (suc j) l e f =
      let q = one_more_some (block_number (OfBuilder c) (origins_from p 0 p.classes)) n e in
      let less = builders_rise_from c d 0 p.classes q.0 j l q.1 f in
      let eq = q.2 in
      omega (arith, less, eq)

  -- the line at a place among these classes is that of the class there
  lines_from_at : (a d : ℕ) (xs : List ClassOf) → slice_get (lines_from p a xs) d ≡ option_map (class_line p (a + d)) (slice_get xs d)
  lines_from_at a d [] = refl
  lines_from_at a zero (x ∷ xs) = let e : a ≡ a + 0 = omega arith in ap (λ c. Some (class_line p c x)) e
  lines_from_at a (suc d) (x ∷ xs) = let e : suc a + d ≡ a + suc d = omega arith in lines_from_at (suc a) d xs ∙ ap (λ c. option_map (class_line p c) (slice_get xs d)) e

  -- the line of a number is that of the class of this number
  pub line_at : (c : ℕ) → slice_get (lines_from p 0 p.classes) c ≡ option_map (class_line p c) (slice_get p.classes c)
  line_at c = let e : 0 + c ≡ c = omega arith in lines_from_at 0 c p.classes ∙ ap (λ d. option_map (class_line p d) (slice_get p.classes c)) e

  -- whether a class has a builder
  module _ (bases : (c b : ℕ) (x : ClassOf) → slice_get p.classes c ≡ Some x → x.base ≡ Some b → b < c) where
    -- whether a class or one above it has a constructor is one, however many may stand above it
    pub builds_alike : (n m c : ℕ) → c < n → c < m → builds p (slice_get p.classes c) n ≡ builds p (slice_get p.classes c) m
    builds_alike zero m c h k = absurd (omega arith)
    builds_alike (suc n) zero c h k = absurd (omega arith)
    builds_alike (suc n) (suc m) c h k = by_class (slice_get p.classes c) refl (λ b l. builds_alike n m b (omega (arith, l)) (omega (arith, l)))
      where
        by_base : (x : ClassOf) → slice_get p.classes c ≡ Some x → ((b : ℕ) → b < c → builds p (slice_get p.classes b) n ≡ builds p (slice_get p.classes b) m) → (base : Option ℕ) → x.base ≡ base → builds p (option_and_then (λ b. slice_get p.classes b) base) n ≡ builds p (option_and_then (λ b. slice_get p.classes b) base) m
        by_base x e f None q = refl
        by_base x e f (Some b) q = f b (bases c b x e q)

        by_class : (o : Option ClassOf) → slice_get p.classes c ≡ o → ((b : ℕ) → b < c → builds p (slice_get p.classes b) n ≡ builds p (slice_get p.classes b) m) → builds p o (suc n) ≡ builds p o (suc m)
        by_class None e f = refl
        by_class (Some x) e f = ap (λ z. has_own (constructor_of p x) || z) (by_base x e f x.base refl)

    -- whether the base class has a builder
    abbrev pub has_of_base : Option ℕ → Bool
    has_of_base None = false
    has_of_base (Some b) = has_builder p b

    -- a class has a builder where it has a constructor or its base class has a builder
    builds_by_base : (c n : ℕ) (x : ClassOf) → slice_get p.classes c ≡ Some x → n ≡ length p.classes → builds p (Some x) n ≡ (has_own (constructor_of p x) || has_of_base x.base)
    builds_by_base c zero x e s = let w = slice_get_within p.classes c x e in absurd (omega (arith, w, s))
    builds_by_base c (suc n) x e s = ap (λ z. has_own (constructor_of p x) || z) (by_base x.base refl)
      where
        by_base : (base : Option ℕ) → x.base ≡ base → builds p (option_and_then (λ b. slice_get p.classes b) base) n ≡ has_of_base base
        by_base None q = refl
        by_base (Some b) q =
            let w = slice_get_within p.classes c x e in
            let l = bases c b x e q in
            builds_alike n (length p.classes) b (omega (arith, w, l, s)) (omega (arith, w, l))

    -- the same of the class of a number
    pub has_builder_by_base : (c : ℕ) (x : ClassOf) → slice_get p.classes c ≡ Some x → has_builder p c ≡ (has_own (constructor_of p x) || has_of_base x.base)
    has_builder_by_base c x e = ap (λ o. builds p o (length p.classes)) e ∙ builds_by_base c (length p.classes) x e refl
