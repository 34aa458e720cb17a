-- From a step of a moment to a step of the table: one lemma for each kind of word.
use Rattle.std.proofs.Common.{◌≡◌, ◌≢◌, ⊎_elim, ℕ, suc, ◌+◌, ◌*◌, ◌<◌, ◌≤◌, List, [], ◌∷◌, length, get_or, set, refl, sym, ap, ◌∙◌, subst, arith, length-set, get_or-set_other, get_or-set_same, Bool, eqb, eq-eqb, ne_eqb, Option}
use mathlib.Core.Option.{some, none}
use mathlib.Core.Logic.{dite}
use native.Mathlib.Decide.{ℕ_discrete}
use Rattle.std.proofs.Math.Nat.{mul-le-mul_right}
use Rattle.std.proofs.lemmas.Bool.{cases_order}
use Rattle.std.proofs.lemmas.Nat.{mul-add-lt}
use lib.ListN.{get_elem?}
use lib.Seq.{set-get_or}
use Rattle.atomic_table.specs.Table.{State, Me, Act, keeps, takes, gives, chain, put_back, carried_after, homes_after, Valid, stepped, Allows}
use Rattle.atomic_table.proofs.Lists.{set_here, set_else}
use prog.Atomic.{either}
use Rattle.chord_word.proofs.Packing.{same_word, same_link}
use Rattle.chord_word.specs.declared.cells.Word.{Word}
use Rattle.chord_word.specs.Cells.{word_of, link_of, WordFits}
use Rattle.chord_rule.specs.declared.view.View.{View}
use Rattle.chord_rule.specs.Layout.{spread, breadth_for, cell_at, place_at, head_at}
use Rattle.chord_rule.specs.Moment.{Moment, Shows, Home, Place, word_at_place, PlaceOk, LinkOk}
use Rattle.chord_rule.specs.Held.{HeldBy}
use Rattle.chord_rule.proofs.Puts.{put, put_here, put_else, put_all}
use Rattle.chord_rule.proofs.Spreading.{spread_inside, spread_one}

-- a place in rows of one width is of one row, and of one place in it
one_row : (width o j q i : ℕ) → j < width → i < width → o * width + j ≡ q * width + i → (o ≡ q) × (j ≡ i)
one_row width o j q i few within e = ⊎_elim
    (λ same. (same, (let rows = ap (λ (z : ℕ). z * width) same in omega (arith, rows))))
    (λ other. absurd (⊎_elim
    (λ less. let more = mul-le-mul_right {m = suc o} {n = q} width less in omega (arith, more))
    (λ above. let more = mul-le-mul_right {m = suc q} {n = o} width above in omega (arith, more)) other)) (cases_order o q)

module _ {P : Type 0} where
  -- the slots once those that are out with a desk are home again
  abbrev pub brought_back : (ℕ → Home P) → List (ℕ × Option P) → ℕ → Home P
  brought_back h [] = h
  brought_back h (x ∷ xs) = put h x.0 (some x.1)

  -- the slots after an act
  abbrev pub after_act : (ℕ → Home P) → List (ℕ × Option P) → Act (Option P) → ℕ → Home P
  after_act h c keeps = h
  after_act h c (takes k y) = put h k none
  after_act h c gives = brought_back h c
  after_act h c (chain a b) = after_act (after_act h c a) (carried_after c a) b

  -- the act is possible
  abbrev pub Can : ℕ → (ℕ → Home P) → List (ℕ × Option P) → Act (Option P) → Type 0
  Can n h c keeps = Unit {0}
  Can n h c (takes k y) = (k < n) × (h k ≡ some y)
  Can n h c gives = Unit {0}
  Can n h c (chain a b) = Can n h c a × Can n (after_act h c a) (carried_after c a) b

  -- the slots of the table are these, below n
  abbrev Shown : ℕ → List (Home P) → (ℕ → Home P) → Type 0
  Shown n hs h = (length hs ≡ n) × ((i : ℕ) → i < n → get_elem? hs i ≡ some (h i))

  -- a slot that is set in the table is set in what is shown
  shown_put : (n : ℕ) (hs : List (Home P)) (h : ℕ → Home P) (k : ℕ) (y : Home P) → Shown n hs h → Shown n (set hs k y) (put h k y)
  shown_put n hs h k y s = (
    length-set hs k y ∙ s.0,
    λ i l. let is = s.0 in dite (ℕ_discrete i k)
        (λ e. subst (λ (j : ℕ). get_elem? (set hs k y) j ≡ some (put h k y j)) (sym e) (set_here hs k y (omega arith) ∙ ap some (sym (put_here h k y))))
        (λ ne. set_else hs k i y ne ∙ s.1 i l ∙ ap some (sym (put_else h k y i ne))),
  )

  -- slots that come home in the table come home in what is shown
  shown_back : (n : ℕ) (hs : List (Home P)) (h : ℕ → Home P) (c : List (ℕ × Option P)) → Shown n hs h → Shown n (put_back hs c) (brought_back h c)
  shown_back n hs h [] s = s
  shown_back n hs h (x ∷ xs) s = shown_put n hs h x.0 (some x.1) s

  -- the slots of the table after an act are the slots that are shown after it
  shown_after : (n : ℕ) (hs : List (Home P)) (h : ℕ → Home P) (c : List (ℕ × Option P)) (a : Act (Option P)) → Shown n hs h → Shown n (homes_after hs c a) (after_act h c a)
  shown_after n hs h c keeps s = s
  shown_after n hs h c (takes k y) s = shown_put n hs h k none s
  shown_after n hs h c gives s = shown_back n hs h c s
  shown_after n hs h c (chain a b) s = shown_after n (homes_after hs c a) (after_act h c a) (carried_after c a) b (shown_after n hs h c a s)

  -- an act that is possible in what is shown is one that the table allows
  valid_after : (n : ℕ) (hs : List (Home P)) (h : ℕ → Home P) (c : List (ℕ × Option P)) (a : Act (Option P)) → Shown n hs h → Can n h c a → Valid hs c a
  valid_after n hs h c keeps s can = tt
  valid_after n hs h c (takes k y) s can = s.1 k can.0 ∙ ap some can.1
  valid_after n hs h c gives s can = tt
  valid_after n hs h c (chain a b) s can = (valid_after n hs h c a s can.0, valid_after n (homes_after hs c a) (after_act h c a) (carried_after c a) b (shown_after n hs h c a s) can.1)

  -- the words other than word i
  shows_counter : (n width : ℕ) (m : Moment P) (s : State (Option P) View) (x id : ℕ) (c : List (ℕ × Option P)) (w : View) (a : Act (Option P)) → Shows n width m s
      → Shows n width (record m { count = x; homes = after_act m.homes c a; views = set m.views id w }) (stepped s 0 x id c w a)
  shows_counter n width m s x id c w a k = let h = shown_after n s.homes m.homes c a (k.deep, k.homes) in let wide = k.wide in record {
    wide = length-set s.words 0 x ∙ k.wide;
    deep = h.0;
    count = get_or-set_same s.words 0 x 0 (omega arith);
    cells = λ i l. (get_or-set_other s.words 0 (cell_at i) x 0 (omega arith) ∙ (k.cells i l).0, (k.cells i l).1);
    heads = λ o j low few. (get_or-set_other s.words 0 (head_at n width o j) x 0 (omega arith) ∙ (k.heads o j low few).0, (k.heads o j low few).1);
    places = λ i l. (get_or-set_other s.words 0 (place_at n i) x 0 (omega arith) ∙ (k.places i l).0, (k.places i l).1);
    homes = h.1;
    views = ap (λ (vs : List View). set vs id w) k.views;
  }

  -- a table with another cell shows the moment with that cell
  shows_cell : (n width : ℕ) (m : Moment P) (s : State (Option P) View) (i id : ℕ) (x : Word) (c : List (ℕ × Option P)) (w : View) (a : Act (Option P)) → i < n → WordFits x → Shows n width m s
      → Shows n width (record m { cells = put m.cells i x; homes = after_act m.homes c a; views = set m.views id w }) (stepped s (cell_at i) (word_of x) id c w a)
  shows_cell n width m s i id x c w a low fits k = let h = shown_after n s.homes m.homes c a (k.deep, k.homes) in let wide = k.wide in let inside = spread_inside n i low in record {
    wide = length-set s.words (cell_at i) (word_of x) ∙ k.wide;
    deep = h.0;
    count = get_or-set_other s.words (cell_at i) 0 (word_of x) 0 (omega arith) ∙ k.count;
    cells = λ j l. put_all m.cells i x (λ j y. (get_or (set s.words (cell_at i) (word_of x)) (cell_at j) 0 ≡ word_of y) × WordFits y) j
        (get_or-set_same s.words (cell_at i) (word_of x) 0 (omega (arith, wide, inside)), fits)
        (λ ne. (get_or-set_other s.words (cell_at i) (cell_at j) (word_of x) 0 (λ e. ne (spread_one j i (omega arith))) ∙ (k.cells j l).0, (k.cells j l).1));
    heads = λ o j below few. (get_or-set_other s.words (cell_at i) (head_at n width o j) (word_of x) 0 (omega (arith, inside)) ∙ (k.heads o j below few).0, (k.heads o j below few).1);
    places = λ j l. (get_or-set_other s.words (cell_at i) (place_at n j) (word_of x) 0 (omega (arith, inside)) ∙ (k.places j l).0, (k.places j l).1);
    homes = h.1;
    views = ap (λ (vs : List View). set vs id w) k.views;
  }

  -- a table with another head shows the moment with that head
  shows_head : (n width : ℕ) (m : Moment P) (s : State (Option P) View) (o j number id : ℕ) (x : Option ℕ) (c : List (ℕ × Option P)) (w : View) (a : Act (Option P)) → o < n → j < width → width ≤ 16 → number ≡ 16 * o + j → LinkOk x → Shows n width m s
      → Shows n width (record m { heads = put m.heads number x; homes = after_act m.homes c a; views = set m.views id w }) (stepped s (head_at n width o j) (link_of x) id c w a)
  shows_head n width m s o j number id x c w a low few most numbered fits k = let h = shown_after n s.homes m.homes c a (k.deep, k.homes) in let wide = k.wide in let at : ℕ = head_at n width o j in let inside = mul-add-lt (spread o) width j (breadth_for n) (spread_inside n o low) few in record {
    wide = length-set s.words at (link_of x) ∙ k.wide;
    deep = h.0;
    count = get_or-set_other s.words at 0 (link_of x) 0 (omega arith) ∙ k.count;
    cells = λ i l. (get_or-set_other s.words at (cell_at i) (link_of x) 0 (let near = spread_inside n i l in omega (arith, near)) ∙ (k.cells i l).0, (k.cells i l).1);
    heads = λ q i below within. put_all m.heads number x (λ z y. z ≡ 16 * q + i → (get_or (set s.words at (link_of x)) (head_at n width q i) 0 ≡ link_of y) × LinkOk y) (16 * q + i)
        (λ same. let of : o ≡ q = omega arith in let by : j ≡ i = omega arith in (
          ap (λ (z : ℕ × ℕ). get_or (set s.words at (link_of x)) (head_at n width z.0 z.1) 0) (λ b. (sym of b, sym by b)) ∙ get_or-set_same s.words at (link_of x) 0 (omega (arith, wide, inside)),
          fits,
        ))
        (λ ne same. (
          get_or-set_other s.words at (head_at n width q i) (link_of x) 0 (λ e. let both = one_row width (spread o) j (spread q) i few within (omega arith) in let of = spread_one o q both.0 in let by = both.1 in ne (omega arith)) ∙ (k.heads q i below within).0,
          (k.heads q i below within).1,
        )) refl;
    places = λ i l. (get_or-set_other s.words at (place_at n i) (link_of x) 0 (let near = spread_inside n i l in omega (arith, near)) ∙ (k.places i l).0, (k.places i l).1);
    homes = h.1;
    views = ap (λ (vs : List View). set vs id w) k.views;
  }

  -- a table with another place word shows the moment with that place
  shows_place : (n width : ℕ) (m : Moment P) (s : State (Option P) View) (i id : ℕ) (x : Option Place) (c : List (ℕ × Option P)) (w : View) (a : Act (Option P)) → i < n → PlaceOk x → Shows n width m s
      → Shows n width (record m { places = put m.places i x; homes = after_act m.homes c a; views = set m.views id w }) (stepped s (place_at n i) (word_at_place x) id c w a)
  shows_place n width m s i id x c w a low fits k = let h = shown_after n s.homes m.homes c a (k.deep, k.homes) in let wide = k.wide in let inside = spread_inside n i low in record {
    wide = length-set s.words (place_at n i) (word_at_place x) ∙ k.wide;
    deep = h.0;
    count = get_or-set_other s.words (place_at n i) 0 (word_at_place x) 0 (omega arith) ∙ k.count;
    cells = λ j l. (get_or-set_other s.words (place_at n i) (cell_at j) (word_at_place x) 0 (let near = spread_inside n j l in omega (arith, near)) ∙ (k.cells j l).0, (k.cells j l).1);
    heads = λ o j below few. (get_or-set_other s.words (place_at n i) (head_at n width o j) (word_at_place x) 0 (omega (arith, inside)) ∙ (k.heads o j below few).0, (k.heads o j below few).1);
    places = λ j l. put_all m.places i x (λ j y. (get_or (set s.words (place_at n i) (word_at_place x)) (place_at n j) 0 ≡ word_at_place y) × PlaceOk y) j
        (get_or-set_same s.words (place_at n i) (word_at_place x) 0 (omega (arith, wide, inside)), fits)
        (λ ne. (get_or-set_other s.words (place_at n i) (place_at n j) (word_at_place x) 0 (λ e. ne (spread_one j i (omega arith))) ∙ (k.places j l).0, (k.places j l).1));
    homes = h.1;
    views = ap (λ (vs : List View). set vs id w) k.views;
  }

  -- a load of the word i
  shows_look : (n width : ℕ) (m : Moment P) (s : State (Option P) View) (i id : ℕ) (c : List (ℕ × Option P)) (w : View) (a : Act (Option P)) → Shows n width m s
      → Shows n width (record m { homes = after_act m.homes c a; views = set m.views id w }) (stepped s i (get_or s.words i 0) id c w a)
  shows_look n width m s i id c w a k = let h = shown_after n s.homes m.homes c a (k.deep, k.homes) in
      subst (λ (ws : List ℕ). Shows n width (record m { homes = after_act m.homes c a; views = set m.views id w }) record { words = ws; homes = homes_after s.homes c a; views = set s.views id w }) (sym (set-get_or s.words i 0)) record {
        wide = k.wide;
        deep = h.0;
        count = k.count;
        cells = k.cells;
        heads = k.heads;
        places = k.places;
        homes = h.1;
        views = ap (λ (vs : List View). set vs id w) k.views;
      }

  module _ (G : Type 0) (R : Moment P → G → Type 0) (n width : ℕ) where
    -- a step on the counter
    pub counter_step : (id : ℕ) (me : Me (Option P) View) (f : ℕ → ℕ) (then : ℕ → Me (Option P) View → Type 0)
        → ((m : Moment P) (g : G) → R m g → get_elem? m.views id ≡ some me.0 → m.count < 18446744073709551616
        → (w : View) × (a : Act (Option P)) × (g' : G) × Can n m.homes me.1 a
        × R (record m { count = f m.count; homes = after_act m.homes me.1 a; views = set m.views id w }) g' × then m.count (w, carried_after me.1 a))
        → Allows (HeldBy G R n width) n id me 0 f then
    counter_step id me f then k s h deep at fits = let sh = h.shows in let m = h.moment in
        let r = k m h.ghosts h.rule (subst (λ (vs : List View). get_elem? vs id ≡ some me.0) sh.views at) (subst (λ (x : ℕ). x < 18446744073709551616) sh.count fits) in (
          r.0,
          r.1,
          valid_after n s.homes m.homes me.1 r.1 (sh.deep, sh.homes) r.3,
          record {
            moment = record m { count = f (get_or s.words 0 0); homes = after_act m.homes me.1 r.1; views = set m.views id r.0 };
            ghosts = r.2;
            shows = shows_counter n width m s (f (get_or s.words 0 0)) id me.1 r.0 r.1 sh;
            rule = subst (λ (x : ℕ). R (record m { count = f x; homes = after_act m.homes me.1 r.1; views = set m.views id r.0 }) r.2) (sym sh.count) r.4;
          },
          subst (λ (x : ℕ). then x (r.0, carried_after me.1 r.1)) (sym sh.count) r.5,
        )

    -- a desk with its view and its slots goes on to a moment of the rule, by a possible act, and tells what is due
    abbrev pub Goes : (m : Moment P) → Me (Option P) View → (View → Act (Option P) → Moment P) → (View → Act (Option P) → Type 0) → Type 0
    Goes m me to then = (w : View) × (a : Act (Option P)) × (g : G) × Can n m.homes me.1 a × R (to w a) g × then w a

    -- the view of a desk in the table is its view in the moment
    found : (m : Moment P) (s : State (Option P) View) (id : ℕ) (v : View) → Shows n width m s → get_elem? s.views id ≡ some v → get_elem? m.views id ≡ some v
    found m s id v sh at = subst (λ (vs : List View). get_elem? vs id ≡ some v) sh.views at

    -- a store to the cell i
    pub store_cell : (id : ℕ) (me : Me (Option P) View) (i : ℕ) (x : Word) (then : Me (Option P) View → Type 0) → i < n
        → ((m : Moment P) (g : G) → R m g → get_elem? m.views id ≡ some me.0 → WordFits (m.cells i)
        → WordFits x × Goes m me (λ w a. record m { cells = put m.cells i x; homes = after_act m.homes me.1 a; views = set m.views id w }) (λ w a. then (w, carried_after me.1 a)))
        → Allows (HeldBy G R n width) n id me (cell_at i) (λ _. word_of x) (λ _. then)
    store_cell id me i x then low k s h deep at word = let sh = h.shows in let m = h.moment in let kr = k m h.ghosts h.rule (found m s id me.0 sh at) (sh.cells i low).1 in let fits = kr.0 in let r = kr.1 in (
      r.0,
      r.1,
      valid_after n s.homes m.homes me.1 r.1 (sh.deep, sh.homes) r.3,
      record { moment = record m { cells = put m.cells i x; homes = after_act m.homes me.1 r.1; views = set m.views id r.0 }; ghosts = r.2; shows = shows_cell n width m s i id x me.1 r.0 r.1 low fits sh; rule = r.4 },
      r.5,
    )

    -- the word of the head of this number
    head_shown : (m : Moment P) (s : State (Option P) View) (o j number : ℕ) → o < n → j < width → number ≡ 16 * o + j → Shows n width m s
        → (get_or s.words (head_at n width o j) 0 ≡ link_of (m.heads number)) × LinkOk (m.heads number)
    head_shown m s o j number low few numbered sh = subst (λ (z : ℕ). (get_or s.words (head_at n width o j) 0 ≡ link_of (m.heads z)) × LinkOk (m.heads z)) (sym numbered) (sh.heads o j low few)

    -- a swap of the head for the method j of the object o
    pub swap_head : (id : ℕ) (me : Me (Option P) View) (o j number : ℕ) (x : Option ℕ) (then : ℕ → Me (Option P) View → Type 0) → o < n → j < width → width ≤ 16 → number ≡ 16 * o + j → LinkOk x
        → ((m : Moment P) (g : G) → R m g → get_elem? m.views id ≡ some me.0 → LinkOk (m.heads number)
        → Goes m me (λ w a. record m { heads = put m.heads number x; homes = after_act m.homes me.1 a; views = set m.views id w }) (λ w a. then (link_of (m.heads number)) (w, carried_after me.1 a)))
        → Allows (HeldBy G R n width) n id me (head_at n width o j) (λ _. link_of x) then
    swap_head id me o j number x then low few most numbered fits k s h deep at word = let sh = h.shows in let m = h.moment in let r = k m h.ghosts h.rule (found m s id me.0 sh at) (head_shown m s o j number low few numbered sh).1 in (
      r.0,
      r.1,
      valid_after n s.homes m.homes me.1 r.1 (sh.deep, sh.homes) r.3,
      record { moment = record m { heads = put m.heads number x; homes = after_act m.homes me.1 r.1; views = set m.views id r.0 }; ghosts = r.2; shows = shows_head n width m s o j number id x me.1 r.0 r.1 low few most numbered fits sh; rule = r.4 },
      subst (λ (y : ℕ). then y (r.0, carried_after me.1 r.1)) (sym (head_shown m s o j number low few numbered sh).0) r.5,
    )

    -- a store to the place i
    pub store_place : (id : ℕ) (me : Me (Option P) View) (i : ℕ) (x : Option Place) (then : Me (Option P) View → Type 0) → i < n → PlaceOk x
        → ((m : Moment P) (g : G) → R m g → get_elem? m.views id ≡ some me.0
        → Goes m me (λ w a. record m { places = put m.places i x; homes = after_act m.homes me.1 a; views = set m.views id w }) (λ w a. then (w, carried_after me.1 a)))
        → Allows (HeldBy G R n width) n id me (place_at n i) (λ _. word_at_place x) (λ _. then)
    store_place id me i x then low fits k s h deep at word = let sh = h.shows in let m = h.moment in let r = k m h.ghosts h.rule (found m s id me.0 sh at) in (
      r.0,
      r.1,
      valid_after n s.homes m.homes me.1 r.1 (sh.deep, sh.homes) r.3,
      record { moment = record m { places = put m.places i x; homes = after_act m.homes me.1 r.1; views = set m.views id r.0 }; ghosts = r.2; shows = shows_place n width m s i id x me.1 r.0 r.1 low fits sh; rule = r.4 },
      r.5,
    )

    -- a load of the cell i
    pub load_cell : (id : ℕ) (me : Me (Option P) View) (i : ℕ) (then : ℕ → Me (Option P) View → Type 0) → i < n
        → ((m : Moment P) (g : G) → R m g → get_elem? m.views id ≡ some me.0 → WordFits (m.cells i)
        → Goes m me (λ w a. record m { homes = after_act m.homes me.1 a; views = set m.views id w }) (λ w a. then (word_of (m.cells i)) (w, carried_after me.1 a)))
        → Allows (HeldBy G R n width) n id me (cell_at i) (λ x. x) then
    load_cell id me i then low k s h deep at word = let sh = h.shows in let m = h.moment in let r = k m h.ghosts h.rule (found m s id me.0 sh at) (sh.cells i low).1 in (
      r.0,
      r.1,
      valid_after n s.homes m.homes me.1 r.1 (sh.deep, sh.homes) r.3,
      record { moment = record m { homes = after_act m.homes me.1 r.1; views = set m.views id r.0 }; ghosts = r.2; shows = shows_look n width m s (cell_at i) id me.1 r.0 r.1 sh; rule = r.4 },
      subst (λ (y : ℕ). then y (r.0, carried_after me.1 r.1)) (sym (sh.cells i low).0) r.5,
    )

    -- a compare-exchange of the cell i, which goes from x to y
    pub exchange_cell : (id : ℕ) (me : Me (Option P) View) (i : ℕ) (x y : Word) (then : ℕ → Me (Option P) View → Type 0) → i < n → WordFits x → WordFits y
        → ((m : Moment P) (g : G) → R m g → get_elem? m.views id ≡ some me.0 → m.cells i ≡ x
        → Goes m me (λ w a. record m { cells = put m.cells i y; homes = after_act m.homes me.1 a; views = set m.views id w }) (λ w a. then (word_of x) (w, carried_after me.1 a)))
        → ((m : Moment P) (g : G) → R m g → get_elem? m.views id ≡ some me.0 → WordFits (m.cells i) → word_of (m.cells i) ≢ word_of x
        → Goes m me (λ w a. record m { homes = after_act m.homes me.1 a; views = set m.views id w }) (λ w a. then (word_of (m.cells i)) (w, carried_after me.1 a)))
        → Allows (HeldBy G R n width) n id me (cell_at i) (λ z. either (eqb z (word_of x)) (word_of y) z) then
    exchange_cell id me i x y then low xfits yfits hit miss s h deep at word = let sh = h.shows in let m = h.moment in let c = sh.cells i low in let at' = found m s id me.0 sh at in dite (ℕ_discrete (word_of (m.cells i)) (word_of x))
        (λ e. let r = hit m h.ghosts h.rule at' (same_word (m.cells i) x c.1 xfits e) in (
          r.0,
          r.1,
          valid_after n s.homes m.homes me.1 r.1 (sh.deep, sh.homes) r.3,
          record {
            moment = record m { cells = put m.cells i y; homes = after_act m.homes me.1 r.1; views = set m.views id r.0 };
            ghosts = r.2;
            shows = subst (λ (z : ℕ). Shows n width (record m { cells = put m.cells i y; homes = after_act m.homes me.1 r.1; views = set m.views id r.0 }) (stepped s (cell_at i) z id me.1 r.0 r.1))
                (ap (λ (b : Bool). either b (word_of y) (get_or s.words (cell_at i) 0)) (sym (eq-eqb (get_or s.words (cell_at i) 0) (word_of x) (c.0 ∙ e)))) (shows_cell n width m s i id y me.1 r.0 r.1 low yfits sh);
            rule = r.4;
          },
          subst (λ (z : ℕ). then z (r.0, carried_after me.1 r.1)) (sym (c.0 ∙ e)) r.5,
        ))
        (λ ne. let r = miss m h.ghosts h.rule at' c.1 ne in (
          r.0,
          r.1,
          valid_after n s.homes m.homes me.1 r.1 (sh.deep, sh.homes) r.3,
          record {
            moment = record m { homes = after_act m.homes me.1 r.1; views = set m.views id r.0 };
            ghosts = r.2;
            shows = subst (λ (z : ℕ). Shows n width (record m { homes = after_act m.homes me.1 r.1; views = set m.views id r.0 }) (stepped s (cell_at i) z id me.1 r.0 r.1))
                (ap (λ (b : Bool). either b (word_of y) (get_or s.words (cell_at i) 0)) (sym (ne_eqb (get_or s.words (cell_at i) 0) (word_of x) (λ q. ne (sym c.0 ∙ q))))) (shows_look n width m s (cell_at i) id me.1 r.0 r.1 sh);
            rule = r.4;
          },
          subst (λ (z : ℕ). then z (r.0, carried_after me.1 r.1)) (sym c.0) r.5,
        ))

    -- a compare-exchange of that head, which goes from x to y
    pub exchange_head : (id : ℕ) (me : Me (Option P) View) (o j number : ℕ) (x y : Option ℕ) (then : ℕ → Me (Option P) View → Type 0) → o < n → j < width → width ≤ 16 → number ≡ 16 * o + j → LinkOk y
        → ((m : Moment P) (g : G) → R m g → get_elem? m.views id ≡ some me.0 → m.heads number ≡ x
        → Goes m me (λ w a. record m { heads = put m.heads number y; homes = after_act m.homes me.1 a; views = set m.views id w }) (λ w a. then (link_of x) (w, carried_after me.1 a)))
        → ((m : Moment P) (g : G) → R m g → get_elem? m.views id ≡ some me.0 → LinkOk (m.heads number) → m.heads number ≢ x
        → Goes m me (λ w a. record m { homes = after_act m.homes me.1 a; views = set m.views id w }) (λ w a. then (link_of (m.heads number)) (w, carried_after me.1 a)))
        → Allows (HeldBy G R n width) n id me (head_at n width o j) (λ z. either (eqb z (link_of x)) (link_of y) z) then
    exchange_head id me o j number x y then low few most numbered yfits hit miss s h deep at word = let sh = h.shows in let m = h.moment in let c = head_shown m s o j number low few numbered sh in let at' = found m s id me.0 sh at in dite (ℕ_discrete (link_of (m.heads number)) (link_of x))
        (λ e. let r = hit m h.ghosts h.rule at' (same_link (m.heads number) x e) in (
          r.0,
          r.1,
          valid_after n s.homes m.homes me.1 r.1 (sh.deep, sh.homes) r.3,
          record {
            moment = record m { heads = put m.heads number y; homes = after_act m.homes me.1 r.1; views = set m.views id r.0 };
            ghosts = r.2;
            shows = subst (λ (z : ℕ). Shows n width (record m { heads = put m.heads number y; homes = after_act m.homes me.1 r.1; views = set m.views id r.0 }) (stepped s (head_at n width o j) z id me.1 r.0 r.1))
                (ap (λ (b : Bool). either b (link_of y) (get_or s.words (head_at n width o j) 0)) (sym (eq-eqb (get_or s.words (head_at n width o j) 0) (link_of x) (c.0 ∙ e)))) (shows_head n width m s o j number id y me.1 r.0 r.1 low few most numbered yfits sh);
            rule = r.4;
          },
          subst (λ (z : ℕ). then z (r.0, carried_after me.1 r.1)) (sym (c.0 ∙ e)) r.5,
        ))
        (λ ne. let r = miss m h.ghosts h.rule at' c.1 (λ q. ne (ap link_of q)) in (
          r.0,
          r.1,
          valid_after n s.homes m.homes me.1 r.1 (sh.deep, sh.homes) r.3,
          record {
            moment = record m { homes = after_act m.homes me.1 r.1; views = set m.views id r.0 };
            ghosts = r.2;
            shows = subst (λ (z : ℕ). Shows n width (record m { homes = after_act m.homes me.1 r.1; views = set m.views id r.0 }) (stepped s (head_at n width o j) z id me.1 r.0 r.1))
                (ap (λ (b : Bool). either b (link_of y) (get_or s.words (head_at n width o j) 0)) (sym (ne_eqb (get_or s.words (head_at n width o j) 0) (link_of x) (λ q. ne (sym c.0 ∙ q))))) (shows_look n width m s (head_at n width o j) id me.1 r.0 r.1 sh);
            rule = r.4;
          },
          subst (λ (z : ℕ). then z (r.0, carried_after me.1 r.1)) (sym c.0) r.5,
        ))

    -- a load of that head
    pub load_head : (id : ℕ) (me : Me (Option P) View) (o j number : ℕ) (then : ℕ → Me (Option P) View → Type 0) → o < n → j < width → number ≡ 16 * o + j
        → ((m : Moment P) (g : G) → R m g → get_elem? m.views id ≡ some me.0 → LinkOk (m.heads number)
        → Goes m me (λ w a. record m { homes = after_act m.homes me.1 a; views = set m.views id w }) (λ w a. then (link_of (m.heads number)) (w, carried_after me.1 a)))
        → Allows (HeldBy G R n width) n id me (head_at n width o j) (λ x. x) then
    load_head id me o j number then low few numbered k s h deep at word = let sh = h.shows in let m = h.moment in let r = k m h.ghosts h.rule (found m s id me.0 sh at) (head_shown m s o j number low few numbered sh).1 in (
      r.0,
      r.1,
      valid_after n s.homes m.homes me.1 r.1 (sh.deep, sh.homes) r.3,
      record { moment = record m { homes = after_act m.homes me.1 r.1; views = set m.views id r.0 }; ghosts = r.2; shows = shows_look n width m s (head_at n width o j) id me.1 r.0 r.1 sh; rule = r.4 },
      subst (λ (y : ℕ). then y (r.0, carried_after me.1 r.1)) (sym (head_shown m s o j number low few numbered sh).0) r.5,
    )

    -- a load of the place i
    pub load_place : (id : ℕ) (me : Me (Option P) View) (i : ℕ) (then : ℕ → Me (Option P) View → Type 0) → i < n
        → ((m : Moment P) (g : G) → R m g → get_elem? m.views id ≡ some me.0 → PlaceOk (m.places i)
        → Goes m me (λ w a. record m { homes = after_act m.homes me.1 a; views = set m.views id w }) (λ w a. then (word_at_place (m.places i)) (w, carried_after me.1 a)))
        → Allows (HeldBy G R n width) n id me (place_at n i) (λ x. x) then
    load_place id me i then low k s h deep at word = let sh = h.shows in let m = h.moment in let r = k m h.ghosts h.rule (found m s id me.0 sh at) (sh.places i low).1 in (
      r.0,
      r.1,
      valid_after n s.homes m.homes me.1 r.1 (sh.deep, sh.homes) r.3,
      record { moment = record m { homes = after_act m.homes me.1 r.1; views = set m.views id r.0 }; ghosts = r.2; shows = shows_look n width m s (place_at n i) id me.1 r.0 r.1 sh; rule = r.4 },
      subst (λ (y : ℕ). then y (r.0, carried_after me.1 r.1)) (sym (sh.places i low).0) r.5,
    )
