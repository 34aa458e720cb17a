-- Two desks become one: what both keep is what each kept, and it is quiet if both were.
use Rattle.std.proofs.Common.{◌≡◌, ℕ, ◌<◌, ltb, Bool, true, false, not, ◌==◌, ◌||◌, ◌++◌, List, [], ◌∷◌, map, Option, None, refl, sym, ap, ap₂, ◌∙◌, subst, ◌⊎◌, inl, inr, ⊎_elim, arith, if◌then◌else◌}
use Rattle.std.proofs.lemmas.Bool.{eqb-true, lt-ltb, le-ltb}
use Rattle.std.proofs.lemmas.List.{append-nil}
use Rattle.chord_base.specs.declared.event.Entry.{Entry}
use Rattle.chord_base.specs.Meaning.{Program}
use Rattle.chord_base.specs.Story.{kept, IsTold, IsRising, IsIn, AllBelow, insert, together}
use Rattle.chord_base.proofs.Waits.{either}
use Rattle.chord_base.proofs.Merged.{past_rises}
use Rattle.chord_base.proofs.Places.{kept_below}
use Rattle.chord_rule.specs.Closing.{AreQuiet}
use Rattle.chord_rule.specs.Coming.{IsPlace}
use Rattle.chord_rule.specs.declared.view.Duty.{Duty}
use Rattle.chord_rule.specs.declared.view.View.{View}
use Rattle.chord_rule.specs.Duties.{reset_duty}
use Rattle.chord_rule.specs.Kinds.{is_among, left_by, united}
use Rattle.chord_space.specs.declared.space.Desk.{Desk}
use Rattle.chord_space.specs.declared.space.Space.{Space}
use Rattle.chord_space.specs.Desks.{view, space_code, space_limits, program_of, IsSameDesk}
use Rattle.chord_task.specs.declared.parcel.Opened.{Opened as Parcel}
use Rattle.chord_task.specs.declared.task.Task.{Task}
use Rattle.chord_worker.specs.declared.worker.Worker.{Worker}
use Rattle.chord_worker.specs.Resting.{IsInMemory, MayContinue, IsHandFree, IsStock, IsAtRest}
use Rattle.chord_worker.specs.Parted.{two}
use Rattle.chord_worker.proofs.Parts.{kept_agree, kept_nothing, all_kept, kept_rises, among_in, in_below, parts_quiet}
use Rattle.chord_worker.proofs.Listed.{lists_same, lists_united}
use Rattle.chord_worker.proofs.Memory.{two_parted}

-- ## One entry more

-- an inserted entry is there, and so are the others
insert_in : (e x : Entry) (h : List Entry) → (x ≡ e) ⊎ IsIn x h → IsIn x (insert e h)
insert_in e x [] i = i
insert_in e x (y ∷ h) i =
    elim (either (ltb y.number e.number)) [
      | inl t ↦ rw t i
      | inr f ↦ rw f (⊎_elim (λ q. inr (insert_in e x h (inl q))) (λ k. ⊎_elim (λ q. inl q) (λ j. inr (insert_in e x h (inr j))) k) i)
    ]

-- what is below a number stays so without one
insert_below : (n : ℕ) (e : Entry) (h : List Entry) → AllBelow n (insert e h) → AllBelow n h × (e.number < n)
insert_below n e [] a = (tt, a.0)
insert_below n e (y ∷ h) a =
    elim (either (ltb y.number e.number)) [
      | inl t ↦ (let b : AllBelow n (e ∷ y ∷ h) = rw t at a in (b.1, b.0))
      | inr f ↦ (let b : AllBelow n (y ∷ insert e h) = rw f at a in let c = insert_below n e h b.1 in ((b.0, c.0), c.1))
    ]

-- where a history rises with an entry more, it rises without it, and has no entry of its number
insert_rises : (e : Entry) (h : List Entry) → IsRising (insert e h) → IsRising h × ((x : Entry) → IsIn x h → x.number ≡ e.number → ⊥)
insert_rises e [] r = (tt, (λ x i q. i))
insert_rises e (y ∷ h) r =
    elim (either (ltb y.number e.number)) [
      | inl t ↦ (let s : IsRising (e ∷ y ∷ h) = rw t at r in (s.1, (λ x i q. let l = in_below e.number (y ∷ h) x s.0 i in omega (arith, l, q))))
      | inr f ↦
          (let s : IsRising (y ∷ insert e h) = rw f at r in
          let b = insert_below y.number e h s.0 in
          let c = insert_rises e h s.1 in
          ((b.0, c.0), (λ x i q. ⊎_elim (λ z. let n : x.number ≡ y.number = ap (λ (w : Entry). w.number) z in let l = b.1 in omega (arith, n, l, q)) (λ k. c.1 x k q) i)))
    ]

-- where two histories rise together, the first rises, and no number is in both
together_rises : (h g : List Entry) → IsRising (together h g) → IsRising h × ((x y : Entry) → IsIn x h → IsIn y g → x.number ≡ y.number → ⊥)
together_rises h [] r = (r, (λ x y i j q. j))
together_rises h (e ∷ g) r =
    let later = together_rises (insert e h) g r in
    let here = insert_rises e h later.0 in
    (here.0, (λ x y i j q. ⊎_elim (λ z. here.1 x i (q ∙ ap (λ (w : Entry). w.number) z)) (λ k. later.1 x y (insert_in e x h (inr i)) k q) j))

-- ## What a test keeps of both

-- an entry above all comes first
insert_first : (e : Entry) (h : List Entry) → AllBelow e.number h → insert e h ≡ e ∷ h
insert_first e [] b = refl
insert_first e (x ∷ h) b = ap (λ (t : Bool). if t then e ∷ x ∷ h else x ∷ insert e h) (lt-ltb x.number e.number b.0)

-- what a test keeps of a history with one entry more
kept_insert : (f : ℕ → Bool) (e : Entry) (h : List Entry) → IsRising (insert e h) → kept f (insert e h) ≡ (if f e.number then insert e (kept f h) else kept f h)
kept_insert f e [] r = refl
kept_insert f e (y ∷ h) r =
    elim (either (ltb y.number e.number)) [
      | inl t ↦
          (let s : IsRising (e ∷ y ∷ h) = rw t at r in
          rw t (elim (either (f e.number)) [
            | inl w ↦ rw w (sym (insert_first e (kept f (y ∷ h)) (kept_below e.number f (y ∷ h) s.0)))
            | inr o ↦ rw o refl
          ]))
      | inr n ↦
          (let s : IsRising (y ∷ insert e h) = rw n at r in
          let before = kept_insert f e h s.1 in
          rw n (elim (either (f y.number)) [
            | inl w ↦ elim (either (f e.number)) [
              | inl v ↦ rw (w, v, n) (ap (λ (z : List Entry). y ∷ z) (rw v at before))
              | inr o ↦ rw (w, o) (ap (λ (z : List Entry). y ∷ z) (rw o at before))
            ]
            | inr w ↦ rw w before
          ]))
    ]

-- what a test keeps of two histories together
pub kept_together : (f : ℕ → Bool) (h g : List Entry) → IsRising (together h g) → kept f (together h g) ≡ together (kept f h) (kept f g)
kept_together f h [] r = refl
kept_together f h (e ∷ g) r =
    let here = kept_insert f e h (together_rises (insert e h) g r).0 in
    kept_together f (insert e h) g r ∙ elim (either (f e.number)) [
      | inl y ↦ rw y (ap (λ (z : List Entry). together z (kept f g)) (rw y at here))
      | inr o ↦ rw o (ap (λ (z : List Entry). together z (kept f g)) (rw o at here))
    ]

-- the number of an entry is among theirs
pub among_self : (h : List Entry) (e : Entry) → IsIn e h → is_among h e.number ≡ true
among_self h e i = subst (λ (z : List Entry). is_among z e.number ≡ true) (all_kept h) (among_in (λ n. true) h e i refl)

-- a number among theirs is that of one
among_entry : (h : List Entry) (n : ℕ) → is_among h n ≡ true → (e : Entry) × IsIn e h × (e.number ≡ n)
among_entry [] n a = let z : false ≡ true = a in absurd (cc)
among_entry (x ∷ h) n a =
    elim (either (x.number == n)) [
      | inl y ↦ (x, inl refl, eqb-true x.number n y)
      | inr o ↦ (let k = among_entry h n (rw o at a) in (k.0, inr k.1, k.2))
    ]

-- an entry above all of a history comes last where they go behind it one by one
insert_last : (x : Entry) (h : List Entry) → IsRising (h ++ x ∷ []) → insert x h ≡ h ++ x ∷ []
insert_last x [] r = refl
insert_last x (y ∷ h) r =
    ap (λ (t : Bool). if t then x ∷ y ∷ h else y ∷ insert x h) (le-ltb y.number x.number (let l = last_below y.number h r.0 in omega (arith, l)))
    ∙ ap (λ (z : List Entry). y ∷ z) (insert_last x h r.1)
  where
    last_below : (n : ℕ) (g : List Entry) → AllBelow n (g ++ x ∷ []) → x.number < n
    last_below n [] a = a.0
    last_below n (z ∷ g) a = last_below n g a.1

-- the front of a history that rises rises
front_rises : (h g : List Entry) (x : Entry) → IsRising (h ++ x ∷ g) → IsRising (h ++ x ∷ [])
front_rises [] g x r = (tt, tt)
front_rises (y ∷ h) g x r = (front_below y.number h r.0, front_rises h g x r.1)
  where
    front_below : (n : ℕ) (k : List Entry) → AllBelow n (k ++ x ∷ g) → AllBelow n (k ++ x ∷ [])
    front_below n [] a = (a.0, tt)
    front_below n (z ∷ k) a = (a.0, front_below n k a.1)

-- a history one behind the other, where all rises
one_behind : (h g : List Entry) → IsRising (h ++ g) → together h g ≡ h ++ g
one_behind h [] r = sym (append-nil h)
one_behind h (x ∷ g) r =
    let last = insert_last x h (front_rises h g x r) in
    ap (λ (z : List Entry). together z g) last
    ∙ one_behind (h ++ x ∷ []) g (subst IsRising (sym (regroup h)) r) ∙ regroup h
  where
    regroup : (k : List Entry) → (k ++ x ∷ []) ++ g ≡ k ++ x ∷ g
    regroup [] = refl
    regroup (z ∷ k) = ap (λ (t : List Entry). z ∷ t) (regroup k)

-- ## Both

module _ (p : Program) (h g : List Entry) (rises : IsRising (together h g)) (lower : IsRising g) (told : IsTold p h) (other : IsTold p g) where
  -- no number of the first is among those of the second
  apart : (e : Entry) → IsIn e h → is_among g e.number ≡ false
  apart e i = elim (either (is_among g e.number)) [
    | inl y ↦ (let k = among_entry g e.number y in absurd ((together_rises h g rises).1 e k.0 i k.1 (sym k.2)))
    | inr o ↦ o
  ]

  -- what the second kept is a part of both
  second_part : kept (is_among g) (together h g) ≡ g
  second_part = kept_together (is_among g) h g rises
      ∙ ap₂ together (kept_agree (is_among g) (λ n. false) h (λ e i. apart e i) ∙ kept_nothing h) (kept_agree (is_among g) (λ n. true) g (λ e i. among_self g e i) ∙ all_kept g)
      ∙ one_behind [] g lower

  -- the rest is what the first kept
  first_left : left_by g (together h g) ≡ h
  first_left = kept_together (λ n. not (is_among g n)) h g rises
      ∙ ap₂ together (kept_agree (λ n. not (is_among g n)) (λ n. true) h (λ e i. ap not (apart e i)) ∙ all_kept h) (kept_agree (λ n. not (is_among g n)) (λ n. false) g (λ e i. ap not (among_self g e i)) ∙ kept_nothing g)

  -- both are quiet if each is
  pub both_quiet : AreQuiet p h → AreQuiet p g → AreQuiet p (together h g)
  both_quiet q r = parts_quiet p (two (left_by g (together h g)) g) (together h g)
      (two_parted p (together h g) g rises (record { part = second_part; goes = other; stays = subst (IsTold p) (sym first_left) told }))
      (λ c. elim (either (c == 0)) [
        | inl y ↦ rw y (subst (AreQuiet p) (sym first_left) q)
        | inr o ↦ elim (either (c == 1)) [ inl y ↦ rw (o, y) r | inr z ↦ rw (o, z) (λ b. tt) ]
      ])

-- what a place keeps rises
pub place_rises : (p : Program) (es : List Entry) → IsPlace p es → IsRising es
place_rises p es place = subst IsRising (place.merged.keeps place.place ∙ place.is) (kept_rises (λ n. place.merged.at n == place.place) place.run (past_rises p place.run place.merged.past))

-- and is told
pub place_told : (p : Program) (es : List Entry) → IsPlace p es → IsTold p es
place_told p es place = subst (IsTold p) place.is (place.merged.told place.place)

module _ (s : Space Parcel) (w o : Worker) (mine : IsAtRest s w) (others : IsAtRest s o) (no_task : w.task ≡ None) (none_there : o.task ≡ None) (d : Desk Parcel) (same : IsSameDesk w.desk d) (view_is : view d ≡ united (view w.desk) (view o.desk)) (place : IsPlace (program_of s) (view d).kept)
    (w' : Worker) (desk : w'.desk ≡ d) (task : w'.task ≡ w.task) (spare : w'.spare ≡ w.spare) (spent : w'.spent ≡ w.spent || o.spent) (draws : w'.draws.items ≡ w.draws.items) (taken : w'.taken.items ≡ (w.taken.items ++ o.draws ∷ []) ++ o.taken.items) where
  -- what the first one had in memory
  first_memory : IsInMemory (space_code s) (space_limits s) (view w.desk).kept (view w.desk).spent None
  first_memory = subst (λ (x : Option Task). IsInMemory (space_code s) (space_limits s) (view w.desk).kept (view w.desk).spent x) no_task mine.memory

  -- what the other one had in memory
  other_memory : IsInMemory (space_code s) (space_limits s) (view o.desk).kept (view o.desk).spent None
  other_memory = subst (λ (x : Option Task). IsInMemory (space_code s) (space_limits s) (view o.desk).kept (view o.desk).spent x) none_there others.memory

  -- both were told of the limit if one was
  first_room : (a b : Bool) → (a || b) ≡ false → a ≡ false
  first_room true b e = e
  first_room false b e = refl

  -- and neither was if not
  other_room : (a b : Bool) → (a || b) ≡ false → b ≡ false
  other_room true b e = let z : true ≡ false = e in absurd (cc)
  other_room false b e = e

  -- what both have in memory
  both_memory : IsInMemory (space_code s) (space_limits s) (together (view w.desk).kept (view o.desk).kept) ((view w.desk).spent || (view o.desk).spent) None
  both_memory =
      let here = subst (IsPlace (program_of s)) (ap (λ (z : View). z.kept) view_is) place in record {
        rises = place_rises (program_of s) (together (view w.desk).kept (view o.desk).kept) here;
        told = place_told (program_of s) (together (view w.desk).kept (view o.desk).kept) here;
        played = tt;
        quiet = λ e. both_quiet (program_of s) (view w.desk).kept (view o.desk).kept (place_rises (program_of s) (together (view w.desk).kept (view o.desk).kept) here) other_memory.rises first_memory.told other_memory.told
            (first_memory.quiet (first_room (view w.desk).spent (view o.desk).spent e)) (other_memory.quiet (other_room (view w.desk).spent (view o.desk).spent e));
      }

  -- the first one is at rest with what both have
  pub united_rest : IsAtRest s w'
  united_rest =
      let v : view w'.desk ≡ united (view w.desk) (view o.desk) = ap view desk ∙ view_is in record {
        desk = ap (λ (x : Desk Parcel). x.seat.table_id) desk ∙ same.0 ∙ mine.desk;
        told = spent ∙ ap₂ (λ (a b : Bool). a || b) mine.told others.told ∙ sym (ap (λ (z : View). z.spent) v);
        free = subst IsHandFree (sym v) (record { claims = mine.free.claims; flight = mine.free.flight; fresh = ap₂ (λ (a b : List ℕ). a ++ b) mine.free.fresh others.free.fresh });
        duties = λ e. let f : ((view w.desk).spent || (view o.desk).spent) ≡ false = sym (ap (λ (z : View). z.spent) v) ∙ e in
            ap (λ (z : View). z.duties) v ∙ ap₂ (λ (a b : List Duty). map reset_duty (a ++ b)) (mine.duties (first_room (view w.desk).spent (view o.desk).spent f)) (others.duties (other_room (view w.desk).spent (view o.desk).spent f));
        memory = subst (λ (z : View). IsInMemory (space_code s) (space_limits s) z.kept z.spent w'.task) (sym v)
            (subst (λ (x : Option Task). IsInMemory (space_code s) (space_limits s) (together (view w.desk).kept (view o.desk).kept) ((view w.desk).spent || (view o.desk).spent) x) (sym (task ∙ no_task)) both_memory);
        goes_on = subst MayContinue (sym (task ∙ no_task)) tt;
        stock = subst (IsStock (space_code s) (space_limits s)) (sym spare) mine.stock;
        listed = lists_same w.draws.items w'.draws.items ((w.taken.items ++ o.draws ∷ []) ++ o.taken.items) w'.taken.items (together (view w.desk).draws (view o.desk).draws) (view w'.desk).draws draws taken (ap (λ (z : View). z.draws) v)
            (lists_united w.draws.items (view w.desk).draws o.draws (view o.desk).draws w.taken.items o.taken.items mine.listed others.listed);
      }
