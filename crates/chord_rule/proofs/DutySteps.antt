-- Each kind of step keeps the duty law.
use Rattle.std.proofs.Common.{◌≡◌, ◌≢◌, ◌⊎◌, inl, inr, ⊎_elim, ℕ, ◌<◌, ◌≤◌, eqb, Bool, true, false, cond, not, ◌||◌, List, [], ◌∷◌, map, set, refl, sym, ap, ◌∙◌, subst, arith, ne_eqb, Option, Some, None}
use Rattle.std.proofs.lemmas.Bool.{eqb-true}
use mathlib.Core.Path.{Path}
use mathlib.Core.Logic.{dite}
use mathlib.Core.Option.{some, some-injective}
use native.Mathlib.Decide.{ℕ_discrete}
use lib.ListN.{get_elem?}
use Rattle.atomic_table.proofs.Lists.{set_here, set_else}
use Rattle.std.specs.List.{filter}
use Rattle.chord_word.specs.declared.cells.Cell.{Cell}
use Rattle.chord_word.specs.declared.cells.Cell.TheVariants.{Empty, Pending, Claimed, Consumed, Woken, Ready, Started}
use Rattle.chord_word.specs.declared.cells.Word.{Word}
use Rattle.chord_rule.specs.declared.view.View.{View}
use Rattle.chord_rule.specs.declared.view.Duty.{Duty}
use Rattle.chord_rule.specs.declared.view.Walk.{Walk}
use Rattle.chord_rule.specs.Moment.{Moment}
use Rattle.chord_rule.specs.Numbers.{HasNumber}
use Rattle.chord_rule.specs.Bags.{head_number, LinkOrder, IsConsumed, IsStanding, cell_of, BagLaw}
use Rattle.chord_rule.specs.Duties.{HasDuty, HasWalk, Chosen, Choice, Reaches, Carries, IsNamedByCell, IsCarried, DutyLaw, MayRest, duty_on, is_in, start_walk, has_come_to, move_walk, move_duty}
use Rattle.chord_rule.proofs.Puts.{put, put_here, put_else, put_all, at_inside}
use Rattle.chord_rule.proofs.BagSteps.{linked_order}

-- a duty without walks carries each choice with its message
pub new_carries : (o : LinkOrder) (i k : ℕ) (xs : List ℕ) → HasNumber i xs → Carries o (duty_on i k) xs
new_carries o i k xs h = record { on = refl; of = h; walks = λ w e. absurd e }

-- a number is among numbers or not
has_dec : (x : ℕ) (xs : List ℕ) → HasNumber x xs ⊎ (HasNumber x xs → ⊥)
has_dec x [] = inr (λ h. h)
has_dec x (y ∷ ys) = dite (ℕ_discrete x y) (λ e. inl (inl e)) (λ ne. ⊎_elim (λ h. inl (inr h)) (λ not_later. inr (λ h. ⊎_elim ne not_later h)) (has_dec x ys))

-- a changed duty is among the changed duties
pub has_map : (f : Duty → Duty) (d : Duty) (ds : List Duty) → HasDuty d ds → HasDuty (f d) (map f ds)
has_map f d [] h = absurd h
has_map f d (e ∷ es) (inl q) = inl (ap f q)
has_map f d (e ∷ es) (inr h) = inr (has_map f d es h)

-- a cell that stands is not consumed
standing_not_consumed : (c : Cell) → IsStanding c → ¬ IsConsumed c
standing_not_consumed Empty s = absurd s
standing_not_consumed Pending s = λ h. h
standing_not_consumed Claimed s = λ h. h
standing_not_consumed Consumed s = absurd s
standing_not_consumed (Woken q) s = absurd s
standing_not_consumed Ready s = absurd s
standing_not_consumed Started s = absurd s

-- a walk that is left without those in a bag was there before
has_start : (k : ℕ) (h : Option ℕ) (w : Walk) (ws : List Walk) → HasWalk w (filter (λ u. not (is_in k u)) ws) → HasWalk w ws
has_start k h w [] q = q
has_start k h w (u ∷ us) q = cases (is_in k u) q (has_start k h w us)
  where
    cases : (b : Bool) → HasWalk w (cond (not b) (u ∷ filter (λ u. not (is_in k u)) us) (filter (λ u. not (is_in k u)) us)) → (HasWalk w (filter (λ u. not (is_in k u)) us) → HasWalk w us) → HasWalk w (u ∷ us)
    cases true q later = inr (later q)
    cases false q later = ⊎_elim inl (λ r. inr (later r)) q

-- a walk among changed walks is the change of one that was there
has_moved : (f : Walk → Walk) (w : Walk) (ws : List Walk) → HasWalk w (map f ws) → (u : Walk) × HasWalk u ws × (w ≡ f u)
has_moved f w [] h = absurd h
has_moved f w (u ∷ us) (inl e) = (u, inl refl, e)
has_moved f w (u ∷ us) (inr h) = let r = has_moved f w us h in (r.0, inr r.1, r.2)

module _ (IsKey : ℕ → Type 0) (IsChord : List ℕ → Type 0) {P : Type 0} where
  -- a member of a choice stands, in a bag of the chord
  pub member : (m : Moment P) (o : LinkOrder) (ks xs : List ℕ) (x : ℕ) → Chosen IsChord m.cells o ks xs → HasNumber x xs → IsStanding (cell_of m.cells x) × ((k : ℕ) × (o.bag x ≡ Some k) × HasNumber k ks)
  member m o [] [] x c h = absurd h
  member m o [] (y ∷ ys) x c h = absurd c
  member m o (k ∷ ks) [] x c h = absurd c
  member m o (k ∷ ks) (y ∷ ys) x c (inl e) = subst (λ (z : ℕ). IsStanding (cell_of m.cells z) × ((l : ℕ) × (o.bag z ≡ Some l) × HasNumber l (k ∷ ks))) (sym e) (c.1, (k, c.0, inl refl))
  member m o (k ∷ ks) (y ∷ ys) x c (inr h) = let r = member m o ks ys x c.2 h in (r.0, (r.1.0, r.1.1, inr r.1.2))

  -- a bag of the chord has a member of the choice
  pub chosen_in : (m : Moment P) (o : LinkOrder) (ks xs : List ℕ) (k : ℕ) → Chosen IsChord m.cells o ks xs → HasNumber k ks → (x : ℕ) × HasNumber x xs × (o.bag x ≡ Some k)
  chosen_in m o [] xs k c h = absurd h
  chosen_in m o (l ∷ ls) [] k c h = absurd c
  chosen_in m o (l ∷ ls) (y ∷ ys) k c (inl e) = (y, inl refl, c.0 ∙ ap (λ (z : ℕ). Some z) (sym e))
  chosen_in m o (l ∷ ls) (y ∷ ys) k c (inr h) = let r = chosen_in m o ls ys k c.2 h in (r.0, inr r.1, r.2)

  -- a choice is one where no message has begun to stand
  pub chosen_before : (m m' : Moment P) (o : LinkOrder) → ((x : ℕ) → IsStanding (cell_of m'.cells x) → IsStanding (cell_of m.cells x)) → (ks xs : List ℕ) → Chosen IsChord m'.cells o ks xs → Chosen IsChord m.cells o ks xs
  chosen_before m m' o stood [] [] c = tt
  chosen_before m m' o stood [] (y ∷ ys) c = c
  chosen_before m m' o stood (k ∷ ks) [] c = c
  chosen_before m m' o stood (k ∷ ks) (y ∷ ys) c = (c.0, stood y c.1, chosen_before m m' o stood ks ys c.2)

  -- how the law is kept: a choice that is there after the step either was one before, or has someone who cares for it now
  pub duty_step : (m m' : Moment P) (o : LinkOrder)
      → ((ks xs : List ℕ) → Choice IsChord m'.cells o ks xs → Chosen IsChord m.cells o ks xs ⊎ (IsNamedByCell IsChord m'.cells o xs ⊎ IsCarried IsChord m'.views o xs))
      → ((ks xs : List ℕ) → Choice IsChord m'.cells o ks xs → IsNamedByCell IsChord m.cells o xs → IsNamedByCell IsChord m'.cells o xs ⊎ IsCarried IsChord m'.views o xs)
      → ((ks xs : List ℕ) → Choice IsChord m'.cells o ks xs → IsCarried IsChord m.views o xs → IsNamedByCell IsChord m'.cells o xs ⊎ IsCarried IsChord m'.views o xs)
      → DutyLaw IsChord m.cells m.views o → DutyLaw IsChord m'.cells m'.views o
  duty_step m m' o was named carried law ks xs c = ⊎_elim (λ b. ⊎_elim (named ks xs c) (carried ks xs c) (law ks xs record { chord = c.chord; some = c.some; chosen = b })) (λ now. now) (was ks xs c)

  -- who carried still carries, if the desk that steps has a duty for each of its own
  pub carried_on : (m : Moment P) (cells : ℕ → Word) (o : LinkOrder) (id : ℕ) (v w : View) (xs : List ℕ) → get_elem? m.views id ≡ some v
      → ((d : Duty) → HasDuty d v.duties → Carries o d xs → (e : Duty) × HasDuty e w.duties × Carries o e xs)
      → IsCarried IsChord m.views o xs → IsCarried IsChord (set m.views id w) o xs
  carried_on m cells o id v w xs at keep c = dite (ℕ_discrete c.0 id)
      (λ e. let same : c.1 ≡ v = some-injective c.1 v (sym c.3 ∙ ap (get_elem? m.views) e ∙ at) in let r = keep c.2 (subst (λ (u : View). HasDuty c.2 u.duties) same c.4) c.5 in
      (id, w, r.0, set_here m.views id w (at_inside m.views id v at), r.1, r.2))
      (λ ne. (c.0, c.1, c.2, set_else m.views id c.0 w ne ∙ c.3, c.4, c.5))

  -- a desk that has a duty carries
  pub cares : (m : Moment P) (cells : ℕ → Word) (o : LinkOrder) (id : ℕ) (v w : View) (xs : List ℕ) (d : Duty) → get_elem? m.views id ≡ some v → HasDuty d w.duties → Carries o d xs
      → IsCarried IsChord (set m.views id w) o xs
  cares m cells o id v w xs d at has c = (id, w, d, set_here m.views id w (at_inside m.views id v at), has, c)

  -- without the one message that begins to stand, a choice was one before
  chosen_but : (m m' : Moment P) (o : LinkOrder) (i : ℕ) → ((x : ℕ) → x ≢ i → IsStanding (cell_of m'.cells x) → IsStanding (cell_of m.cells x)) → (ks xs : List ℕ) → (HasNumber i xs → ⊥) → Chosen IsChord m'.cells o ks xs → Chosen IsChord m.cells o ks xs
  chosen_but m m' o i stood [] [] absent c = tt
  chosen_but m m' o i stood [] (y ∷ ys) absent c = c
  chosen_but m m' o i stood (k ∷ ks) [] absent c = c
  chosen_but m m' o i stood (k ∷ ks) (y ∷ ys) absent c = (c.0, stood y (λ e. absent (inl (sym e))) c.1, chosen_but m m' o i stood ks ys (λ h. absent (inr h)) c.2)

  -- the message i is armed, with a duty on it
  pub arm_duty : (m : Moment P) (o : LinkOrder) (id i l : ℕ) (x : Word) (v w : View) → get_elem? m.views id ≡ some v → (m.cells i).cell ≡ Empty → x.cell ≡ Pending → w.duties ≡ duty_on i l ∷ v.duties
      → DutyLaw IsChord m.cells m.views o → DutyLaw IsChord (put m.cells i x) (set m.views id w) o
  arm_duty m o id i l x v w at empty pending duties = duty_step m (record m { cells = put m.cells i x; views = set m.views id w }) o
      (λ ks xs c. ⊎_elim
      (λ h. inr (inr (cares m (put m.cells i x) o id v w xs (duty_on i l) at (subst (HasDuty (duty_on i l)) (sym duties) (inl refl)) (new_carries o i l xs h))))
      (λ absent. inl (chosen_but m (record m { cells = put m.cells i x; views = set m.views id w }) o i (λ y ne s. subst (λ (z : Word). IsStanding z.cell) (put_else m.cells i x y ne) s) ks xs absent c.chosen)) (has_dec i xs))
      (λ ks xs c n. inl (n.0, n.1, ap (λ (z : Word). z.cell) (put_else m.cells i x n.0 (λ q. let z : Empty ≡ Woken n.1 = sym empty ∙ sym (ap (λ y. (m.cells y).cell) q) ∙ n.2 in absurd (cc))) ∙ n.2, n.3))
      (λ ks xs c k. inr (carried_on m (put m.cells i x) o id v w xs at (λ d h carries. (d, subst (HasDuty d) (sym duties) (inr h), carries)) k))

  -- duties are laid down
  pub rest_duty : (m : Moment P) (o : LinkOrder) (id : ℕ) (v w : View) → get_elem? m.views id ≡ some v → ((e : Duty) → HasDuty e v.duties → HasDuty e w.duties ⊎ ((o.bag e.message ≡ Some e.bag) × MayRest IsChord e))
      → DutyLaw IsChord m.cells m.views o → DutyLaw IsChord m.cells (set m.views id w) o
  rest_duty m o id v w at kept = duty_step m (record m { views = set m.views id w }) o
      (λ ks xs c. inl c.chosen)
      (λ ks xs c n. inl n)
      (λ ks xs c k. inr (carried_on m m.cells o id v w xs at
      (λ e h carries. ⊎_elim (λ there. (e, there, carries)) (λ t. absurd (nothing e t.0 t.1 ks xs c carries)) (kept e h)) k))
    where
      nothing : (d : Duty) → o.bag d.message ≡ Some d.bag → MayRest IsChord d → (ks xs : List ℕ) → Choice IsChord m.cells o ks xs → Carries o d xs → ⊥
      nothing d bagged may ks xs c carries = ⊎_elim (λ off. let z : true ≡ false = sym off ∙ carries.on in absurd (cc))
          (λ ends. let here = member (record m { views = set m.views id w }) o ks xs d.message c.chosen carries.of in
          let same : here.1.0 ≡ d.bag = (let y = sym here.1.1 ∙ bagged in cc) in let e = ends ks c.chord (subst (λ (z : ℕ). HasNumber z ks) same here.1.2) in
          let other = chosen_in (record m { views = set m.views id w }) o ks xs e.0.bag c.chosen e.2 in
          let apart : other.0 ≢ d.message = (λ q. let z : Some e.0.bag ≡ Some d.bag = sym other.2 ∙ ap o.bag q ∙ bagged in e.3 (let y = z in cc)) in
          subst (λ (p : Option ℕ). Reaches o p other.0) e.4 (carries.walks e.0 e.1 other.0 other.1 apart other.2)) may

  -- a message stops to stand, and no other begins to
  ceased : (m : Moment P) (i : ℕ) (x : Word) (o : LinkOrder) → ¬ IsStanding x.cell → (y : ℕ) → IsStanding (put m.cells i x y).cell → (y ≢ i) × IsStanding (cell_of m.cells y)
  ceased m i x o gone y s = put_all m.cells i x (λ y c. IsStanding c.cell → (y ≢ i) × IsStanding (cell_of m.cells y)) y (λ h. absurd (gone h)) (λ ne h. (ne, h)) s

  -- the message i is consumed: the desk's duty on it goes
  pub take_duty : (m : Moment P) (o : LinkOrder) (id i : ℕ) (x : Word) (v w : View) → get_elem? m.views id ≡ some v → IsStanding (cell_of m.cells i) → x.cell ≡ Consumed
      → ((e : Duty) → HasDuty e v.duties → HasDuty e w.duties ⊎ (e.message ≡ i)) → DutyLaw IsChord m.cells m.views o → DutyLaw IsChord (put m.cells i x) (set m.views id w) o
  take_duty m o id i x v w at stands is kept = let m' : Moment P = record m { cells = put m.cells i x; views = set m.views id w } in
      let gone : ¬ IsStanding x.cell = (λ h. subst IsStanding is h) in duty_step m m' o
      (λ ks xs c. inl (chosen_before m m' o (λ y s. (ceased m i x o gone y s).1) ks xs c.chosen))
      (λ ks xs c n. inl (n.0, n.1, ap (λ (z : Word). z.cell) (put_else m.cells i x n.0 (λ q. subst IsStanding (sym (ap (λ y. (m.cells y).cell) q) ∙ n.2) stands)) ∙ n.2, n.3))
      (λ ks xs c k. inr (carried_on m (put m.cells i x) o id v w xs at
      (λ e h carries. ⊎_elim (λ there. (e, there, carries))
      (λ same. absurd ((ceased m i x o gone e.message (member m' o ks xs e.message c.chosen carries.of).0).0 same)) (kept e h)) k))

  -- the caller q is woken by x: the desk's duties on both go, and the cell names x
  pub wake_duty : (m : Moment P) (o : LinkOrder) (id q x : ℕ) (c : Word) (v w : View) → get_elem? m.views id ≡ some v → (cell_of m.cells q) ≡ Pending → c.cell ≡ Woken x
      → ((e : Duty) → HasDuty e v.duties → HasDuty e w.duties ⊎ ((e.message ≡ q) ⊎ (e.message ≡ x))) → DutyLaw IsChord m.cells m.views o → DutyLaw IsChord (put m.cells q c) (set m.views id w) o
  wake_duty m o id q x c v w at stands is kept = let m' : Moment P = record m { cells = put m.cells q c; views = set m.views id w } in
      let gone : ¬ IsStanding c.cell = (λ h. subst IsStanding is h) in let woken : cell_of m'.cells q ≡ Woken x = ap (λ (z : Word). z.cell) (put_here m.cells q c) ∙ is in duty_step m m' o
      (λ ks xs k. inl (chosen_before m m' o (λ y s. (ceased m q c o gone y s).1) ks xs k.chosen))
      (λ ks xs k n. inl (n.0, n.1, ap (λ (z : Word). z.cell) (put_else m.cells q c n.0 (λ e. let z : Pending ≡ Woken n.1 = sym stands ∙ sym (ap (λ y. (m.cells y).cell) e) ∙ n.2 in absurd (cc))) ∙ n.2, n.3))
      (λ ks xs k d. carried ks xs k d (dite (ℕ_discrete d.0 id) (λ e. inl (subst (λ (u : View). HasDuty d.2 u.duties) (some-injective d.1 v (sym d.3 ∙ ap (get_elem? m.views) e ∙ at)) d.4)) inr))
    where
      carried : (ks xs : List ℕ) → Choice IsChord (put m.cells q c) o ks xs → (d : IsCarried IsChord m.views o xs) → HasDuty d.2 v.duties ⊎ (d.0 ≢ id) → IsNamedByCell IsChord (put m.cells q c) o xs ⊎ IsCarried IsChord (set m.views id w) o xs
      carried ks xs k d (inl h) = ⊎_elim (λ there. inr (cares m (put m.cells q c) o id v w xs d.2 at there d.5))
          (λ t. ⊎_elim
          (λ same. absurd ((ceased m q c o (λ h. subst IsStanding is h) d.2.message (member (record m { cells = put m.cells q c; views = set m.views id w }) o ks xs d.2.message k.chosen d.5.of).0).0 same))
          (λ same. inl (q, x, ap (λ (z : Word). z.cell) (put_here m.cells q c) ∙ is, subst (λ (z : ℕ). HasNumber z xs) same d.5.of)) t) (kept d.2 h)
      carried ks xs k d (inr ne) = inr (d.0, d.1, d.2, set_else m.views id d.0 w ne ∙ d.3, d.4, d.5)

  -- the caller q, whose cell named x, is pending again: the desk has duties on both
  pub rearm_duty : (m : Moment P) (o : LinkOrder) (id q x kq kx : ℕ) (c : Word) (v w : View) → get_elem? m.views id ≡ some v → cell_of m.cells q ≡ Woken x → c.cell ≡ Pending → w.duties ≡ duty_on q kq ∷ duty_on x kx ∷ v.duties
      → DutyLaw IsChord m.cells m.views o → DutyLaw IsChord (put m.cells q c) (set m.views id w) o
  rearm_duty m o id q x kq kx c v w at woken pending duties = let m' : Moment P = record m { cells = put m.cells q c; views = set m.views id w } in duty_step m m' o
      (λ ks xs k. ⊎_elim
      (λ h. inr (inr (cares m (put m.cells q c) o id v w xs (duty_on q kq) at (subst (HasDuty (duty_on q kq)) (sym duties) (inl refl)) (new_carries o q kq xs h))))
      (λ absent. inl (chosen_but m m' o q (λ y ne s. subst (λ (z : Word). IsStanding z.cell) (put_else m.cells q c y ne) s) ks xs absent k.chosen)) (has_dec q xs))
      (λ ks xs k n. dite (ℕ_discrete n.0 q)
      (λ e. let same : x ≡ n.1 = (let z : Woken x ≡ Woken n.1 = sym woken ∙ sym (ap (λ y. (m.cells y).cell) e) ∙ n.2 in cc) in
      inr (cares m (put m.cells q c) o id v w xs (duty_on x kx) at (subst (HasDuty (duty_on x kx)) (sym duties) (inr (inl refl))) (new_carries o x kx xs (subst (λ (z : ℕ). HasNumber z xs) (sym same) n.3))))
      (λ ne. inl (n.0, n.1, ap (λ (z : Word). z.cell) (put_else m.cells q c n.0 ne) ∙ n.2, n.3)))
      (λ ks xs k d. inr (carried_on m (put m.cells q c) o id v w xs at (λ e h carries. (e, subst (HasDuty e) (sym duties) (inr (inr h)), carries)) d))

  -- ---- looks: the desk's duties are changed one by one, and each that carried a choice still does
  pub look_duty : (m : Moment P) (o : LinkOrder) (id : ℕ) (f : Duty → Duty) (v w : View) → get_elem? m.views id ≡ some v → w.duties ≡ map f v.duties
      → ((ks xs : List ℕ) (d : Duty) → Choice IsChord m.cells o ks xs → Carries o d xs → Carries o (f d) xs) → DutyLaw IsChord m.cells m.views o → DutyLaw IsChord m.cells (set m.views id w) o
  look_duty m o id f v w at duties still = duty_step m (record m { views = set m.views id w }) o
      (λ ks xs c. inl c.chosen)
      (λ ks xs c n. inl n)
      (λ ks xs c k. inr (carried_on m m.cells o id v w xs at (λ d h carries. (f d, subst (HasDuty (f d)) (sym duties) (has_map f d v.duties h), still ks xs d record { chord = c.chord; some = c.some; chosen = c.chosen } carries)) k))

  -- a look at the head of the bag k
  pub look_head_carries : (m : Moment P) (o : LinkOrder) → BagLaw IsKey m.cells m.heads o → (k : ℕ) (ks xs : List ℕ) (d : Duty) → Choice IsChord m.cells o ks xs → Carries o d xs → Carries o (start_walk k (m.heads (head_number k)) d) xs
  look_head_carries m o law k ks xs d c carries = record {
    on = carries.on;
    of = carries.of;
    walks = λ w h x has ne bag. ⊎_elim
        (λ q. let bag' : o.bag x ≡ Some k = bag ∙ ap (λ (u : Walk). Some u.bag) q in let stands = (member m o ks xs x c.chosen has).0 in
        let f = (law.heads_lead k (law.keyed x k bag')).passes x bag' (standing_not_consumed (cell_of m.cells x) stands) (law.ranked x k bag') in
        subst (λ (p : Option ℕ). Reaches o p x) (sym (ap (λ (u : Walk). u.place) q ∙ f.1)) (bag' ∙ sym ((law.heads_lead k (law.keyed x k bag')).inside f.0 f.1).0, f.2))
        (λ q. carries.walks w (has_start k (m.heads (head_number k)) w d.walks q) x has ne bag) h;
  }

  -- a look at the cell y, which was read with the next z, and does not stand
  pub look_cell_carries : (m : Moment P) (o : LinkOrder) → BagLaw IsKey m.cells m.heads o → (y : ℕ) → ¬ IsStanding (cell_of m.cells y) → (l : ℕ) → o.bag y ≡ Some l → (ks xs : List ℕ) (d : Duty) → Choice IsChord m.cells o ks xs → Carries o d xs → Carries o (move_duty y (o.next y) d) xs
  look_cell_carries m o law y down l bagged ks xs d c carries = record {
    on = off_stays;
    of = carries.of;
    walks = λ w h x has ne bag. let u = has_moved (move_walk y (o.next y)) w d.walks h in
        let old = carries.walks u.0 u.1 x has ne (bag ∙ ap (λ (z : Walk). Some z.bag) u.2) in
        subst (λ (z : Walk). Reaches o z.place x) (sym u.2) (moves u.0.place x has old);
  }
    where
      not_y : (x : ℕ) → HasNumber x xs → x ≢ y
      not_y x h q = down (subst (λ (z : ℕ). IsStanding (cell_of m.cells z)) q (member m o ks xs x c.chosen h).0)

      down_from : (x : ℕ) → HasNumber x xs → (o.bag x ≡ o.bag y) × (o.rank x ≤ o.rank y) → Reaches o (o.next y) x
      down_from x has r = let bag' : o.bag x ≡ Some l = r.0 ∙ bagged in let stands = (member m o ks xs x c.chosen has).0 in
          let low : o.rank x < o.rank y = dite (ℕ_discrete (o.rank x) (o.rank y)) (λ e. absurd (not_y x has (law.apart x y l l bag' bagged e))) (λ n. let le = r.1 in omega arith) in
          let f = (law.nexts_lead y l bagged).passes x bag' (standing_not_consumed (cell_of m.cells x) stands) low in
          subst (λ (p : Option ℕ). Reaches o p x) (sym f.1) (bag' ∙ sym ((law.nexts_lead y l bagged).inside f.0 f.1).0, f.2)

      moves : (p : Option ℕ) (x : ℕ) → HasNumber x xs → Reaches o p x → Reaches o (cond (has_come_to y p) (o.next y) p) x
      moves None x has r = absurd r
      moves (Some z) x has r = cases (eqb z y) refl
        where
          cases : (b : Bool) → eqb z y ≡ b → Reaches o (cond b (o.next y) (Some z)) x
          cases true e = let same = eqb-true z y e in down_from x has (subst (λ (t : ℕ). (o.bag x ≡ o.bag t) × (o.rank x ≤ o.rank t)) same r)
          cases false e = r

      off_stays : (eqb d.message y || d.off) ≡ false
      off_stays = subst (λ (b : Bool). (b || d.off) ≡ false) (sym (ne_eqb d.message y (not_y d.message carries.of))) carries.on

  -- no message begins to stand, each woken cell stays, and the desk keeps its duties
  pub stay_duty : (m : Moment P) (cells : ℕ → Word) (o : LinkOrder) (id : ℕ) (v w : View) → get_elem? m.views id ≡ some v → ((x : ℕ) → IsStanding (cell_of cells x) → IsStanding (cell_of m.cells x))
      → ((q x : ℕ) → cell_of m.cells q ≡ Woken x → cell_of cells q ≡ Woken x) → ((e : Duty) → HasDuty e v.duties → HasDuty e w.duties)
      → DutyLaw IsChord m.cells m.views o → DutyLaw IsChord cells (set m.views id w) o
  stay_duty m cells o id v w at stood woken kept = duty_step m (record m { cells = cells; views = set m.views id w }) o
      (λ ks xs c. inl (chosen_before m (record m { cells = cells; views = set m.views id w }) o stood ks xs c.chosen))
      (λ ks xs c k. inl (k.0, k.1, woken k.0 k.1 k.2, k.3))
      (λ ks xs c k. inr (carried_on m cells o id v w xs at (λ e h carries. (e, kept e h, carries)) k))

  -- a message is linked: what stands keeps its bag and its rank
  pub link_duty : (m : Moment P) (o : LinkOrder) (i k : ℕ) (above : Option ℕ) (id : ℕ) (v w : View) → get_elem? m.views id ≡ some v → o.bag i ≡ None → (m.cells i).cell ≡ Empty
      → ((e : Duty) → HasDuty e v.duties → HasDuty e w.duties) → BagLaw IsKey m.cells m.heads o → DutyLaw IsChord m.cells m.views o → DutyLaw IsChord m.cells (set m.views id w) (linked_order o i k above)
  link_duty m o i k above id v w at fresh empty kept bags law ks xs c = ⊎_elim inl
      (λ d. let e = carried_on m m.cells o id v w xs at (λ e h carries. (e, kept e h, carries)) d in inr (e.0, e.1, e.2, e.3, e.4, up e.2 e.5)) (law ks xs record { chord = c.chord; some = c.some; chosen = before })
    where
      other : (x : ℕ) → IsStanding (cell_of m.cells x) → x ≢ i
      other x s q = subst IsStanding (ap (λ (z : ℕ). (m.cells z).cell) q ∙ empty) s

      back : (ks xs : List ℕ) → Chosen IsChord m.cells (linked_order o i k above) ks xs → Chosen IsChord m.cells o ks xs
      back [] [] c = tt
      back [] (y ∷ ys) c = c
      back (l ∷ ls) [] c = c
      back (l ∷ ls) (y ∷ ys) c = (sym (put_else o.bag i (Some k) y (other y c.1)) ∙ c.0, c.1, back ls ys c.2)

      before : Chosen IsChord m.cells o ks xs
      before = back ks xs c.chosen

      up : (d : Duty) → Carries o d xs → Carries (linked_order o i k above) d xs
      up d carries = record {
        on = carries.on;
        of = carries.of;
        walks = λ u h x has ne bag. let mem = member m o ks xs x before has in let far = other x mem.0 in
            reaches u.place x far mem.1.1 (carries.walks u h x has ne (sym (put_else o.bag i (Some k) x far) ∙ bag));
      }
        where
          reaches : (p : Option ℕ) (x : ℕ) → x ≢ i → {l : ℕ} → o.bag x ≡ Some l → Reaches o p x → Reaches (linked_order o i k above) p x
          reaches None x far is r = r
          reaches (Some y) x far is r = let near : y ≢ i = (λ q. let z : Path (Option ℕ) None (Some _) = sym fresh ∙ sym (ap o.bag q) ∙ sym r.0 ∙ is in cc) in
              (put_else o.bag i (Some k) x far ∙ r.0 ∙ sym (put_else o.bag i (Some k) y near), (let a = put_else o.rank i o.clock x far in let b = put_else o.rank i o.clock y near in let le = r.1 in omega arith))
