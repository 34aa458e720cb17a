-- The walks of duties follow a way.
use Rattle.std.proofs.Common.{◌≡◌, inl, inr, ℕ, Bool, true, false, cond, eqb, List, [], ◌∷◌, map, ne_eqb, not, ◌≢◌, refl, sym, ap, ◌∙◌, subst, Option, Some, None, if◌then◌else◌}
use mathlib.Core.Path.{Path}
use Rattle.std.specs.List.{filter}
use Rattle.std.proofs.lemmas.Bool.{eq-eqb}
use Rattle.chord_word.specs.declared.cells.Word.{Word}
use Rattle.chord_rule.specs.declared.view.Duty.{Duty}
use Rattle.chord_rule.specs.declared.view.Walk.{Walk}
use Rattle.chord_rule.specs.Duties.{HasWalk, is_in, move_walk, move_duty}
use Rattle.chord_rule.specs.Kinds.{is_down}
use Rattle.chord_bag.specs.Reads.{AllAt, KeepsEnds, after_head, after_cell, messages_and_bags}

-- a look at the head of the bag starts the walks of all duties there
pub all_start : (k : ℕ) (head : Option ℕ) (ds : List Duty) → AllAt k head (after_head k head ds)
all_start k head [] d h = absurd h
all_start k head (e ∷ es) d (inl q) = subst (λ (z : Duty). HasWalk (record { bag = k; place = head }) z.walks) (sym q) (inl refl)
all_start k head (e ∷ es) d (inr h) = all_start k head es d h

-- a walk that stands at i goes on to the next that was read
moved : (k i : ℕ) (next : Option ℕ) (ws : List Walk) → HasWalk (record { bag = k; place = Some i }) ws → HasWalk (record { bag = k; place = next }) (map (move_walk i next) ws)
moved k i next [] h = absurd h
moved k i next (w ∷ ws) (inl q) = inl (subst (λ (z : Walk). Path Walk (record { bag = k; place = next }) (move_walk i next z)) q (rw (eq-eqb i i refl) refl))
moved k i next (w ∷ ws) (inr h) = inr (moved k i next ws h)

-- so do those of all duties
pub all_move : (k i : ℕ) (next : Option ℕ) (ds : List Duty) → AllAt k (Some i) ds → AllAt k next (map (move_duty i next) ds)
all_move k i next [] a d h = absurd h
all_move k i next (e ∷ es) a d (inl q) = subst (λ (z : Duty). HasWalk (record { bag = k; place = next }) z.walks) (sym q) (moved k i next e.walks (a e (inl refl)))
all_move k i next (e ∷ es) a d (inr h) = all_move k i next es (λ f g. a f (inr g)) d h

-- a walk of another bag that is at its end is not dropped
kept_walk : (k k' : ℕ) (ws : List Walk) → k ≢ k' → HasWalk (record { bag = k; place = None }) ws → HasWalk (record { bag = k; place = None }) (filter (λ w. not (is_in k' w)) ws)
kept_walk k k' [] ne h = absurd h
kept_walk k k' (w ∷ ws) ne (inl q) = let o : eqb w.bag k' ≡ false = subst (λ (z : Walk). eqb z.bag k' ≡ false) q (ne_eqb k k' ne) in rw o (inl q)
kept_walk k k' (w ∷ ws) ne (inr h) = cases (is_in k' w) (kept_walk k k' ws ne h)
  where
    cases : (b : Bool) → HasWalk (record { bag = k; place = None }) (filter (λ u. not (is_in k' u)) ws) → HasWalk (record { bag = k; place = None }) (cond (not b) (w ∷ filter (λ u. not (is_in k' u)) ws) (filter (λ u. not (is_in k' u)) ws))
    cases true r = r
    cases false r = inr r

-- a look at a head leaves the ends of other bags
pub head_keeps : (k' : ℕ) (head : Option ℕ) (ds : List Duty) → KeepsEnds k' ds (after_head k' head ds)
head_keeps k' head [] k ne a d h = absurd h
head_keeps k' head (e ∷ es) k ne a d (inl q) = subst (λ (z : Duty). HasWalk (record { bag = k; place = None }) z.walks) (sym q) (inr (kept_walk k k' e.walks ne (a e (inl refl))))
head_keeps k' head (e ∷ es) k ne a d (inr h) = head_keeps k' head es k ne (λ f g. a f (inr g)) d h

-- a walk at its end stays there
still_there : (k i : ℕ) (next : Option ℕ) (ws : List Walk) → HasWalk (record { bag = k; place = None }) ws → HasWalk (record { bag = k; place = None }) (map (move_walk i next) ws)
still_there k i next [] h = absurd h
still_there k i next (w ∷ ws) (inl q) = inl (subst (λ (z : Walk). Path Walk (record { bag = k; place = None }) (move_walk i next z)) q refl)
still_there k i next (w ∷ ws) (inr h) = inr (still_there k i next ws h)

-- moved walks leave the ends of bags
moved_keeps : (k i : ℕ) (next : Option ℕ) (ds : List Duty) → AllAt k None ds → AllAt k None (map (move_duty i next) ds)
moved_keeps k i next [] a d h = absurd h
moved_keeps k i next (e ∷ es) a d (inl q) = subst (λ (z : Duty). HasWalk (record { bag = k; place = None }) z.walks) (sym q) (still_there k i next e.walks (a e (inl refl)))
moved_keeps k i next (e ∷ es) a d (inr h) = moved_keeps k i next es (λ f g. a f (inr g)) d h

-- a look at a cell leaves the ends of bags
pub cell_keeps : (bag i : ℕ) (word : Word) (ds : List Duty) → KeepsEnds bag ds (after_cell i word ds)
cell_keeps bag i word ds k ne a = cases (is_down word.cell)
  where
    cases : (b : Bool) → AllAt k None (if b then map (move_duty i word.next) ds else ds)
    cases true = moved_keeps k i word.next ds a
    cases false = a

-- ends that are left twice are left
pub keeps_on : (bag bag' : ℕ) (ds es fs : List Duty) → bag' ≡ bag → KeepsEnds bag ds es → KeepsEnds bag' es fs → KeepsEnds bag ds fs
keeps_on bag bag' ds es fs e a b k ne none = b k (λ q. ne (q ∙ e)) (a k ne none)

-- a look at a head leaves the messages and bags of duties
pub head_keeps_messages : (k : ℕ) (head : Option ℕ) (ds : List Duty) → messages_and_bags (after_head k head ds) ≡ messages_and_bags ds
head_keeps_messages k head [] = refl
head_keeps_messages k head (d ∷ ds) = ap (λ zs. (d.message, d.bag) ∷ zs) (head_keeps_messages k head ds)

-- moved walks leave the messages and bags of duties
pub moves_keep_messages : (i : ℕ) (next : Option ℕ) (ds : List Duty) → messages_and_bags (map (move_duty i next) ds) ≡ messages_and_bags ds
moves_keep_messages i next [] = refl
moves_keep_messages i next (d ∷ ds) = ap (λ zs. (d.message, d.bag) ∷ zs) (moves_keep_messages i next ds)

-- a look at a cell leaves the messages and bags of duties
pub cell_keeps_messages : (i : ℕ) (word : Word) (ds : List Duty) → messages_and_bags (after_cell i word ds) ≡ messages_and_bags ds
cell_keeps_messages i word ds = cases (is_down word.cell)
  where
    cases : (b : Bool) → messages_and_bags (if b then map (move_duty i word.next) ds else ds) ≡ messages_and_bags ds
    cases true = moves_keep_messages i word.next ds
    cases false = refl
