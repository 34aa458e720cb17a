-- Each step on the roll keeps its rule.
use Rattle.std.proofs.Common.{◌≡◌, ◌≢◌, ℕ, zero, suc, ◌+◌, ◌-◌, ◌%◌, ◌^◌, ◌<◌, Bool, true, false, List, [], ◌∷◌, ◌++◌, length, get_or, set, sym, refl, ap, ◌∙◌, subst, arith, length-set, get_or-set_same, get_or-set_other, length-append, ⊎_elim, inl, inr}
use mathlib.Core.Logic.{dite}
use mathlib.Core.Option.{none, some, some-injective, some-ne-none}
use native.Mathlib.Decide.{ℕ_discrete}
use lib.ListN.{get_elem?}
use Rattle.atomic_table.specs.Table.{State, Me, step, keeps, stepped, Allows, Splits}
use Rattle.atomic_table.proofs.Lists.{at_set, at_snoc, set_else, set_here, at_longer}
use Rattle.chord_roll.specs.declared.turnout.Turnout.{Turnout}
use Rattle.chord_roll.specs.Roll.{counted_as, at_work, IsRoll, new_card, hired_one, OneTells, counting, counted_off, having_read, asking, stopping, telling, count_begins, count_ends, reads_count, tells_all, reads_stop}
use Rattle.chord_roll.proofs.Counting.{at_work_bound, at_work_set, at_work_snoc, at_work_at}

-- the roll at a moment
abbrev Moment : Type 0
Moment = State (Unit {0}) Turnout

-- a card, and no slots
abbrev Holder : Type 0
Holder = Me (Unit {0}) Turnout

-- what the rule says of the first card
abbrev First : List Turnout → Type 0
First l = (t : Turnout) → get_elem? l 0 ≡ some t → (length l ≡ 1 + t.hired) × (t.hired < 65536)

-- there are at most 65,536 cards
few : (l : List Turnout) → 0 < length l → First l → length l < 65537
few [] h first = absurd (omega arith)
few (x ∷ xs) h first = let r = first x refl in omega arith

-- a card that says the same of those made from it may take another's place
first_set : (l : List Turnout) (i : ℕ) (v w : Turnout) → get_elem? l i ≡ some v → w.hired ≡ v.hired → First l → First (set l i w)
first_set l i v w at same first t e = ⊎_elim
    (λ here. let is : w.hired ≡ t.hired = ap (λ (x : Turnout). x.hired) here.1 in let r = first v (subst (λ (k : ℕ). get_elem? l k ≡ some v) (sym here.0) at) in let long = length-set l i w in (omega arith, omega arith))
    (λ else. let r = first t else.1 in let long = length-set l i w in (omega arith, omega arith))
    (at_set l i 0 w t e)

-- what the rule says of those that stop
abbrev Told : ℕ → List Turnout → Type 0
Told n l = (id : ℕ) (t : Turnout) → get_elem? l id ≡ some t → t.stops ≡ true → n ≡ 1

-- a card that stops no more than it did may take another's place
told_set : (n : ℕ) (l : List Turnout) (i : ℕ) (v w : Turnout) → get_elem? l i ≡ some v → (w.stops ≡ true → v.stops ≡ true) → Told n l → Told n (set l i w)
told_set n l i v w at less told id t e stopped = ⊎_elim
    (λ here. told i v at (less (ap (λ (x : Turnout). x.stops) here.1 ∙ stopped)))
    (λ else. told id t else.1 stopped)
    (at_set l i id w t e)

-- a place that there is lies within the list
within : (l : List Turnout) (i : ℕ) (v : Turnout) → get_elem? l i ≡ some v → i < length l
within [] i v e = absurd (some-ne-none v (sym e))
within (x ∷ xs) zero v e = omega arith
within (x ∷ xs) (suc i) v e = let r = within xs i v e in omega arith

-- and one that tells where it did
since_set : (l : List Turnout) (i : ℕ) (v w : Turnout) → get_elem? l i ≡ some v → (v.tells ≡ true → w.tells ≡ true) → OneTells l → OneTells (set l i w)
since_set l i v w at more one = dite (ℕ_discrete one.0 i)
    (λ here. (i, w, set_here l i w (within l i v at), more (ap (λ (t : Turnout). t.tells) (some-injective v one.1 (sym at ∙ subst (λ (k : ℕ). get_elem? l k ≡ some one.1) here one.2)) ∙ one.3)))
    (λ else. (one.0, one.1, set_else l i one.0 w else ∙ one.2, one.3))

-- after a step on the first word, the rule holds of what it then says
placed : (s : Moment) → IsRoll s → (n id : ℕ) (me : Holder) (w : Turnout) → get_elem? s.views id ≡ some me.0 → w.hired ≡ me.0.hired → w.stops ≡ me.0.stops → w.tells ≡ me.0.tells → at_work (set s.views id w) ≡ n → IsRoll (stepped s 0 n id me.1 w keeps)
placed s r n id me w at same stopped tell is = let wide = r.words in let long = length-set s.views id w in let any = r.any in let still = get_or-set_other s.words 0 1 n 0 (λ e. omega arith) in record {
  words = length-set s.words 0 n ∙ wide;
  count = get_or-set_same s.words 0 n 0 (omega arith) ∙ sym is;
  told = λ k t e stop. still ∙ told_set (get_or s.words 1 0) s.views id me.0 w at (λ e. sym stopped ∙ e) r.told k t e stop;
  since = ⊎_elim (λ nobody. inl (still ∙ nobody)) (λ one. inr (still ∙ one.0, since_set s.views id me.0 w at (λ e. tell ∙ e) one.1)) r.since;
  any = omega arith;
  first = first_set s.views id me.0 w at same r.first;
}

-- a worker begins to count
pub begins_keeps : (slots id : ℕ) (me : Holder) → me.0.counts ≡ false → Allows IsRoll slots id me 0 (λ n. (n + 1) % 2 ^ 64) (count_begins (step slots 0 1 0 none) me)
begins_keeps slots id me out s r _ at _ = let w = counting me.0 in let x : ℕ = get_or s.words 0 0 in let sum = at_work_set s.views id me.0 w at in let none_yet : counted_as me.0.counts ≡ 0 = ap counted_as out in
    let most = few s.views r.any r.first in let bound = at_work_bound s.views in let count = r.count in let more : at_work (set s.views id w) ≡ (x + 1) % 18446744073709551616 = omega arith in
    (w, keeps, tt, placed s r ((x + 1) % 2 ^ 64) id me w at refl refl refl more, refl)

-- it counts no more
pub ends_keeps : (slots id : ℕ) (me : Holder) → me.0.counts ≡ true → Allows IsRoll slots id me 0 (λ n. (n + (2 ^ 64 - 1)) % 2 ^ 64) (count_ends (step slots 0 1 0 none) me)
ends_keeps slots id me inside s r _ at small = let w = counted_off me.0 in let x : ℕ = get_or s.words 0 0 in let sum = at_work_set s.views id me.0 w at in let one : counted_as me.0.counts ≡ 1 = ap counted_as inside in
    let count = r.count in let fits : x < 18446744073709551616 = small in let less : at_work (set s.views id w) ≡ (x + 18446744073709551615) % 18446744073709551616 = omega arith in
    (w, keeps, tt, placed s r ((x + (2 ^ 64 - 1)) % 2 ^ 64) id me w at refl refl refl less, refl)

-- it reads how many count
pub reads_keeps : (slots id : ℕ) (me : Holder) → Allows IsRoll slots id me 0 (λ n. n) (reads_count (step slots 0 0 0 none) me)
reads_keeps slots id me s r _ at _ = let x : ℕ = get_or s.words 0 0 in let w = having_read x me.0 in let sum = at_work_set s.views id me.0 w at in let count = r.count in let own = at_work_at s.views id me.0 at in
    (w, keeps, tt, placed s r x id me w at refl refl refl (omega arith), (refl, (λ inside. let one : counted_as me.0.counts ≡ 1 = ap counted_as inside in omega arith), refl))

-- after a step on the second word that leaves 1 there, the rule holds where one has told all
all_stop : (s : Moment) → IsRoll s → (id : ℕ) (me : Holder) (w : Turnout) → get_elem? s.views id ≡ some me.0 → w.hired ≡ me.0.hired → w.counts ≡ me.0.counts → OneTells (set s.views id w) → IsRoll (stepped s 1 1 id me.1 w keeps)
all_stop s r id me w at same counted one = let wide = r.words in let long = length-set s.views id w in let any = r.any in let sum = at_work_set s.views id me.0 w at in let count = r.count in
    let still : get_or (set s.words 1 1) 0 0 ≡ get_or s.words 0 0 = get_or-set_other s.words 1 0 1 0 (λ e. omega arith) in let weighs : counted_as w.counts ≡ counted_as me.0.counts = ap counted_as counted in record {
      words = length-set s.words 1 1 ∙ wide;
      count = omega arith;
      told = λ k t e stop. get_or-set_same s.words 1 1 0 (omega arith);
      since = inr (get_or-set_same s.words 1 1 0 (omega arith), one);
      any = omega arith;
      first = first_set s.views id me.0 w at same r.first;
    }

-- it tells all to stop
pub stops_keeps : (slots id : ℕ) (me : Holder) → Allows IsRoll slots id me 1 (λ _. 1) (λ _. tells_all (step slots 1 1 0 none) me 1)
stops_keeps slots id me s r _ at _ = let w = telling me.0 in (w, keeps, tt, all_stop s r id me w at refl refl (id, w, set_here s.views id w (within s.views id me.0 at), refl), refl)

-- after a step on the second word that leaves there what it said, the rule holds of a card that tells and stops as before
none_stop : (s : Moment) → IsRoll s → (id : ℕ) (me : Holder) (w : Turnout) → get_elem? s.views id ≡ some me.0 → w.hired ≡ me.0.hired → w.counts ≡ me.0.counts → w.stops ≡ me.0.stops → w.tells ≡ me.0.tells → IsRoll (stepped s 1 (get_or s.words 1 0) id me.1 w keeps)
none_stop s r id me w at same counted stopped tell = let x : ℕ = get_or s.words 1 0 in let wide = r.words in let long = length-set s.views id w in let any = r.any in let sum = at_work_set s.views id me.0 w at in let count = r.count in
    let still : get_or (set s.words 1 x) 0 0 ≡ get_or s.words 0 0 = get_or-set_other s.words 1 0 x 0 (λ e. omega arith) in let weighs : counted_as w.counts ≡ counted_as me.0.counts = ap counted_as counted in
    let here : get_or (set s.words 1 x) 1 0 ≡ x = get_or-set_same s.words 1 x 0 (omega arith) in record {
      words = length-set s.words 1 x ∙ wide;
      count = omega arith;
      told = λ k t e stop. here ∙ told_set x s.views id me.0 w at (λ e. sym stopped ∙ e) r.told k t e stop;
      since = ⊎_elim (λ nobody. inl (here ∙ nobody)) (λ one. inr (here ∙ one.0, since_set s.views id me.0 w at (λ e. tell ∙ e) one.1)) r.since;
      any = omega arith;
      first = first_set s.views id me.0 w at same r.first;
    }

-- where the second word is not 0, one has told all, and it is 1
one_told : (s : Moment) → IsRoll s → get_or s.words 1 0 ≢ 0 → (get_or s.words 1 0 ≡ 1) × OneTells s.views
one_told s r more = ⊎_elim (λ nobody. absurd (more nobody)) (λ one. one) r.since

-- a card of a roll that says nobody stops does not
stops_not : (s : Moment) → IsRoll s → (id : ℕ) (t : Turnout) → get_elem? s.views id ≡ some t → get_or s.words 1 0 ≡ 0 → t.stops ≡ false
stops_not s r id t at nobody = by_cases t.stops refl
  where
    by_cases : (b : Bool) → t.stops ≡ b → b ≡ false
    by_cases true e = absurd (let one = r.told id t at e in omega arith)
    by_cases false e = refl

-- it reads whether all are to stop
pub reads_stop_keeps : (slots id : ℕ) (me : Holder) → Allows IsRoll slots id me 1 (λ n. n) (reads_stop (step slots 1 0 0 none) me)
reads_stop_keeps slots id me s r _ at _ = let x : ℕ = get_or s.words 1 0 in dite (ℕ_discrete x 0)
    (λ nobody. let w = asking me.0 in (w, keeps, tt, none_stop s r id me w at refl refl refl refl, ((λ some. absurd (some nobody)), λ _. (refl, stops_not s r id me.0 at nobody))))
    (λ some. let w = stopping me.0 in let one = one_told s r some in (w, keeps, tt, subst (λ (n : ℕ). IsRoll (stepped s 1 n id me.1 w keeps)) (sym one.0) (all_stop s r id me w at refl refl (since_set s.views id me.0 w at (λ e. e) one.1)), ((λ _. refl), λ nobody. absurd (some nobody))))

-- the first card makes one more
pub hires_keeps : (t : Turnout) → t.hired < 65535 → Splits IsRoll 0 t (hired_one t) new_card
hires_keeps t room s r at = let h = hired_one t in let one : List Turnout = new_card ∷ [] in let l : List Turnout = set s.views 0 h in let long : length l ≡ length s.views = length-set s.views 0 h in
    let longer : length (l ++ one) ≡ length l + 1 = length-append l one in let sum = at_work_set s.views 0 t h at in let all = at_work_snoc l new_card in let count = r.count in let any = r.any in let was = r.first t at in record {
      words = r.words;
      count = omega arith;
      told = λ k u e stop. ⊎_elim (λ there. told_set (get_or s.words 1 0) s.views 0 t h at (λ e. e) r.told k u there stop) (λ new. let z : false ≡ true = ap (λ (x : Turnout). x.stops) new ∙ stop in absurd (cc)) (at_snoc l new_card u k e);
      since = ⊎_elim (λ nobody. inl nobody) (λ tells. let there = since_set s.views 0 t h at (λ e. e) tells.1 in inr (tells.0, (there.0, there.1, at_longer l one there.0 there.1 there.2, there.3))) r.since;
      any = omega arith;
      first = λ u e. let is : h.hired ≡ u.hired = ap (λ (x : Turnout). x.hired) (some-injective h u (sym (at_longer l one 0 h (set_here s.views 0 h any)) ∙ e)) in (omega arith, omega arith);
    }
