-- Members are consumed one after another.
use Rattle.std.proofs.Common.{suc, ◌≡◌, ◌≢◌, inl, inr, ℕ, ◌+◌, ◌<◌, ◌≤◌, Bool, true, false, not, ◌==◌, List, [], ◌∷◌, ◌++◌, append_assoc, map, length, slice_index_or, refl, sym, ap, ◌∙◌, subst, arith, Option, Some, None, if◌then◌else◌}
use Rattle.std.proofs.lemmas.Bool.{eq-eqb}
use Rattle.chord_base.specs.Meaning.{Program}
use Rattle.chord_base.specs.Messages.{has}
use Rattle.chord_base.specs.Story.{AllBelow, together}
use Rattle.chord_base.specs.declared.event.Entry.{Entry}
use Rattle.chord_base.specs.declared.event.What.TheVariants.{Fired}
use Rattle.chord_base.specs.declared.value.Object.{Object}
use Rattle.chord_base.specs.declared.value.Value as value
use Rattle.chord_base.proofs.Pending.{has_more}
use Rattle.chord_word.specs.declared.cells.Cell.TheVariants as a_cell
use Rattle.chord_word.specs.declared.cells.Word.{Word}
use Rattle.chord_rule.specs.declared.view.Claim.{Claim}
use Rattle.chord_rule.specs.declared.view.Look.{Look}
use Rattle.chord_rule.specs.declared.view.Looked.{Looked}
use Rattle.chord_rule.specs.declared.view.View.{View}
use Rattle.chord_rule.specs.Claims.{HasThe, AreClaimed, fired_with}
use Rattle.chord_rule.specs.Coming.{IsPlace, ComesWithMessage}
use Rattle.chord_rule.specs.Kinds.{saw, consumed, emptied, drop_claim, entry}
use Rattle.chord_rule.specs.Numbers.{HasNumber}
use Rattle.chord_rule.specs.Tells.{CameNext}
use Rattle.chord_rule.proofs.Lists.{dropped_has, fired_has}
use Rattle.chord_match.specs.Claiming.{IsDrawn, TookInOrder}
use Rattle.chord_match.specs.Consuming.{AreFired, AreApart, Consuming, handed_over, Handed}
use Rattle.chord_match.specs.Fires.{all_together, drop_duties, AreComing, IsFired, firing_entry}
use Rattle.chord_match.proofs.Lists.{first_has}
use Rattle.chord_match.proofs.InOrder.{both_looks, reversed_with}
use Rattle.chord_match.proofs.Unions.{all_are_place}

-- dropped claims are no more than before
drop_fewer : (i : ℕ) (cs : List Claim) → length (drop_claim i cs) ≤ length cs
drop_fewer i [] = omega arith
drop_fewer i (d ∷ cs) = cases (d.number == i) (drop_fewer i cs)
  where
    cases : (b : Bool) → length (drop_claim i cs) ≤ length cs → length (if not b then d ∷ drop_claim i cs else drop_claim i cs) ≤ length (d ∷ cs)
    cases true r = omega (arith, r)
    cases false r = omega (arith, r)

-- the claim on this message goes
drop_shorter : (i : ℕ) (c : Claim) (cs : List Claim) → c.number ≡ i → HasThe c cs → length (drop_claim i cs) < length cs
drop_shorter i c [] e h = absurd h
drop_shorter i c (d ∷ cs) e (inl q) = let t : (d.number == i) ≡ true = eq-eqb d.number i (sym (ap (λ (x : Claim). x.number) q) ∙ e) in let r = drop_fewer i cs in rw t (omega (arith, r))
drop_shorter i c (d ∷ cs) e (inr h) = cases (d.number == i) (drop_shorter i c cs e h)
  where
    cases : (b : Bool) → length (drop_claim i cs) < length cs → length (if not b then d ∷ drop_claim i cs else drop_claim i cs) < length (d ∷ cs)
    cases true r = omega (arith, r)
    cases false r = omega (arith, r)

-- there are as many methods as members
pub split_methods : (cs : List Claim) (f : ℕ) (o : Object) (js : List ℕ) (i : ℕ) (ms : List ℕ) (us : List value.Value) → AreFired cs f o js (i ∷ ms) us → (j : ℕ) × (rest : List ℕ) × (js ≡ j ∷ rest)
split_methods cs f o [] i ms us t = absurd t
split_methods cs f o (j ∷ js) i ms us t = (j, js, refl)

-- no methods for no members
pub no_method_left : (cs : List Claim) (f : ℕ) (o : Object) (js : List ℕ) (us : List value.Value) → AreFired cs f o js [] us → (js ≡ []) × (us ≡ [])
no_method_left cs f o [] us t = (refl, t)
no_method_left cs f o (j ∷ js) us t = absurd t

-- the claims on other messages stay
fired_kept : (i f : ℕ) (cs : List Claim) (o : Object) (js ms : List ℕ) (us : List value.Value) → ((k : ℕ) → HasNumber k ms → k ≢ i) → AreFired cs f o js ms us → AreFired (drop_claim i cs) f o js ms us
fired_kept i f cs o [] [] us ne t = t
fired_kept i f cs o [] (k ∷ ms) us ne t = absurd t
fired_kept i f cs o (j ∷ js) [] us ne t = absurd t
fired_kept i f cs o (j ∷ js) (k ∷ ms) us ne t = let x = t.0 in (
  record { claim = x.claim; there = dropped_has x.claim i cs (λ q. ne k (inl refl) (sym x.numbered ∙ q)) x.there; numbered = x.numbered; object = x.object; method = x.method; firing = x.firing },
  t.1,
  t.2,
  fired_kept i f cs o js ms t.1 (λ z h. ne z (inr h)) t.3,
)

module _ {P : Type 0} (entries : P → List Entry) (arguments : P → List value.Value) (keeps_to : P → Type 0) (p : Program) (n : ℕ) where
  -- no members, no parcels
  pub handed_none : (v : View) (o : Object) (f : ℕ) (us : List value.Value) → Consuming n v o [] [] f us → Handed entries arguments keeps_to p v v o [] [] f us []
  handed_none v o f us t = record { frame = ap (λ (cs : List Claim). record v { claims = cs }) (none v.claims t.many); each = refl; arguments_are = t.fired; older = tt; coming = tt; looks = []; remembered = refl; in_order = refl }
    where
      none : (cs : List Claim) → length cs ≤ 0 → cs ≡ []
      none [] l = refl
      none (c ∷ cs) l = absurd (omega (arith, l))

  module _ (v u : View) (o : Object) (j : ℕ) (js : List ℕ) (i : ℕ) (ms : List ℕ) (f : ℕ) (us : List value.Value) (q : P) (x : Word) (t : Consuming n v o (j ∷ js) (i ∷ ms) f us) (is : u ≡ emptied (saw (consumed v i (entries q)) i x)) where
    -- one member is consumed
    pub consuming_less : Consuming n u o js ms f t.fired.1
    consuming_less = subst (λ (z : View). Consuming n z o js ms f t.fired.1) (sym is) record {
      fired = fired_kept i f v.claims o js ms t.fired.1 t.apart.0 t.fired.3;
      many = let l = drop_shorter i t.fired.0.claim v.claims t.fired.0.numbered t.fired.0.there in let m = t.many in omega (arith, l, m);
      apart = t.apart.1;
      below = λ k h. t.below k (inr h);
      home = refl;
    }

    -- its parcel comes before the others
    pub handed_more : (w : View) (qs : List P) → x.cell ≡ a_cell.Consumed → arguments q ≡ t.fired.0.claim.values → AllBelow f (entries q) → keeps_to q → ComesWithMessage p v.kept t.fired.0.claim (entries q) → Handed entries arguments keeps_to p u w o js ms f t.fired.1 qs
        → Handed entries arguments keeps_to p v w o (j ∷ js) (i ∷ ms) f us (q ∷ qs)
    handed_more w qs consumed_it holds below keeps comes h = record {
      frame = h.frame ∙ ap (λ (z : View). handed_over z (all_together z.kept (map entries qs)) (drop_duties ms z.duties) w.looked) is
          ∙ ap (λ (e : Option ℕ). record v { kept = all_together (together v.kept (entries q)) (map entries qs); claims = []; emptying = e; duties = drop_duties (i ∷ ms) v.duties; looked = w.looked }) (sym t.home);
      each = ap suc h.each;
      arguments_are = t.fired.2 ∙ ap (λ (z : List value.Value). z ++ t.fired.1) (sym holds) ∙ ap (λ (z : List value.Value). arguments q ++ z) h.arguments_are;
      older = (below, keeps, h.older);
      coming = ((t.fired.0.claim, t.fired.0.numbered, t.fired.0.object, t.fired.0.method, comes), subst (λ (z : View). AreComing p entries o z.kept js ms qs) is h.coming);
      looks = h.looks ++ record { number = i; word = x } ∷ [];
      remembered = h.remembered ∙ ap (λ (z : View). record z.looked { seen = h.looks ++ z.looked.seen }) is ∙ ap (λ (z : List Look). record v.looked { seen = z }) (sym (append_assoc h.looks (record { number = i; word = x } ∷ []) v.looked.seen));
      in_order = both_looks h.looks (record { number = i; word = x } ∷ []) ∙ (λ k. h.in_order k ++ (i, consumed_it k) ∷ []) ∙ reversed_with a_cell.Consumed i ms;
    }

-- ## What was drawn is consumed

-- a claim on a member has the firing once it is drawn
claim_fired : (f : ℕ) (all : List ℕ) (c : Claim) (cs : List Claim) → HasThe c cs → has c.number all ≡ true → HasThe (record c { firing = Some f }) (fired_with f all cs)
claim_fired f all c cs h y = subst (λ (b : Bool). HasThe (if b then record c { firing = Some f } else c) (fired_with f all cs)) y (fired_has c f all cs h)

-- a firing takes no claim away
fired_length : (f : ℕ) (all : List ℕ) (cs : List Claim) → length (fired_with f all cs) ≡ length cs
fired_length f all [] = refl
fired_length f all (c ∷ cs) = ap suc (fired_length f all cs)

-- the claims on the members are for the firing once it is drawn
are_fired : (f : ℕ) (all : List ℕ) (cs : List Claim) (o : Object) (js ms : List ℕ) (vs : List value.Value) → ((k : ℕ) → HasNumber k ms → has k all ≡ true) → AreClaimed cs o js ms vs → AreFired (fired_with f all cs) f o js ms vs
are_fired f all cs o [] [] vs y t = t
are_fired f all cs o [] (i ∷ ms) vs y t = absurd t
are_fired f all cs o (j ∷ js) [] vs y t = absurd t
are_fired f all cs o (j ∷ js) (i ∷ ms) vs y t = (
  record { claim = record t.0 { firing = Some f }; there = claim_fired f all t.0 cs t.1 (ap (λ (z : ℕ). has z all) t.2 ∙ y i (inl refl)); numbered = t.2; object = t.3; method = t.4; firing = refl },
  t.6.0,
  t.6.1,
  are_fired f all cs o js ms t.6.0 (λ k h. y k (inr h)) t.6.2,
)

-- a number of a list stands at a place of it
index_of : (k : ℕ) (ms : List ℕ) → HasNumber k ms → (q : ℕ) × (q < length ms) × (slice_index_or ms q 0 ≡ k)
index_of k [] h = absurd h
index_of k (i ∷ ms) (inl q) = (0, omega arith, sym q)
index_of k (i ∷ ms) (inr h) = let r = index_of k ms h in (suc r.0, (let l = r.1 in omega (arith, l)), r.2)

-- what holds at each place of a list holds of each of its numbers
each_below : (n : ℕ) (ms : List ℕ) → ((q : ℕ) → q < length ms → slice_index_or ms q 0 < n) → (k : ℕ) → HasNumber k ms → k < n
each_below n ms f k h = let r = index_of k ms h in subst (λ (z : ℕ). z < n) r.2 (f r.0 r.1)

-- numbers that differ by place are apart
apart_list : (ms : List ℕ) → ((q r : ℕ) → q < r → r < length ms → slice_index_or ms q 0 ≢ slice_index_or ms r 0) → AreApart ms
apart_list [] f = tt
apart_list (i ∷ ms) f = ((λ k h e. let r = index_of k ms h in f 0 (suc r.0) (omega arith) (let l = r.1 in omega (arith, l)) (sym (r.2 ∙ e))), apart_list ms (λ q r l m. f (suc q) (suc r) (omega (arith, l)) (omega (arith, m))))

-- a number of a list is among it
has_of : (k : ℕ) (ms : List ℕ) → HasNumber k ms → has k ms ≡ true
has_of k [] h = absurd h
has_of k (i ∷ ms) (inl q) = subst (λ (z : ℕ). has z (i ∷ ms) ≡ true) (sym q) (first_has i ms)
has_of k (i ∷ ms) (inr h) = has_more k i ms (has_of k ms h)

-- once the firing is drawn, its members may be consumed
pub drawn_consuming : (n : ℕ) (p : Program) (v w : View) (o : Object) (chord : ℕ) (ms : List ℕ) (f : ℕ) (t : IsDrawn p v w o chord ms f) → ((q : ℕ) → q < length ms → slice_index_or ms q 0 < n) → v.emptying ≡ None → Consuming n w o t.methods ms f t.values
drawn_consuming n p v w o chord ms f t low home = subst (λ (z : View). Consuming n z o t.methods ms f t.values) (sym t.drawn) record {
  fired = are_fired f ms t.claims o t.methods ms t.values (λ k h. has_of k ms h) t.claimed;
  many = let e = fired_length f ms t.claims in let m = t.many in omega (arith, e, m);
  apart = apart_list ms t.apart;
  below = each_below n ms low;
  home = home;
}

module _ {P : Type 0} (entries : P → List Entry) (arguments : P → List value.Value) (keeps_to : P → Type 0) where
  -- the firing was drawn, and all its parcels came
  pub is_fired : (p : Program) (n : ℕ) (v u w : View) (o : Object) (chord : ℕ) (ms : List ℕ) (f : ℕ) (qs : List P) (t : IsDrawn p v u o chord ms f) → TookInOrder v u ms f → f < n → Handed entries arguments keeps_to p u w o t.methods ms f t.values qs → IsFired entries arguments keeps_to p n v w o chord ms f qs
  is_fired p n v u w o chord ms f qs t took low h = record {
    methods = t.methods;
    is_chord = t.is_chord;
    low = low;
    below = t.below;
    came = subst (λ (vs : List value.Value). CameNext p (entry f f (Fired chord o ms vs))) h.arguments_are t.came;
    each = h.each;
    older = h.older;
    place = place;
    coming = coming;
    stays = subst (IsPlace p) (sym (ap (λ (z : View). z.kept) after)) (all_are_place p entries o (firing_entry arguments o chord ms f qs ∷ v.kept) t.methods ms qs place coming);
    looks = h.looks ++ took.looks;
    remembered = h.remembered ∙ ap (λ (l : Looked). record l { seen = h.looks ++ l.seen }) took.remembered ∙ ap (λ (z : List Look). record v.looked { seen = z; count = Some (f + 1) }) (sym (append_assoc h.looks took.looks v.looked.seen));
    in_order = both_looks h.looks took.looks ∙ (λ k. h.in_order k ++ took.in_order k);
    view = after;
  }
    where
      place : IsPlace p (firing_entry arguments o chord ms f qs ∷ v.kept)
      place = subst (λ (vs : List value.Value). IsPlace p (entry f f (Fired chord o ms vs) ∷ v.kept)) h.arguments_are t.place

      coming : AreComing p entries o (firing_entry arguments o chord ms f qs ∷ v.kept) t.methods ms qs
      coming = subst (λ (vs : List value.Value). AreComing p entries o (entry f f (Fired chord o ms vs) ∷ v.kept) t.methods ms qs) h.arguments_are (subst (λ (z : View). AreComing p entries o z.kept t.methods ms qs) t.drawn h.coming)

      after : w ≡ record v { kept = all_together (firing_entry arguments o chord ms f qs ∷ v.kept) (map entries qs); draws = firing_entry arguments o chord ms f qs ∷ v.draws; claims = []; unposted = f ∷ v.unposted; drawn = true; duties = drop_duties ms v.duties; looked = w.looked }
      after = h.frame ∙ ap (λ (z : View). handed_over z (all_together z.kept (map entries qs)) (drop_duties ms z.duties) w.looked) t.drawn
          ∙ ap (λ (vs : List value.Value). record v { kept = all_together (entry f f (Fired chord o ms vs) ∷ v.kept) (map entries qs); draws = entry f f (Fired chord o ms vs) ∷ v.draws; claims = []; unposted = f ∷ v.unposted; drawn = true; duties = drop_duties ms v.duties; looked = w.looked }) h.arguments_are
