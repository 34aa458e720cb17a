-- Each kind of step keeps what desks have in hand.
use Rattle.std.proofs.Common.{◌≡◌, ◌≢◌, ◌⊎◌, inl, inr, ⊎_elim, ℕ, List, ◌∷◌, set, refl, sym, ap, ◌∙◌, subst, Option, Some, None}
use mathlib.Core.Path.{Path}
use mathlib.Core.Logic.{dite}
use mathlib.Core.Option.{some, some-injective}
use native.Mathlib.Decide.{ℕ_discrete}
use lib.ListN.{get_elem?}
use Rattle.atomic_table.proofs.Lists.{set_here, set_else}
use Rattle.chord_base.specs.declared.event.Entry.{Entry}
use Rattle.chord_base.specs.Messages.{AreDifferent}
use Rattle.chord_rule.specs.declared.view.Claim.{Claim}
use Rattle.chord_rule.specs.declared.view.View.{View}
use Rattle.chord_rule.specs.Numbers.{HasNumber}
use Rattle.chord_rule.specs.Claims.{HasThe, claimed_numbers}
use Rattle.chord_rule.specs.Stages.{Hold, Fresh, Placing, Flying, Claiming, Emptying, Unposted, Posting, Starting, Stage, Vacant, InHand, Armed, Spent, Posted, Played}
use Rattle.chord_rule.specs.Hands.{Hand, hand, Holds, IsUnlinked, KeepsNumber, Hands}
use Rattle.chord_rule.specs.Kinds as kinds
use Rattle.chord_rule.specs.Kinds.{claimed, left_by}
use Rattle.chord_rule.proofs.Puts.{put, put_here, put_else, at_inside}
use Rattle.chord_rule.proofs.Frames.{desks_after}
use Rattle.chord_rule.proofs.Lists.{some_is, together_left, has_without, without_has, has_dropped, dropped_has, not_numbered, dropped_different}

-- two things in hand are one
pub same_hand : (i j : ℕ) (x y : Hold) → InHand i x ≡ InHand j y → (i ≡ j) × (x ≡ y)
same_hand i j x y e = (cc, cc)

module _ (views : List View) (stage : ℕ → Stage) (law : Hands views stage) (id : ℕ) (v : View) (at : get_elem? views id ≡ some v) where
  -- a step of one desk, by what it has in hand afterwards
  pub hands_after : (w : View) (stage' : ℕ → Stage)
      → ((k : ℕ) (x : Hold) → Holds (hand w) k x → stage' k ≡ InHand id x)
      → ((k : ℕ) (x : Hold) → stage' k ≡ InHand id x → Holds (hand w) k x)
      → ((k j : ℕ) (x : Hold) → j ≢ id → stage k ≡ InHand j x → stage' k ≡ InHand j x)
      → ((k j : ℕ) (x : Hold) → j ≢ id → stage' k ≡ InHand j x → stage k ≡ InHand j x)
      → ((k : ℕ) → IsUnlinked (hand w) k → KeepsNumber w.kept k)
      → AreDifferent (claimed_numbers w.claims)
      → Hands (set views id w) stage'
  hands_after w stage' mine back on off keeps once = record {
    holds = desks_after (λ j u. (k : ℕ) (x : Hold) → Holds (hand u) k x → stage' k ≡ InHand j x) views id w mine (λ j u ne a k x h. on k j x ne (law.holds j u a k x h));
    held = λ k j x e. dite (ℕ_discrete j id)
        (λ q. (w, ap (get_elem? (set views id w)) q ∙ set_here views id w (at_inside views id v at), back k x (e ∙ ap (λ (z : ℕ). InHand z x) q)))
        (λ ne. let r = law.held k j x (off k j x ne e) in (r.0, set_else views id j w ne ∙ r.1, r.2));
    kept = desks_after (λ j u. (k : ℕ) → IsUnlinked (hand u) k → KeepsNumber u.kept k) views id w keeps (λ j u ne a. law.kept j u a);
    once = desks_after (λ j u. AreDifferent (claimed_numbers u.claims)) views id w once (λ j u ne a. law.once j u a);
  }

  -- a step that changes nothing in hand
  pub hands_still : (w : View) → hand w ≡ hand v → ((k : ℕ) → KeepsNumber v.kept k → KeepsNumber w.kept k) → Hands (set views id w) stage
  hands_still w same keeps = hands_after w stage
      (λ k x h. law.holds id v at k x (subst (λ (a : Hand). Holds a k x) same h))
      (λ k x e. let r = law.held k id x e in subst (λ (a : Hand). Holds a k x) (sym same) (subst (λ (u : View). Holds (hand u) k x) (some-injective r.0 v (sym r.1 ∙ at)) r.2))
      (λ k j x ne e. e) (λ k j x ne e. e)
      (λ k u. keeps k (law.kept id v at k (subst (λ (a : Hand). IsUnlinked a k) same u)))
      (subst (λ (a : Hand). AreDifferent (claimed_numbers a.claims)) (sym same) (law.once id v at))

  module _ (i : ℕ) (s : Stage) (was : stage i ≡ s) (alone : (j : ℕ) (x : Hold) → s ≡ InHand j x → j ≡ id) where
    -- what the desk had in hand otherwise is another number
    other : (k : ℕ) (x : Hold) → Holds (hand v) k x → s ≢ InHand id x → k ≢ i
    other k x h ne q = ne (sym was ∙ sym (ap stage q) ∙ law.holds id v at k x h)

    -- a step on one number
    pub hands_one : (w : View) (t : Stage)
        → ((k : ℕ) (x : Hold) → Holds (hand w) k x → ((k ≡ i) × (t ≡ InHand id x)) ⊎ ((k ≢ i) × Holds (hand v) k x))
        → ((k : ℕ) (x : Hold) → k ≢ i → Holds (hand v) k x → Holds (hand w) k x)
        → ((j : ℕ) (x : Hold) → t ≡ InHand j x → (j ≡ id) × Holds (hand w) i x)
        → ((k : ℕ) → IsUnlinked (hand w) k → KeepsNumber w.kept k)
        → AreDifferent (claimed_numbers w.claims)
        → Hands (set views id w) (put stage i t)
    hands_one w t came went now keeps once = hands_after w (put stage i t)
        (λ k x h. ⊎_elim (λ r. ap (put stage i t) r.0 ∙ put_here stage i t ∙ r.1) (λ r. put_else stage i t k r.0 ∙ law.holds id v at k x r.1) (came k x h))
        (λ k x e. dite (ℕ_discrete k i)
        (λ q. subst (λ (z : ℕ). Holds (hand w) z x) (sym q) (now id x (sym (put_here stage i t) ∙ sym (ap (put stage i t) q) ∙ e)).1)
        (λ ne. let r = law.held k id x (sym (put_else stage i t k ne) ∙ e) in went k x ne (subst (λ (u : View). Holds (hand u) k x) (some-injective r.0 v (sym r.1 ∙ at)) r.2)))
        (λ k j x ne e. put_else stage i t k (λ q. ne (alone j x (sym was ∙ sym (ap stage q) ∙ e))) ∙ e)
        (λ k j x ne e. dite (ℕ_discrete k i)
        (λ q. absurd (ne (now j x (sym (put_here stage i t) ∙ sym (ap (put stage i t) q) ∙ e)).0))
        (λ no. sym (put_else stage i t k no) ∙ e))
        keeps once

  -- it goes to this desk for something else
  in_hand : (a : Hand) (i : ℕ) (y : Hold) → Holds a i y → (j : ℕ) (x : Hold) → InHand id y ≡ InHand j x → (j ≡ id) × Holds a i x
  in_hand a i y h j x e = let q = same_hand id j y x e in (sym q.0, subst (Holds a i) q.1 h)

  -- what this desk has in hand no other desk has
  only : (x : Hold) (j : ℕ) (y : Hold) → InHand id x ≡ InHand j y → j ≡ id
  only x j y e = sym (same_hand id j x y e).0

  -- a message is drawn
  pub hands_fresh : (n : ℕ) (w : View) → stage n ≡ Vacant → hand w ≡ record (hand v) { fresh = n ∷ v.fresh } → KeepsNumber w.kept n → ((k : ℕ) → KeepsNumber v.kept k → KeepsNumber w.kept k)
      → Hands (set views id w) (put stage n (InHand id Fresh))
  hands_fresh n w vacant is new old = let a : Hand = record (hand v) { fresh = n ∷ v.fresh } in
      let apart = other n Vacant vacant (λ j x e. absurd (cc)) in
      hands_one n Vacant vacant (λ j x e. absurd (cc)) w (InHand id Fresh)
      (λ k x h. came apart k x (subst (λ (b : Hand). Holds b k x) is h))
      (λ k x ne h. subst (λ (b : Hand). Holds b k x) (sym is) (went k x ne h))
      (in_hand (hand w) n Fresh (subst (λ (b : Hand). Holds b n Fresh) (sym is) (inl refl)))
      (λ k u. keep k (subst (λ (b : Hand). IsUnlinked b k) is u))
      (subst (λ (a : Hand). AreDifferent (claimed_numbers a.claims)) (sym is) (law.once id v at))
    where
      came : ((k : ℕ) (x : Hold) → Holds (hand v) k x → Vacant ≢ InHand id x → k ≢ n) → (k : ℕ) (x : Hold) → Holds (record (hand v) { fresh = n ∷ v.fresh }) k x → ((k ≡ n) × (InHand id Fresh ≡ InHand id x)) ⊎ ((k ≢ n) × Holds (hand v) k x)
      came apart k Fresh h = ⊎_elim (λ q. inl (q, refl)) (λ o. inr (apart k Fresh o (λ e. cc), o)) h
      came apart k Placing h = inr (apart k Placing h (λ e. cc), h)
      came apart k (Flying b z) h = inr (apart k (Flying b z) h (λ e. cc), h)
      came apart k (Claiming c) h = inr (apart k (Claiming c) h (λ e. cc), h)
      came apart k Emptying h = inr (apart k Emptying h (λ e. cc), h)
      came apart k Unposted h = inr (apart k Unposted h (λ e. cc), h)
      came apart k Posting h = inr (apart k Posting h (λ e. cc), h)
      came apart k Starting h = inr (apart k Starting h (λ e. cc), h)

      went : (k : ℕ) (x : Hold) → k ≢ n → Holds (hand v) k x → Holds (record (hand v) { fresh = n ∷ v.fresh }) k x
      went k Fresh ne h = inr h
      went k Placing ne h = h
      went k (Flying b z) ne h = h
      went k (Claiming c) ne h = h
      went k Emptying ne h = h
      went k Unposted ne h = h
      went k Posting ne h = h
      went k Starting ne h = h

      keep : (k : ℕ) → IsUnlinked (record (hand v) { fresh = n ∷ v.fresh }) k → KeepsNumber w.kept k
      keep k u = ⊎_elim
          (λ h. ⊎_elim (λ q. subst (KeepsNumber w.kept) (sym q) new) (λ o. old k (law.kept id v at k (inl o))) h)
          (λ h. old k (law.kept id v at k (inr h))) u

  -- a message is placed
  pub hands_place : (i : ℕ) (has : HasNumber i v.fresh) (free : v.placing ≡ None) → Hands (set views id (kinds.address_set v i)) (put stage i (InHand id Placing))
  hands_place i has free = hands_one i (InHand id Fresh) (law.holds id v at i Fresh has) (only Fresh) (kinds.address_set v i) (InHand id Placing) (came (other i (InHand id Fresh) (law.holds id v at i Fresh has) (only Fresh))) went (in_hand (hand (kinds.address_set v i)) i Placing refl) keep (law.once id v at)
    where
      came : ((k : ℕ) (x : Hold) → Holds (hand v) k x → InHand id Fresh ≢ InHand id x → k ≢ i) → (k : ℕ) (x : Hold) → Holds (hand (kinds.address_set v i)) k x → ((k ≡ i) × (InHand id Placing ≡ InHand id x)) ⊎ ((k ≢ i) × Holds (hand v) k x)
      came apart k Fresh h = let r = has_without k i v.fresh h in inr (r.0, r.1)
      came apart k Placing h = inl (sym (some_is i k h), refl)
      came apart k (Flying b z) h = inr (apart k (Flying b z) h (λ e. cc), h)
      came apart k (Claiming d) h = inr (apart k (Claiming d) h (λ e. cc), h)
      came apart k Emptying h = inr (apart k Emptying h (λ e. cc), h)
      came apart k Unposted h = inr (apart k Unposted h (λ e. cc), h)
      came apart k Posting h = inr (apart k Posting h (λ e. cc), h)
      came apart k Starting h = inr (apart k Starting h (λ e. cc), h)

      went : (k : ℕ) (x : Hold) → k ≢ i → Holds (hand v) k x → Holds (hand (kinds.address_set v i)) k x
      went k Fresh ne h = without_has k i v.fresh ne h
      went k Placing ne h = absurd (let z : Path (Option ℕ) None (Some k) = sym free ∙ h in cc)
      went k (Flying b z) ne h = h
      went k (Claiming d) ne h = h
      went k Emptying ne h = h
      went k Unposted ne h = h
      went k Posting ne h = h
      went k Starting ne h = h

      keep : (k : ℕ) → IsUnlinked (hand (kinds.address_set v i)) k → KeepsNumber (kinds.address_set v i).kept k
      keep k u = ⊎_elim (λ h. law.kept id v at k (inl (has_without k i v.fresh h).1)) (λ h. subst (KeepsNumber v.kept) (some_is i k h) (law.kept id v at i (inl has))) u

  -- it is linked in the bag, above another one, and what else is unlinked stays
  pub hands_link : (i : ℕ) (bag : ℕ) (above : Option ℕ) (ps : List Entry) (placing : v.placing ≡ Some i) (free : v.flight ≡ None) (stays : (k : ℕ) → HasNumber k v.fresh → KeepsNumber v.kept k → KeepsNumber (left_by ps v.kept) k) → Hands (set views id (kinds.flown v i bag above ps)) (put stage i (InHand id (Flying bag above)))
  hands_link i bag above ps placing free stays = hands_one i (InHand id Placing) (law.holds id v at i Placing placing) (only Placing) (kinds.flown v i bag above ps) (InHand id (Flying bag above)) (came (other i (InHand id Placing) (law.holds id v at i Placing placing) (only Placing))) went (in_hand (hand (kinds.flown v i bag above ps)) i (Flying bag above) (refl, refl, refl)) keep (law.once id v at)
    where
      came : ((k : ℕ) (x : Hold) → Holds (hand v) k x → InHand id Placing ≢ InHand id x → k ≢ i) → (k : ℕ) (x : Hold) → Holds (hand (kinds.flown v i bag above ps)) k x → ((k ≡ i) × (InHand id (Flying bag above) ≡ InHand id x)) ⊎ ((k ≢ i) × Holds (hand v) k x)
      came apart k Fresh h = inr (apart k Fresh h (λ e. cc), h)
      came apart k Placing h = absurd (let z : Path (Option ℕ) None (Some k) = h in cc)
      came apart k (Flying b z) h = inl (sym (some_is i k h.0), (λ q. InHand id (Flying (h.1 q) (h.2 q))))
      came apart k (Claiming d) h = inr (apart k (Claiming d) h (λ e. cc), h)
      came apart k Emptying h = inr (apart k Emptying h (λ e. cc), h)
      came apart k Unposted h = inr (apart k Unposted h (λ e. cc), h)
      came apart k Posting h = inr (apart k Posting h (λ e. cc), h)
      came apart k Starting h = inr (apart k Starting h (λ e. cc), h)

      went : (k : ℕ) (x : Hold) → k ≢ i → Holds (hand v) k x → Holds (hand (kinds.flown v i bag above ps)) k x
      went k Fresh ne h = h
      went k Placing ne h = absurd (ne (sym (some_is i k (sym placing ∙ h))))
      went k (Flying b z) ne h = absurd (let z : Path (Option ℕ) None (Some k) = sym free ∙ h.0 in cc)
      went k (Claiming d) ne h = h
      went k Emptying ne h = h
      went k Unposted ne h = h
      went k Posting ne h = h
      went k Starting ne h = h

      keep : (k : ℕ) → IsUnlinked (hand (kinds.flown v i bag above ps)) k → KeepsNumber (kinds.flown v i bag above ps).kept k
      keep k u = ⊎_elim (λ h. stays k h (law.kept id v at k (inl h))) (λ h. absurd (let z : Path (Option ℕ) None (Some k) = h in cc)) u

  -- it is armed
  pub hands_arm : (i : ℕ) (flying : v.flight ≡ Some i) → Hands (set views id (kinds.armed v i)) (put stage i (Armed))
  hands_arm i flying = hands_one i (InHand id (Flying v.bag v.above)) (law.holds id v at i (Flying v.bag v.above) (flying, refl, refl)) (only (Flying v.bag v.above)) (kinds.armed v i) (Armed) (came (other i (InHand id (Flying v.bag v.above)) (law.holds id v at i (Flying v.bag v.above) (flying, refl, refl)) (only (Flying v.bag v.above)))) went (λ j x e. absurd (cc)) keep (law.once id v at)
    where
      came : ((k : ℕ) (x : Hold) → Holds (hand v) k x → InHand id (Flying v.bag v.above) ≢ InHand id x → k ≢ i) → (k : ℕ) (x : Hold) → Holds (hand (kinds.armed v i)) k x → ((k ≡ i) × (Armed ≡ InHand id x)) ⊎ ((k ≢ i) × Holds (hand v) k x)
      came apart k Fresh h = inr (apart k Fresh h (λ e. cc), h)
      came apart k Placing h = inr (apart k Placing h (λ e. cc), h)
      came apart k (Flying b z) h = absurd (let z : Path (Option ℕ) None (Some k) = h.0 in cc)
      came apart k (Claiming d) h = inr (apart k (Claiming d) h (λ e. cc), h)
      came apart k Emptying h = inr (apart k Emptying h (λ e. cc), h)
      came apart k Unposted h = inr (apart k Unposted h (λ e. cc), h)
      came apart k Posting h = inr (apart k Posting h (λ e. cc), h)
      came apart k Starting h = inr (apart k Starting h (λ e. cc), h)

      went : (k : ℕ) (x : Hold) → k ≢ i → Holds (hand v) k x → Holds (hand (kinds.armed v i)) k x
      went k Fresh ne h = h
      went k Placing ne h = h
      went k (Flying b z) ne h = absurd (ne (sym (some_is i k (sym flying ∙ h.0))))
      went k (Claiming d) ne h = h
      went k Emptying ne h = h
      went k Unposted ne h = h
      went k Posting ne h = h
      went k Starting ne h = h

      keep : (k : ℕ) → IsUnlinked (hand (kinds.armed v i)) k → KeepsNumber (kinds.armed v i).kept k
      keep k u = law.kept id v at k u

  -- it is claimed
  pub hands_claim : (i : ℕ) (c : Claim) (named : c.number ≡ i) (was : stage i ≡ Armed) → Hands (set views id (claimed v c)) (put stage i (InHand id (Claiming c)))
  hands_claim i c named was = hands_one i (Armed) (was) (λ j x e. absurd (cc)) (claimed v c) (InHand id (Claiming c)) (came (other i (Armed) (was) (λ j x e. absurd (cc)))) went (in_hand (hand (claimed v c)) i (Claiming c) (inl refl, named)) keep (not_numbered c.number v.claims (λ d h q. let z : Armed ≡ InHand id (Claiming d) = sym was ∙ ap stage (sym (q ∙ named)) ∙ law.holds id v at d.number (Claiming d) (h, refl) in absurd (cc)), law.once id v at)
    where
      came : ((k : ℕ) (x : Hold) → Holds (hand v) k x → Armed ≢ InHand id x → k ≢ i) → (k : ℕ) (x : Hold) → Holds (hand (claimed v c)) k x → ((k ≡ i) × (InHand id (Claiming c) ≡ InHand id x)) ⊎ ((k ≢ i) × Holds (hand v) k x)
      came apart k Fresh h = inr (apart k Fresh h (λ e. cc), h)
      came apart k Placing h = inr (apart k Placing h (λ e. cc), h)
      came apart k (Flying b z) h = inr (apart k (Flying b z) h (λ e. cc), h)
      came apart k (Claiming d) h = ⊎_elim (λ q. inl (sym h.1 ∙ ap (λ (y : Claim). y.number) q ∙ named, ap (λ (y : Claim). InHand id (Claiming y)) (sym q))) (λ o. inr (apart k (Claiming d) (o, h.1) (λ e. cc), (o, h.1))) h.0
      came apart k Emptying h = inr (apart k Emptying h (λ e. cc), h)
      came apart k Unposted h = inr (apart k Unposted h (λ e. cc), h)
      came apart k Posting h = inr (apart k Posting h (λ e. cc), h)
      came apart k Starting h = inr (apart k Starting h (λ e. cc), h)

      went : (k : ℕ) (x : Hold) → k ≢ i → Holds (hand v) k x → Holds (hand (claimed v c)) k x
      went k Fresh ne h = h
      went k Placing ne h = h
      went k (Flying b z) ne h = h
      went k (Claiming d) ne h = (inr h.0, h.1)
      went k Emptying ne h = h
      went k Unposted ne h = h
      went k Posting ne h = h
      went k Starting ne h = h

      keep : (k : ℕ) → IsUnlinked (hand (claimed v c)) k → KeepsNumber (claimed v c).kept k
      keep k u = law.kept id v at k u

  -- it is given back
  pub hands_give_back : (i : ℕ) (c : Claim) (has : HasThe c v.claims) (named : c.number ≡ i) → Hands (set views id (kinds.unclaimed v i)) (put stage i (Armed))
  hands_give_back i c has named = hands_one i (InHand id (Claiming c)) (law.holds id v at i (Claiming c) (has, named)) (only (Claiming c)) (kinds.unclaimed v i) (Armed) (came (other i (InHand id (Claiming c)) (law.holds id v at i (Claiming c) (has, named)) (only (Claiming c)))) went (λ j x e. absurd (cc)) keep (dropped_different i v.claims (law.once id v at))
    where
      came : ((k : ℕ) (x : Hold) → Holds (hand v) k x → InHand id (Claiming c) ≢ InHand id x → k ≢ i) → (k : ℕ) (x : Hold) → Holds (hand (kinds.unclaimed v i)) k x → ((k ≡ i) × (Armed ≡ InHand id x)) ⊎ ((k ≢ i) × Holds (hand v) k x)
      came apart k Fresh h = inr (apart k Fresh h (λ e. cc), h)
      came apart k Placing h = inr (apart k Placing h (λ e. cc), h)
      came apart k (Flying b z) h = inr (apart k (Flying b z) h (λ e. cc), h)
      came apart k (Claiming d) h = let r = has_dropped d i v.claims h.0 in inr ((λ q. r.0 (h.1 ∙ q)), (r.1, h.1))
      came apart k Emptying h = inr (apart k Emptying h (λ e. cc), h)
      came apart k Unposted h = inr (apart k Unposted h (λ e. cc), h)
      came apart k Posting h = inr (apart k Posting h (λ e. cc), h)
      came apart k Starting h = inr (apart k Starting h (λ e. cc), h)

      went : (k : ℕ) (x : Hold) → k ≢ i → Holds (hand v) k x → Holds (hand (kinds.unclaimed v i)) k x
      went k Fresh ne h = h
      went k Placing ne h = h
      went k (Flying b z) ne h = h
      went k (Claiming d) ne h = (dropped_has d i v.claims (λ q. ne (sym h.1 ∙ q)) h.0, h.1)
      went k Emptying ne h = h
      went k Unposted ne h = h
      went k Posting ne h = h
      went k Starting ne h = h

      keep : (k : ℕ) → IsUnlinked (hand (kinds.unclaimed v i)) k → KeepsNumber (kinds.unclaimed v i).kept k
      keep k u = law.kept id v at k u

  -- it is consumed, and entries come
  pub hands_consume : (i : ℕ) (c : Claim) (ps : List Entry) (has : HasThe c v.claims) (named : c.number ≡ i) (free : v.emptying ≡ None) → Hands (set views id (kinds.consumed v i ps)) (put stage i (InHand id Emptying))
  hands_consume i c ps has named free = hands_one i (InHand id (Claiming c)) (law.holds id v at i (Claiming c) (has, named)) (only (Claiming c)) (kinds.consumed v i ps) (InHand id Emptying) (came (other i (InHand id (Claiming c)) (law.holds id v at i (Claiming c) (has, named)) (only (Claiming c)))) went (in_hand (hand (kinds.consumed v i ps)) i Emptying refl) keep (dropped_different i v.claims (law.once id v at))
    where
      came : ((k : ℕ) (x : Hold) → Holds (hand v) k x → InHand id (Claiming c) ≢ InHand id x → k ≢ i) → (k : ℕ) (x : Hold) → Holds (hand (kinds.consumed v i ps)) k x → ((k ≡ i) × (InHand id Emptying ≡ InHand id x)) ⊎ ((k ≢ i) × Holds (hand v) k x)
      came apart k Fresh h = inr (apart k Fresh h (λ e. cc), h)
      came apart k Placing h = inr (apart k Placing h (λ e. cc), h)
      came apart k (Flying b z) h = inr (apart k (Flying b z) h (λ e. cc), h)
      came apart k (Claiming d) h = let r = has_dropped d i v.claims h.0 in inr ((λ q. r.0 (h.1 ∙ q)), (r.1, h.1))
      came apart k Emptying h = inl (sym (some_is i k h), refl)
      came apart k Unposted h = inr (apart k Unposted h (λ e. cc), h)
      came apart k Posting h = inr (apart k Posting h (λ e. cc), h)
      came apart k Starting h = inr (apart k Starting h (λ e. cc), h)

      went : (k : ℕ) (x : Hold) → k ≢ i → Holds (hand v) k x → Holds (hand (kinds.consumed v i ps)) k x
      went k Fresh ne h = h
      went k Placing ne h = h
      went k (Flying b z) ne h = h
      went k (Claiming d) ne h = (dropped_has d i v.claims (λ q. ne (sym h.1 ∙ q)) h.0, h.1)
      went k Emptying ne h = absurd (let z : Path (Option ℕ) None (Some k) = sym free ∙ h in cc)
      went k Unposted ne h = h
      went k Posting ne h = h
      went k Starting ne h = h

      keep : (k : ℕ) → IsUnlinked (hand (kinds.consumed v i ps)) k → KeepsNumber (kinds.consumed v i ps).kept k
      keep k u = (let r = law.kept id v at k u in (r.0, together_left r.0 v.kept ps r.1, r.2))

  -- its slot is home again
  pub hands_empty : (i : ℕ) (emptying : v.emptying ≡ Some i) → Hands (set views id (kinds.emptied v)) (put stage i (Spent))
  hands_empty i emptying = hands_one i (InHand id Emptying) (law.holds id v at i Emptying emptying) (only Emptying) (kinds.emptied v) (Spent) (came (other i (InHand id Emptying) (law.holds id v at i Emptying emptying) (only Emptying))) went (λ j x e. absurd (cc)) keep (law.once id v at)
    where
      came : ((k : ℕ) (x : Hold) → Holds (hand v) k x → InHand id Emptying ≢ InHand id x → k ≢ i) → (k : ℕ) (x : Hold) → Holds (hand (kinds.emptied v)) k x → ((k ≡ i) × (Spent ≡ InHand id x)) ⊎ ((k ≢ i) × Holds (hand v) k x)
      came apart k Fresh h = inr (apart k Fresh h (λ e. cc), h)
      came apart k Placing h = inr (apart k Placing h (λ e. cc), h)
      came apart k (Flying b z) h = inr (apart k (Flying b z) h (λ e. cc), h)
      came apart k (Claiming d) h = inr (apart k (Claiming d) h (λ e. cc), h)
      came apart k Emptying h = absurd (let z : Path (Option ℕ) None (Some k) = h in cc)
      came apart k Unposted h = inr (apart k Unposted h (λ e. cc), h)
      came apart k Posting h = inr (apart k Posting h (λ e. cc), h)
      came apart k Starting h = inr (apart k Starting h (λ e. cc), h)

      went : (k : ℕ) (x : Hold) → k ≢ i → Holds (hand v) k x → Holds (hand (kinds.emptied v)) k x
      went k Fresh ne h = h
      went k Placing ne h = h
      went k (Flying b z) ne h = h
      went k (Claiming d) ne h = h
      went k Emptying ne h = absurd (ne (sym (some_is i k (sym emptying ∙ h))))
      went k Unposted ne h = h
      went k Posting ne h = h
      went k Starting ne h = h

      keep : (k : ℕ) → IsUnlinked (hand (kinds.emptied v)) k → KeepsNumber (kinds.emptied v).kept k
      keep k u = law.kept id v at k u

  -- the slot of a firing comes out
  pub hands_posting : (i : ℕ) (has : HasNumber i v.unposted) (free : v.posting ≡ None) → Hands (set views id (kinds.posting v i)) (put stage i (InHand id Posting))
  hands_posting i has free = hands_one i (InHand id Unposted) (law.holds id v at i Unposted has) (only Unposted) (kinds.posting v i) (InHand id Posting) (came (other i (InHand id Unposted) (law.holds id v at i Unposted has) (only Unposted))) went (in_hand (hand (kinds.posting v i)) i Posting refl) keep (law.once id v at)
    where
      came : ((k : ℕ) (x : Hold) → Holds (hand v) k x → InHand id Unposted ≢ InHand id x → k ≢ i) → (k : ℕ) (x : Hold) → Holds (hand (kinds.posting v i)) k x → ((k ≡ i) × (InHand id Posting ≡ InHand id x)) ⊎ ((k ≢ i) × Holds (hand v) k x)
      came apart k Fresh h = inr (apart k Fresh h (λ e. cc), h)
      came apart k Placing h = inr (apart k Placing h (λ e. cc), h)
      came apart k (Flying b z) h = inr (apart k (Flying b z) h (λ e. cc), h)
      came apart k (Claiming d) h = inr (apart k (Claiming d) h (λ e. cc), h)
      came apart k Emptying h = inr (apart k Emptying h (λ e. cc), h)
      came apart k Unposted h = let r = has_without k i v.unposted h in inr (r.0, r.1)
      came apart k Posting h = inl (sym (some_is i k h), refl)
      came apart k Starting h = inr (apart k Starting h (λ e. cc), h)

      went : (k : ℕ) (x : Hold) → k ≢ i → Holds (hand v) k x → Holds (hand (kinds.posting v i)) k x
      went k Fresh ne h = h
      went k Placing ne h = h
      went k (Flying b z) ne h = h
      went k (Claiming d) ne h = h
      went k Emptying ne h = h
      went k Unposted ne h = without_has k i v.unposted ne h
      went k Posting ne h = absurd (let z : Path (Option ℕ) None (Some k) = sym free ∙ h in cc)
      went k Starting ne h = h

      keep : (k : ℕ) → IsUnlinked (hand (kinds.posting v i)) k → KeepsNumber (kinds.posting v i).kept k
      keep k u = law.kept id v at k u

  -- the firing is posted, and what is unlinked stays
  pub hands_post : (i : ℕ) (ps : List Entry) (posting : v.posting ≡ Some i) (stays : (k : ℕ) → IsUnlinked (hand v) k → KeepsNumber v.kept k → KeepsNumber (left_by ps v.kept) k) → Hands (set views id (kinds.posted v ps)) (put stage i (Posted))
  hands_post i ps posting stays = hands_one i (InHand id Posting) (law.holds id v at i Posting posting) (only Posting) (kinds.posted v ps) (Posted) (came (other i (InHand id Posting) (law.holds id v at i Posting posting) (only Posting))) went (λ j x e. absurd (cc)) keep (law.once id v at)
    where
      came : ((k : ℕ) (x : Hold) → Holds (hand v) k x → InHand id Posting ≢ InHand id x → k ≢ i) → (k : ℕ) (x : Hold) → Holds (hand (kinds.posted v ps)) k x → ((k ≡ i) × (Posted ≡ InHand id x)) ⊎ ((k ≢ i) × Holds (hand v) k x)
      came apart k Fresh h = inr (apart k Fresh h (λ e. cc), h)
      came apart k Placing h = inr (apart k Placing h (λ e. cc), h)
      came apart k (Flying b z) h = inr (apart k (Flying b z) h (λ e. cc), h)
      came apart k (Claiming d) h = inr (apart k (Claiming d) h (λ e. cc), h)
      came apart k Emptying h = inr (apart k Emptying h (λ e. cc), h)
      came apart k Unposted h = inr (apart k Unposted h (λ e. cc), h)
      came apart k Posting h = absurd (let z : Path (Option ℕ) None (Some k) = h in cc)
      came apart k Starting h = inr (apart k Starting h (λ e. cc), h)

      went : (k : ℕ) (x : Hold) → k ≢ i → Holds (hand v) k x → Holds (hand (kinds.posted v ps)) k x
      went k Fresh ne h = h
      went k Placing ne h = h
      went k (Flying b z) ne h = h
      went k (Claiming d) ne h = h
      went k Emptying ne h = h
      went k Unposted ne h = h
      went k Posting ne h = absurd (ne (sym (some_is i k (sym posting ∙ h))))
      went k Starting ne h = h

      keep : (k : ℕ) → IsUnlinked (hand (kinds.posted v ps)) k → KeepsNumber (kinds.posted v ps).kept k
      keep k u = stays k u (law.kept id v at k u)

  -- a firing is started, and entries come
  pub hands_start : (i : ℕ) (ps : List Entry) (was : stage i ≡ Posted) (free : v.starting ≡ None) → Hands (set views id (kinds.firing_started v i ps)) (put stage i (InHand id Starting))
  hands_start i ps was free = hands_one i (Posted) (was) (λ j x e. absurd (cc)) (kinds.firing_started v i ps) (InHand id Starting) (came (other i (Posted) (was) (λ j x e. absurd (cc)))) went (in_hand (hand (kinds.firing_started v i ps)) i Starting refl) keep (law.once id v at)
    where
      came : ((k : ℕ) (x : Hold) → Holds (hand v) k x → Posted ≢ InHand id x → k ≢ i) → (k : ℕ) (x : Hold) → Holds (hand (kinds.firing_started v i ps)) k x → ((k ≡ i) × (InHand id Starting ≡ InHand id x)) ⊎ ((k ≢ i) × Holds (hand v) k x)
      came apart k Fresh h = inr (apart k Fresh h (λ e. cc), h)
      came apart k Placing h = inr (apart k Placing h (λ e. cc), h)
      came apart k (Flying b z) h = inr (apart k (Flying b z) h (λ e. cc), h)
      came apart k (Claiming d) h = inr (apart k (Claiming d) h (λ e. cc), h)
      came apart k Emptying h = inr (apart k Emptying h (λ e. cc), h)
      came apart k Unposted h = inr (apart k Unposted h (λ e. cc), h)
      came apart k Posting h = inr (apart k Posting h (λ e. cc), h)
      came apart k Starting h = inl (sym (some_is i k h), refl)

      went : (k : ℕ) (x : Hold) → k ≢ i → Holds (hand v) k x → Holds (hand (kinds.firing_started v i ps)) k x
      went k Fresh ne h = h
      went k Placing ne h = h
      went k (Flying b z) ne h = h
      went k (Claiming d) ne h = h
      went k Emptying ne h = h
      went k Unposted ne h = h
      went k Posting ne h = h
      went k Starting ne h = absurd (let z : Path (Option ℕ) None (Some k) = sym free ∙ h in cc)

      keep : (k : ℕ) → IsUnlinked (hand (kinds.firing_started v i ps)) k → KeepsNumber (kinds.firing_started v i ps).kept k
      keep k u = (let r = law.kept id v at k u in (r.0, together_left r.0 v.kept ps r.1, r.2))

  -- its slot is home again
  pub hands_play : (i : ℕ) (starting : v.starting ≡ Some i) → Hands (set views id (kinds.played v)) (put stage i (Played))
  hands_play i starting = hands_one i (InHand id Starting) (law.holds id v at i Starting starting) (only Starting) (kinds.played v) (Played) (came (other i (InHand id Starting) (law.holds id v at i Starting starting) (only Starting))) went (λ j x e. absurd (cc)) keep (law.once id v at)
    where
      came : ((k : ℕ) (x : Hold) → Holds (hand v) k x → InHand id Starting ≢ InHand id x → k ≢ i) → (k : ℕ) (x : Hold) → Holds (hand (kinds.played v)) k x → ((k ≡ i) × (Played ≡ InHand id x)) ⊎ ((k ≢ i) × Holds (hand v) k x)
      came apart k Fresh h = inr (apart k Fresh h (λ e. cc), h)
      came apart k Placing h = inr (apart k Placing h (λ e. cc), h)
      came apart k (Flying b z) h = inr (apart k (Flying b z) h (λ e. cc), h)
      came apart k (Claiming d) h = inr (apart k (Claiming d) h (λ e. cc), h)
      came apart k Emptying h = inr (apart k Emptying h (λ e. cc), h)
      came apart k Unposted h = inr (apart k Unposted h (λ e. cc), h)
      came apart k Posting h = inr (apart k Posting h (λ e. cc), h)
      came apart k Starting h = absurd (let z : Path (Option ℕ) None (Some k) = h in cc)

      went : (k : ℕ) (x : Hold) → k ≢ i → Holds (hand v) k x → Holds (hand (kinds.played v)) k x
      went k Fresh ne h = h
      went k Placing ne h = h
      went k (Flying b z) ne h = h
      went k (Claiming d) ne h = h
      went k Emptying ne h = h
      went k Unposted ne h = h
      went k Posting ne h = h
      went k Starting ne h = absurd (ne (sym (some_is i k (sym starting ∙ h))))

      keep : (k : ℕ) → IsUnlinked (hand (kinds.played v)) k → KeepsNumber (kinds.played v).kept k
      keep k u = law.kept id v at k u
