-- Each kind of step keeps which firings took which messages.
use Rattle.std.proofs.Common.{◌≡◌, inl, inr, ℕ, ◌==◌, true, Bool, if◌then◌else◌, List, ◌∷◌, refl, sym, ap, ◌∙◌, subst, Option, Some, None, IsSome, eq-eqb, ne_eqb}
use mathlib.Core.Logic.{dite}
use native.Mathlib.Decide.{ℕ_discrete}
use Rattle.chord_base.specs.declared.value.Object.{Object}
use Rattle.chord_base.specs.declared.value.Value as value
use Rattle.chord_base.specs.declared.event.What.{What}
use Rattle.chord_base.specs.declared.event.What.TheVariants.{Begun, Made, Sent, Called, Printed, Fired, Ended}
use Rattle.chord_base.specs.declared.event.Entry.{Entry}
use Rattle.chord_base.specs.Messages.{Message, has}
use Rattle.chord_base.proofs.Waits.{either}
use Rattle.chord_rule.specs.declared.view.Claim.{Claim}
use Rattle.chord_rule.specs.Firings.{IsTakenBy, Firings}
use Rattle.chord_rule.specs.Stages.{Fresh, Placing, Flying, Claiming, Emptying, Unposted, Posting, Starting, Stage, Vacant, InHand, Armed, Spent, Posted, Played, taker, IsFiringEntry}
use Rattle.chord_rule.specs.Kinds.{drawn_stage, fired_stage, heir, entry}
use Rattle.chord_rule.proofs.Puts.{put, put_here, put_else}
use Rattle.chord_rule.proofs.MessageSteps.{claim_on}

module _ (h : List Entry) (stage : ℕ → Stage) (law : Firings h stage) where
  -- a step on one number
  pub firings_one : (i : ℕ) (t : Stage) → IsTakenBy t (taker i h) → Firings h (put stage i t)
  firings_one i t now = record {
    taken = λ k. dite (ℕ_discrete k i)
        (λ e. subst (λ (z : ℕ). IsTakenBy (put stage i t z) (taker z h)) (sym e) (subst (λ (s : Stage). IsTakenBy s (taker i h)) (sym (put_here stage i t)) now))
        (λ ne. subst (λ (s : Stage). IsTakenBy s (taker k h)) (sym (put_else stage i t k ne)) (law.taken k));
  }

  module _ (id i : ℕ) where
    -- the message was taken as its stage tells
    was : (s : Stage) → stage i ≡ s → IsTakenBy s (taker i h)
    was s e = subst (λ (z : Stage). IsTakenBy z (taker i h)) e (law.taken i)

    -- a message is placed
    pub firings_place : stage i ≡ InHand id Fresh → Firings h (put stage i (InHand id Placing))
    firings_place e = firings_one i (InHand id Placing) (was (InHand id Fresh) e)

    -- a message is linked
    pub firings_link : (k : ℕ) (above : Option ℕ) → stage i ≡ InHand id Placing → Firings h (put stage i (InHand id (Flying k above)))
    firings_link k above e = firings_one i (InHand id (Flying k above)) (was (InHand id Placing) e)

    -- a linked message is armed
    pub firings_arm : (k : ℕ) (above : Option ℕ) → stage i ≡ InHand id (Flying k above) → Firings h (put stage i Armed)
    firings_arm k above e = firings_one i Armed (was (InHand id (Flying k above)) e)

    -- an armed message is claimed
    pub firings_claim : (next : Option ℕ) (m : Message) → stage i ≡ Armed → Firings h (put stage i (InHand id (Claiming (claim_on i next m))))
    firings_claim next m e = firings_one i (InHand id (Claiming (claim_on i next m))) (was Armed e)

    -- a claim for no firing is given back
    pub firings_give_back : (c : Claim) → c.firing ≡ None → stage i ≡ InHand id (Claiming c) → Firings h (put stage i Armed)
    firings_give_back c free e = firings_one i Armed (was (InHand id (Claiming c)) e ∙ free)

    -- a message that is claimed for a firing is consumed
    pub firings_consume : (c : Claim) (f : ℕ) → c.firing ≡ Some f → stage i ≡ InHand id (Claiming c) → Firings h (put stage i (InHand id Emptying))
    firings_consume c f for e = firings_one i (InHand id Emptying) (subst (λ (x : Option ℕ). IsSome x) (sym (was (InHand id (Claiming c)) e ∙ for)) refl)

    -- the slot of a consumed message is home again
    pub firings_empty : stage i ≡ InHand id Emptying → Firings h (put stage i Spent)
    firings_empty e = firings_one i Spent (was (InHand id Emptying) e)

    -- the slot of a firing comes out
    pub firings_posting : stage i ≡ InHand id Unposted → Firings h (put stage i (InHand id Posting))
    firings_posting e = firings_one i (InHand id Posting) (was (InHand id Unposted) e)

    -- a firing is posted
    pub firings_post : stage i ≡ InHand id Posting → Firings h (put stage i Posted)
    firings_post e = firings_one i Posted (was (InHand id Posting) e)

    -- a posted firing is started
    pub firings_start : stage i ≡ Posted → Firings h (put stage i (InHand id Starting))
    firings_start e = firings_one i (InHand id Starting) (was Posted e)

    -- the slot of a started firing is home again
    pub firings_play : stage i ≡ InHand id Starting → Firings h (put stage i Played)
    firings_play e = firings_one i Played (was (InHand id Starting) e)

  -- a desk is joined
  pub firings_join : (id other : ℕ) → Firings h (λ i. heir id other (stage i))
  firings_join id other = record { taken = λ i. go (stage i) (taker i h) (law.taken i) }
    where
      go : (s : Stage) (f : Option ℕ) → IsTakenBy s f → IsTakenBy (heir id other s) f
      go (InHand j x) f t = t
      go Vacant f t = t
      go Armed f t = t
      go Spent f t = t
      go Posted f t = t
      go Played f t = t

  module _ (id n : ℕ) (vacant : stage n ≡ Vacant) where
    -- an entry is drawn that is no firing
    pub firings_draw : (b : ℕ) (what : What) → ¬ IsFiringEntry (Some what) → Firings (entry n b what ∷ h) (drawn_stage id n what stage)
    firings_draw b (Sent x j vs) plain = record { taken = fresh_taken }
      where
        fresh_taken : (k : ℕ) → IsTakenBy (if k == n then InHand id Fresh else stage k) (taker k h)
        fresh_taken k = dite (ℕ_discrete k n)
            (λ q. subst (λ (s : Stage). IsTakenBy s (taker k h)) (sym (ap (λ (b : Bool). if b then InHand id Fresh else stage k) (eq-eqb k n q))) (subst (λ (s : Stage). IsTakenBy s (taker k h)) (ap stage q ∙ vacant) (law.taken k)))
            (λ ne. subst (λ (s : Stage). IsTakenBy s (taker k h)) (sym (ap (λ (b : Bool). if b then InHand id Fresh else stage k) (ne_eqb k n ne))) (law.taken k))
    firings_draw b (Called x j vs) plain = record { taken = fresh_taken }
      where
        fresh_taken : (k : ℕ) → IsTakenBy (if k == n then InHand id Fresh else stage k) (taker k h)
        fresh_taken k = dite (ℕ_discrete k n)
            (λ q. subst (λ (s : Stage). IsTakenBy s (taker k h)) (sym (ap (λ (b : Bool). if b then InHand id Fresh else stage k) (eq-eqb k n q))) (subst (λ (s : Stage). IsTakenBy s (taker k h)) (ap stage q ∙ vacant) (law.taken k)))
            (λ ne. subst (λ (s : Stage). IsTakenBy s (taker k h)) (sym (ap (λ (b : Bool). if b then InHand id Fresh else stage k) (ne_eqb k n ne))) (law.taken k))
    firings_draw b Begun plain = record { taken = law.taken }
    firings_draw b (Made c) plain = record { taken = law.taken }
    firings_draw b (Printed t) plain = record { taken = law.taken }
    firings_draw b (Ended x) plain = record { taken = law.taken }
    firings_draw b (Fired k x ms vs) plain = absurd (plain tt)

    -- a firing is drawn with claims on its members
    pub firings_draw_firing : (k : ℕ) (x : Object) (ms : List ℕ) (vs : List value.Value) → ((i : ℕ) → has i ms ≡ true → (c : Claim) × (stage i ≡ InHand id (Claiming c))) → Firings (entry n n (Fired k x ms vs) ∷ h) (fired_stage id n ms stage)
    firings_draw_firing k x ms vs members = record {
      taken = λ i. dite (ℕ_discrete i n)
          (λ q. elim (either (has i ms)) [
            | inl y ↦ (let r = members i y in let z : Vacant ≡ InHand id (Claiming r.0) = sym vacant ∙ sym (ap stage q) ∙ r.1 in absurd (cc))
            | inr o ↦ rw (eq-eqb i n q, o) (subst (λ (s : Stage). IsTakenBy s (taker i h)) (ap stage q ∙ vacant) (law.taken i))
          ])
          (λ ne. elim (either (has i ms)) [
            | inl y ↦ (let r = members i y in rw (ne_eqb i n ne, y, r.1) refl)
            | inr o ↦ rw (ne_eqb i n ne, o) (law.taken i)
          ]);
    }
