-- Each kind of step keeps what there is of each number.
use Rattle.std.proofs.Common.{◌≡◌, ◌<◌, ◌≢◌, inl, inr, ℕ, ◌==◌, if◌then◌else◌, List, ◌∷◌, refl, sym, ap, ◌∙◌, subst, Option, Some, None, eq-eqb, ne_eqb}
use mathlib.Core.Logic.{dite}
use mathlib.Core.Option.{some, none}
use native.Mathlib.Decide.{ℕ_discrete}
use Rattle.chord_base.specs.declared.value.Object.{Object}
use Rattle.chord_base.specs.declared.value.Value as value
use Rattle.chord_base.specs.declared.event.What.{What}
use Rattle.chord_base.specs.declared.event.What.TheVariants.{Begun, Made, Sent, Called, Printed, Fired, Ended}
use Rattle.chord_base.specs.declared.event.Entry.{Entry}
use Rattle.chord_base.specs.Messages.{Message, has}
use Rattle.chord_base.proofs.Waits.{either}
use Rattle.chord_word.specs.declared.cells.Cell.TheVariants as a_cell
use Rattle.chord_word.specs.declared.cells.Word.{Word}
use Rattle.chord_rule.specs.declared.view.Claim.{Claim}
use Rattle.chord_rule.specs.Moment.{Home, Place}
use Rattle.chord_rule.specs.Bags.{LinkOrder}
use Rattle.chord_rule.specs.Made.{key}
use Rattle.chord_rule.specs.Messages.{IsOpen, HasNothing, IsLinked, Stands, Messages}
use Rattle.chord_rule.specs.Stages.{Fresh, Placing, Flying, Claiming, Emptying, Unposted, Posting, Starting, Stage, Vacant, InHand, Armed, Spent, Posted, Played, said_at, message_in, IsFiringEntry, claimed_message}
use Rattle.chord_rule.specs.Kinds.{drawn_stage, fired_claim, fired_stage, heir, entry}
use Rattle.chord_rule.proofs.Puts.{put}
use Rattle.chord_rule.proofs.Lists.{some_is}
use Rattle.chord_rule.proofs.BagSteps.{linked_order}
use Rattle.chord_rule.proofs.Staging.{Moves, moves, rests, pending_armed, ready_posted}

-- a claim on the message, for no firing yet
abbrev pub claim_on : ℕ → Option ℕ → Message → Claim
claim_on i next m = record { number = i; next = next; object = m.object; method = m.method; values = m.arguments; firing = None }

module _ {P : Type 0} (h : List Entry) (cells : ℕ → Word) (places : ℕ → Option Place) (homes : ℕ → Home P) (o : LinkOrder) (stage : ℕ → Stage) (law : Messages h cells places homes o stage) where
  -- a step on one number
  pub messages_one : (i : ℕ) (cells' : ℕ → Word) (places' : ℕ → Option Place) (homes' : ℕ → Home P) (o' : LinkOrder) (stage' : ℕ → Stage) (t : Stage) (word : Word) (place : Option Place) (home : Home P) (bag next : Option ℕ)
      → Moves stage stage' i t → Moves cells cells' i word → Moves places places' i place → Moves homes homes' i home → Moves o.bag o'.bag i bag → Moves o.next o'.next i next
      → Stands t (said_at i h) word place home bag next → Messages h cells' places' homes' o' stage'
  messages_one i cells' places' homes' o' stage' t word place home bag next s c p q b n now = record {
    stands = λ k. dite (ℕ_discrete k i)
        (λ e. subst (λ (z : ℕ). Stands (stage' z) (said_at z h) (cells' z) (places' z) (homes' z) (o'.bag z) (o'.next z)) (sym e)
        (subst (λ (y : Stage × Word × Option Place × Home P × Option ℕ × Option ℕ). Stands y.0 (said_at i h) y.1 y.2 y.3 y.4 y.5) (λ z. (sym s.here z, sym c.here z, sym p.here z, sym q.here z, sym b.here z, sym n.here z)) now))
        (λ ne. subst (λ (y : Stage × Word × Option Place × Home P × Option ℕ × Option ℕ). Stands y.0 (said_at k h) y.1 y.2 y.3 y.4 y.5) (λ z. (sym (s.away k ne) z, sym (c.away k ne) z, sym (p.away k ne) z, sym (q.away k ne) z, sym (b.away k ne) z, sym (n.away k ne) z)) (law.stands k));
  }

  module _ (id i : ℕ) where
    -- the number i is in this stage
    abbrev It : Stage → Type 0
    It s = Stands s (said_at i h) (cells i) (places i) (homes i) (o.bag i) (o.next i)

    -- the number i is in its stage
    it : (s : Stage) → stage i ≡ s → It s
    it s e = subst It e (law.stands i)

    -- a message is placed
    pub messages_place : (m : Message) → message_in (said_at i h) ≡ Some m → stage i ≡ InHand id Fresh → Messages h cells (put places i (Some (m.object, m.method))) (put homes i none) o (put stage i (InHand id Placing))
    messages_place m says was = let t = it (InHand id Fresh) was in
        messages_one i cells (put places i (Some (m.object, m.method))) (put homes i none) o (put stage i (InHand id Placing)) (InHand id Placing) (cells i) (Some (m.object, m.method)) none (o.bag i) (o.next i)
        (moves stage i _) (rests cells i) (moves places i _) (moves homes i _) (rests o.bag i) (rests o.next i)
        (m, says, t.1.cell, refl, refl, t.1.unlinked)

    -- it is linked in its bag
    pub messages_link : (m : Message) (k : ℕ) (above : Option ℕ) (q : P) → message_in (said_at i h) ≡ Some m → k ≡ key m.object m.method → m.method < 16 → stage i ≡ InHand id Placing
        → Messages h cells places (put homes i (some (Some q))) (linked_order o i k above) (put stage i (InHand id (Flying k above)))
    messages_link m k above q says to few was = let t = it (InHand id Placing) was in let same : t.0 ≡ m = some_is t.0 m (sym t.1 ∙ says) in
        messages_one i cells places (put homes i (some (Some q))) (linked_order o i k above) (put stage i (InHand id (Flying k above))) (InHand id (Flying k above)) (cells i) (places i) (some (Some q)) (Some k) above
        (moves stage i _) (rests cells i) (rests places i) (moves homes i _) (moves o.bag i _) (moves o.next i _)
        (m, says, record { placed = t.3 ∙ ap (λ (z : Message). Some (z.object, z.method)) same; bagged = ap (λ (z : ℕ). Some z) to; few = few }, t.2, (q, refl), refl, refl)

    -- it is armed
    pub messages_arm : (k : ℕ) (above : Option ℕ) → stage i ≡ InHand id (Flying k above) → Messages h (put cells i (record { cell = a_cell.Pending; next = above })) places homes o (put stage i Armed)
    messages_arm k above was = let t = it (InHand id (Flying k above)) was in
        messages_one i (put cells i (record { cell = a_cell.Pending; next = above })) places homes o (put stage i Armed) Armed (record { cell = a_cell.Pending; next = above }) (places i) (homes i) (o.bag i) (o.next i)
        (moves stage i _) (moves cells i _) (rests places i) (rests homes i) (rests o.bag i) (rests o.next i)
        (t.0, t.1, t.2, tt, t.4)

    -- what is pending is armed
    pub is_armed : (next : Option ℕ) → cells i ≡ record { cell = a_cell.Pending; next = next } → stage i ≡ Armed
    is_armed next e = pending_armed (stage i) (said_at i h) (cells i) (places i) (homes i) (o.bag i) (o.next i) (law.stands i) (ap (λ (w : Word). w.cell) e)

    -- what is ready is posted
    pub is_posted : (cells i).cell ≡ a_cell.Ready → stage i ≡ Posted
    is_posted e = ready_posted (stage i) (said_at i h) (cells i) (places i) (homes i) (o.bag i) (o.next i) (law.stands i) e

    -- and then a message
    pub armed_message : stage i ≡ Armed → (m : Message) × (message_in (said_at i h) ≡ Some m)
    armed_message was = let t = it Armed was in (t.0, t.1)

    -- it is claimed
    pub messages_claim : (m : Message) (next : Option ℕ) → message_in (said_at i h) ≡ Some m → stage i ≡ Armed
        → Messages h (put cells i (record { cell = a_cell.Claimed; next = next })) places homes o (put stage i (InHand id (Claiming (claim_on i next m))))
    messages_claim m next says was = let t = it Armed was in let same : t.0 ≡ m = some_is t.0 m (sym t.1 ∙ says) in
        messages_one i (put cells i (record { cell = a_cell.Claimed; next = next })) places homes o (put stage i (InHand id (Claiming (claim_on i next m)))) (InHand id (Claiming (claim_on i next m))) (record { cell = a_cell.Claimed; next = next }) (places i) (homes i) (o.bag i) (o.next i)
        (moves stage i _) (moves cells i _) (rests places i) (rests homes i) (rests o.bag i) (rests o.next i)
        (says, subst (λ (z : Message). IsLinked z (places i) (o.bag i)) same t.2, refl, t.4)

    -- it is given back
    pub messages_give_back : (c : Claim) → stage i ≡ InHand id (Claiming c) → Messages h (put cells i (record { cell = a_cell.Pending; next = c.next })) places homes o (put stage i Armed)
    messages_give_back c was = let t = it (InHand id (Claiming c)) was in
        messages_one i (put cells i (record { cell = a_cell.Pending; next = c.next })) places homes o (put stage i Armed) Armed (record { cell = a_cell.Pending; next = c.next }) (places i) (homes i) (o.bag i) (o.next i)
        (moves stage i _) (moves cells i _) (rests places i) (rests homes i) (rests o.bag i) (rests o.next i)
        (claimed_message c, t.0, t.1, tt, t.3)

    -- it is consumed
    pub messages_consume : (c : Claim) → stage i ≡ InHand id (Claiming c) → Messages h (put cells i (record { cell = a_cell.Consumed; next = c.next })) places (put homes i none) o (put stage i (InHand id Emptying))
    messages_consume c was = let t = it (InHand id (Claiming c)) was in
        messages_one i (put cells i (record { cell = a_cell.Consumed; next = c.next })) places (put homes i none) o (put stage i (InHand id Emptying)) (InHand id Emptying) (record { cell = a_cell.Consumed; next = c.next }) (places i) none (o.bag i) (o.next i)
        (moves stage i _) (moves cells i _) (rests places i) (moves homes i _) (rests o.bag i) (rests o.next i)
        (claimed_message c, t.0, t.1, refl, refl)

    -- its slot is home again
    pub messages_empty : stage i ≡ InHand id Emptying → Messages h cells places (put homes i (some None)) o (put stage i Spent)
    messages_empty was = let t = it (InHand id Emptying) was in
        messages_one i cells places (put homes i (some None)) o (put stage i Spent) Spent (cells i) (places i) (some None) (o.bag i) (o.next i)
        (moves stage i _) (rests cells i) (rests places i) (moves homes i _) (rests o.bag i) (rests o.next i)
        (t.0, t.1, t.2, t.3, refl)

    -- the slot of a firing comes out
    pub messages_posting : stage i ≡ InHand id Unposted → Messages h cells places (put homes i none) o (put stage i (InHand id Posting))
    messages_posting was = let t = it (InHand id Unposted) was in
        messages_one i cells places (put homes i none) o (put stage i (InHand id Posting)) (InHand id Posting) (cells i) (places i) none (o.bag i) (o.next i)
        (moves stage i _) (rests cells i) (rests places i) (moves homes i _) (rests o.bag i) (rests o.next i)
        (t.0, t.1.cell, t.1.unplaced, refl, t.1.unlinked)

    -- the firing is posted
    pub messages_post : (q : P) → stage i ≡ InHand id Posting → Messages h (put cells i (record { cell = a_cell.Ready; next = None })) places (put homes i (some (Some q))) o (put stage i Posted)
    messages_post q was = let t = it (InHand id Posting) was in
        messages_one i (put cells i (record { cell = a_cell.Ready; next = None })) places (put homes i (some (Some q))) o (put stage i Posted) Posted (record { cell = a_cell.Ready; next = None }) (places i) (some (Some q)) (o.bag i) (o.next i)
        (moves stage i _) (moves cells i _) (rests places i) (moves homes i _) (rests o.bag i) (rests o.next i)
        (t.0, refl, t.2, (q, refl), t.4)

    -- it is started
    pub messages_start : stage i ≡ Posted → Messages h (put cells i (record { cell = a_cell.Started; next = None })) places (put homes i none) o (put stage i (InHand id Starting))
    messages_start was = let t = it Posted was in
        messages_one i (put cells i (record { cell = a_cell.Started; next = None })) places (put homes i none) o (put stage i (InHand id Starting)) (InHand id Starting) (record { cell = a_cell.Started; next = None }) (places i) none (o.bag i) (o.next i)
        (moves stage i _) (moves cells i _) (rests places i) (moves homes i _) (rests o.bag i) (rests o.next i)
        (t.0, refl, t.2, refl, t.4)

    -- its slot is home again
    pub messages_play : stage i ≡ InHand id Starting → Messages h cells places (put homes i (some None)) o (put stage i Played)
    messages_play was = let t = it (InHand id Starting) was in
        messages_one i cells places (put homes i (some None)) o (put stage i Played) Played (cells i) (places i) (some None) (o.bag i) (o.next i)
        (moves stage i _) (rests cells i) (rests places i) (moves homes i _) (rests o.bag i) (rests o.next i)
        (t.0, t.1, t.2, refl, t.4)

    -- a wake, and a rearm
    pub messages_wake : (word : Word) → IsOpen word.cell → stage i ≡ Armed → Messages h (put cells i word) places homes o stage
    messages_wake word open_ was = let t = it Armed was in
        messages_one i (put cells i word) places homes o stage Armed word (places i) (homes i) (o.bag i) (o.next i)
        (record { here = was; away = λ k ne. refl }) (moves cells i _) (rests places i) (rests homes i) (rests o.bag i) (rests o.next i)
        (t.0, t.1, t.2, open_, t.4)

  -- one entry more
  pub messages_more : (e : Entry) (stage' : ℕ → Stage) (t : Stage) → Moves stage stage' e.number t
      → Stands t (Some e.what) (cells e.number) (places e.number) (homes e.number) (o.bag e.number) (o.next e.number) → Messages (e ∷ h) cells places homes o stage'
  messages_more e stage' t s now = record {
    stands = λ k. dite (ℕ_discrete k e.number)
        (λ q. subst (λ (z : ℕ). Stands (stage' z) (said_at z (e ∷ h)) (cells z) (places z) (homes z) (o.bag z) (o.next z)) (sym q)
        (subst (λ (y : Stage × Option What). Stands y.0 y.1 (cells e.number) (places e.number) (homes e.number) (o.bag e.number) (o.next e.number)) (λ z. (sym s.here z, sym (what_new e) z)) now))
        (λ ne. subst (λ (y : Stage × Option What). Stands y.0 y.1 (cells k) (places k) (homes k) (o.bag k) (o.next k)) (λ z. (sym (s.away k ne) z, sym (what_old e k ne) z)) (law.stands k));
  }
    where
      what_new : (e : Entry) → said_at e.number (e ∷ h) ≡ Some e.what
      what_new e = rw (eq-eqb e.number e.number refl) refl

      what_old : (e : Entry) (k : ℕ) → k ≢ e.number → said_at k (e ∷ h) ≡ said_at k h
      what_old e k ne = rw (ne_eqb e.number k (λ q. ne (sym q))) refl

  module _ (id n : ℕ) (vacant : stage n ≡ Vacant) where
    -- nothing was done with the number that is drawn
    nothing : HasNothing (cells n) (places n) (homes n) (o.bag n)
    nothing = (subst (λ (s : Stage). Stands s (said_at n h) (cells n) (places n) (homes n) (o.bag n) (o.next n)) vacant (law.stands n)).1

    -- a choice by the number that is drawn changes its stage alone
    chosen : (t : Stage) → Moves stage (λ i. if i == n then t else stage i) n t
    chosen t = record { here = rw (eq-eqb n n refl) refl; away = λ k ne. rw (ne_eqb k n ne) refl }

    -- where the stages stay, the number that is drawn stays vacant
    still : Moves stage stage n Vacant
    still = record { here = vacant; away = λ k ne. refl }

    -- an entry is drawn that is no firing
    pub messages_draw : (b : ℕ) (what : What) → ¬ IsFiringEntry (Some what) → Messages (entry n b what ∷ h) cells places homes o (drawn_stage id n what stage)
    messages_draw b (Sent x j vs) plain = messages_more (entry n b (Sent x j vs)) (drawn_stage id n (Sent x j vs) stage) (InHand id Fresh) (chosen (InHand id Fresh)) ((record { object = x; method = j; arguments = vs }, refl), nothing)
    messages_draw b (Called x j vs) plain = messages_more (entry n b (Called x j vs)) (drawn_stage id n (Called x j vs) stage) (InHand id Fresh) (chosen (InHand id Fresh)) ((record { object = x; method = j; arguments = vs }, refl), nothing)
    messages_draw b Begun plain = messages_more (entry n b Begun) stage Vacant still (tt, nothing)
    messages_draw b (Made c) plain = messages_more (entry n b (Made c)) stage Vacant still (tt, nothing)
    messages_draw b (Printed t) plain = messages_more (entry n b (Printed t)) stage Vacant still (tt, nothing)
    messages_draw b (Ended x) plain = messages_more (entry n b (Ended x)) stage Vacant still (tt, nothing)
    messages_draw b (Fired k x ms vs) plain = absurd (plain tt)

-- a claim stands as before when its firing was drawn
stands_fired : {P : Type 0} (f : ℕ) (s : Stage) (what : Option What) (word : Word) (place : Option Place) (home : Home P) (bag next : Option ℕ) → Stands s what word place home bag next → Stands (fired_claim f s) what word place home bag next
stands_fired f (InHand j (Claiming c)) what word place home bag next t = t
stands_fired f (InHand j Fresh) what word place home bag next t = t
stands_fired f (InHand j Placing) what word place home bag next t = t
stands_fired f (InHand j (Flying k a)) what word place home bag next t = t
stands_fired f (InHand j Emptying) what word place home bag next t = t
stands_fired f (InHand j Unposted) what word place home bag next t = t
stands_fired f (InHand j Posting) what word place home bag next t = t
stands_fired f (InHand j Starting) what word place home bag next t = t
stands_fired f Vacant what word place home bag next t = t
stands_fired f Armed what word place home bag next t = t
stands_fired f Spent what word place home bag next t = t
stands_fired f Posted what word place home bag next t = t
stands_fired f Played what word place home bag next t = t

-- what another desk has in hand stands as before
stands_heir : {P : Type 0} (id other : ℕ) (s : Stage) (what : Option What) (word : Word) (place : Option Place) (home : Home P) (bag next : Option ℕ) → Stands s what word place home bag next → Stands (heir id other s) what word place home bag next
stands_heir id other (InHand j x) what word place home bag next t = t
stands_heir id other Vacant what word place home bag next t = t
stands_heir id other Armed what word place home bag next t = t
stands_heir id other Spent what word place home bag next t = t
stands_heir id other Posted what word place home bag next t = t
stands_heir id other Played what word place home bag next t = t

module _ {P : Type 0} (h : List Entry) (cells : ℕ → Word) (places : ℕ → Option Place) (homes : ℕ → Home P) (o : LinkOrder) (stage : ℕ → Stage) (law : Messages h cells places homes o stage) where
  -- a desk is joined
  pub messages_join : (id other : ℕ) → Messages h cells places homes o (λ i. heir id other (stage i))
  messages_join id other = record { stands = λ i. stands_heir id other (stage i) (said_at i h) (cells i) (places i) (homes i) (o.bag i) (o.next i) (law.stands i) }

  -- the firing is in no stage yet
  claims_fired : (f : ℕ) (ms : List ℕ) → Messages h cells places homes o (λ i. if has i ms then fired_claim f (stage i) else stage i)
  claims_fired f ms = record {
    stands = λ i. elim (either (has i ms)) [
      | inl y ↦ subst (λ (s : Stage). Stands s (said_at i h) (cells i) (places i) (homes i) (o.bag i) (o.next i)) (rw y refl) (stands_fired f (stage i) (said_at i h) (cells i) (places i) (homes i) (o.bag i) (o.next i) (law.stands i))
      | inr n ↦ subst (λ (s : Stage). Stands s (said_at i h) (cells i) (places i) (homes i) (o.bag i) (o.next i)) (rw n refl) (law.stands i)
    ];
  }

  -- a firing is drawn
  pub messages_draw_firing : (id f k : ℕ) (x : Object) (ms : List ℕ) (vs : List value.Value) → stage f ≡ Vacant → Messages (entry f f (Fired k x ms vs) ∷ h) cells places homes o (fired_stage id f ms stage)
  messages_draw_firing id f k x ms vs vacant =
      messages_more h cells places homes o (λ i. if has i ms then fired_claim f (stage i) else stage i) (claims_fired f ms) (entry f f (Fired k x ms vs)) (fired_stage id f ms stage) (InHand id Unposted)
      record { here = rw (eq-eqb f f refl) refl; away = λ i ne. rw (ne_eqb i f ne) refl }
      (tt, nothing h cells places homes o stage law id f vacant)
