-- What the bag law asks of each kind of step, the table gives that stands for its journal.
use Rattle.std.proofs.Common.{◌≡◌, ℕ, ◌<◌, ◌≤◌, List, ◌∷◌, refl, sym, ap, ◌∙◌, subst, arith, Option, Some, None}
use mathlib.Core.Path.{Path}
use mathlib.Core.Option.{some}
use lib.ListN.{get_elem?}
use Rattle.chord_base.specs.Meaning.{Program}
use Rattle.chord_base.specs.Machine.{IsPast}
use Rattle.chord_base.specs.Messages.{Message, message_of}
use Rattle.chord_base.specs.declared.value.Value as value
use Rattle.chord_base.specs.declared.event.What.{What}
use Rattle.chord_base.specs.declared.event.Entry.{Entry}
use Rattle.chord_word.specs.declared.cells.Cell.TheVariants as a_cell
use Rattle.chord_word.specs.declared.cells.Word.{Word}
use Rattle.chord_rule.specs.declared.view.Claim.{Claim}
use Rattle.chord_rule.specs.declared.view.View.{View}
use Rattle.chord_rule.specs.Moment.{Moment, LinkOk}
use Rattle.chord_rule.specs.Kinds.{entry}
use Rattle.chord_rule.specs.Claims.{HasThe}
use Rattle.chord_rule.specs.Bags.{head_number, IsConsumed, BagLaw}
use Rattle.chord_rule.specs.Heads.{HeadLaw}
use Rattle.chord_rule.specs.Made.{IsTabled, key, IsKey}
use Rattle.chord_rule.specs.Stages.{Fresh, Placing, Flying, Claiming, Emptying, Unposted, Posting, Starting, Stage, Vacant, InHand, Armed, Spent, Posted, Played, said_at, message_in, claimed_message}
use Rattle.chord_rule.specs.Messages.{Stands}
use Rattle.chord_rule.specs.StandsFor.{Unseen, StandsForJournal}
use Rattle.chord_rule.proofs.Puts.{put}
use Rattle.chord_rule.proofs.Lists.{some_is}
use Rattle.chord_base.specs.declared.value.Object.{Object}
use Rattle.chord_rule.proofs.BagSteps.{cell_step, claim_bag, give_bag, take_bag, link_bag, linked_order}
use Rattle.chord_rule.proofs.KeySteps.{one_key, same_key, made_in, message_names, made_low, bags_draw, heads_draw, heads_link}
use Rattle.chord_rule.proofs.Waiting.{what_entry}
use Rattle.chord_rule.proofs.Standing.{claim_word, number_low}

module _ {P : Type 0} (entries : P → List Entry) (arguments : P → List value.Value) (keeps_to : P → Type 0) (p : Program) (n : ℕ) (small : n ≤ 65536) (m : Moment P) (u : Unseen)
    (law : StandsForJournal entries arguments keeps_to p n m u) (heads : HeadLaw (IsKey u.journal) m.heads) (bags : BagLaw (IsKey u.journal) m.cells m.heads u.order) where
  -- the journal is a run, newest entry first
  past : IsPast p u.journal
  past = law.keeping.merged.past

  -- the number i is in this stage
  abbrev It : ℕ → Stage → Type 0
  It i s = Stands s (said_at i u.journal) (m.cells i) (m.places i) (m.homes i) (u.order.bag i) (u.order.next i)

  -- each number is in its stage
  it : (i : ℕ) (s : Stage) → u.stage i ≡ s → It i s
  it i s e = subst (It i) e (law.messages.stands i)

  -- the bag law with these cells
  abbrev Bags' : (ℕ → Word) → Type 0
  Bags' cells = BagLaw (IsKey u.journal) cells m.heads u.order

  -- an entry is drawn
  pub bag_draw : (b : ℕ) (what : What) → m.count < n → HeadLaw (IsKey (entry m.count b what ∷ u.journal)) m.heads × BagLaw (IsKey (entry m.count b what ∷ u.journal)) m.cells m.heads u.order
  bag_draw b what room = (heads_draw m.cells m.heads u.order u.journal (entry m.count b what) heads, bags_draw m.cells m.heads u.order p u.journal (entry m.count b what) past (let l = law.keeping.long in omega arith) heads bags)

  -- the bag of a message
  pub message_key : IsTabled p → (i : ℕ) (x : Message) → message_in (said_at i u.journal) ≡ Some x → x.method < 16 → IsKey u.journal (key x.object x.method)
  message_key tabled i x says method = with_entry (said_at i u.journal) refl says
    where
      with_entry : (w : Option What) → said_at i u.journal ≡ w → message_in w ≡ Some x → IsKey u.journal (key x.object x.method)
      with_entry None e s = absurd (let z : Path (Option Message) None (Some x) = s in cc)
      with_entry (Some w) e s =
          let t = what_entry u.journal i w e in
          let made = made_in u.journal t.0 x.object (tabled.made u.journal past) t.1 (message_names t.0.what x (ap message_of t.3 ∙ s)) in
          let low = made_low p u.journal x.object past made in let k = law.keeping.long in
          (x.object, x.method, made, (omega arith), method, refl)

  -- the object of a message has a number of the table
  made_low_of : IsTabled p → (i : ℕ) (x : Message) → message_in (said_at i u.journal) ≡ Some x → x.object.number < 65536
  made_low_of tabled i x says = with_entry (said_at i u.journal) refl says
    where
      with_entry : (w : Option What) → said_at i u.journal ≡ w → message_in w ≡ Some x → x.object.number < 65536
      with_entry None e s = absurd (let z : Path (Option Message) None (Some x) = s in cc)
      with_entry (Some w) e s =
          let t = what_entry u.journal i w e in
          let low = made_low p u.journal x.object past (made_in u.journal t.0 x.object (tabled.made u.journal past) t.1 (message_names t.0.what x (ap message_of t.3 ∙ s))) in let k = law.keeping.long in omega arith

  -- what is linked is a number of the table
  pub linked_low : (y k : ℕ) (s : Stage) → u.stage y ≡ s → u.order.bag y ≡ Some k → y < n
  linked_low y k Vacant e b = absurd (let z = sym (it y Vacant e).1.unlinked ∙ b in cc)
  linked_low y k (InHand j Fresh) e b = absurd (let z = sym (it y (InHand j Fresh) e).1.unlinked ∙ b in cc)
  linked_low y k (InHand j Placing) e b = let t = it y (InHand j Placing) e in number_low entries arguments keeps_to p n m u law y t.0 t.1
  linked_low y k (InHand j (Flying l a)) e b = let t = it y (InHand j (Flying l a)) e in number_low entries arguments keeps_to p n m u law y t.0 t.1
  linked_low y k (InHand j (Claiming c)) e b = let t = it y (InHand j (Claiming c)) e in number_low entries arguments keeps_to p n m u law y (claimed_message c) t.0
  linked_low y k (InHand j Emptying) e b = let t = it y (InHand j Emptying) e in number_low entries arguments keeps_to p n m u law y t.0 t.1
  linked_low y k (InHand j Unposted) e b = absurd (let z = sym (it y (InHand j Unposted) e).1.unlinked ∙ b in cc)
  linked_low y k (InHand j Posting) e b = absurd (let z = sym (it y (InHand j Posting) e).4 ∙ b in cc)
  linked_low y k (InHand j Starting) e b = absurd (let z = sym (it y (InHand j Starting) e).4 ∙ b in cc)
  linked_low y k Armed e b = let t = it y Armed e in number_low entries arguments keeps_to p n m u law y t.0 t.1
  linked_low y k Spent e b = let t = it y Spent e in number_low entries arguments keeps_to p n m u law y t.0 t.1
  linked_low y k Posted e b = absurd (let z = sym (it y Posted e).4 ∙ b in cc)
  linked_low y k Played e b = absurd (let z = sym (it y Played e).4 ∙ b in cc)

  -- a message is linked
  pub bag_link : IsTabled p → (id i : ℕ) (x : Message) → message_in (said_at i u.journal) ≡ Some x → x.method < 16 → u.stage i ≡ InHand id Placing
      → (let k = key x.object x.method in HeadLaw (IsKey u.journal) (put m.heads (head_number k) (Some i)) × BagLaw (IsKey u.journal) m.cells (put m.heads (head_number k) (Some i)) (linked_order u.order i k (m.heads (head_number k))))
  bag_link tabled id i x says method was =
      let is = message_key tabled i x says method in let t = it i (InHand id Placing) was in (
        heads_link (IsKey u.journal) m.heads (key x.object x.method) i is heads,
        link_bag (IsKey u.journal) (one_key p u.journal past) m i (key x.object x.method) u.order is t.5 (ap (λ (w : Word). w.cell) t.2) bags,
      )

  module _ (id : ℕ) (v : View) (at : get_elem? m.views id ≡ some v) where
    -- it is armed
    pub bag_arm : (i : ℕ) → v.flight ≡ Some i → Bags' (put m.cells i (record { cell = a_cell.Pending; next = v.above }))
    bag_arm i flying = let t = it i (InHand id (Flying v.bag v.above)) (law.hands.holds id v at i (Flying v.bag v.above) (flying, refl, refl)) in
        cell_step (IsKey u.journal) m i (record { cell = a_cell.Pending; next = v.above }) u.order (λ c. absurd (subst (λ (w : Word). IsConsumed w.cell) t.3 c)) (λ _. ((v.bag, t.5), sym t.6)) bags

    -- what it is linked above is a number of the table
    pub above_low : (i : ℕ) → v.flight ≡ Some i → LinkOk v.above
    above_low i flying = let t = it i (InHand id (Flying v.bag v.above)) (law.hands.holds id v at i (Flying v.bag v.above) (flying, refl, refl)) in go v.above t.6 t.5
      where
        go : (a : Option ℕ) → u.order.next i ≡ a → u.order.bag i ≡ Some v.bag → LinkOk a
        go None e b = tt
        go (Some y) e b =
            let inside = (bags.nexts_lead i v.bag b).inside y e in
            (let l = linked_low y v.bag (u.stage y) refl inside.0 in omega arith)

    -- it is given back
    pub bag_give_back : (c : Claim) → HasThe c v.claims → Bags' (put m.cells c.number (record { cell = a_cell.Pending; next = c.next }))
    bag_give_back c has = give_bag (IsKey u.journal) m c.number c.next u.order (claim_word entries arguments keeps_to p n m u law id v at c has) bags

    -- it is consumed
    pub bag_consume : (c : Claim) → HasThe c v.claims → Bags' (put m.cells c.number (record { cell = a_cell.Consumed; next = c.next }))
    bag_consume c has = take_bag (IsKey u.journal) m c.number c.next u.order (claim_word entries arguments keeps_to p n m u law id v at c has) bags

    -- a firing is posted
    pub bag_post : (f : ℕ) → v.posting ≡ Some f → Bags' (put m.cells f (record { cell = a_cell.Ready; next = None }))
    bag_post f posting = let t = it f (InHand id Posting) (law.hands.holds id v at f Posting posting) in
        cell_step (IsKey u.journal) m f (record { cell = a_cell.Ready; next = None }) u.order (λ c. subst (λ (w : Word). IsConsumed w.cell) t.1 c) (λ a. absurd a) bags

  -- a claim on a message of this bag is a claim on a message to this object and method
  pub claim_of_bag : IsTabled p → (id : ℕ) (v : View) → get_elem? m.views id ≡ some v → (c : Claim) (object : Object) (method : ℕ) → HasThe c v.claims → u.order.bag c.number ≡ Some (key object method) → object.number < 65536 → method < 16
      → (c.object ≡ object) × (c.method ≡ method)
  claim_of_bag tabled id v at c object method has bag low few =
      let t = it c.number (InHand id (Claiming c)) (law.hands.holds id v at c.number (Claiming c) (has, refl)) in
      let made = made_low_of tabled c.number (claimed_message c) t.0 in
      same_key c.object object c.method method made t.1.few low few (some_is (key c.object c.method) (key object method) (sym t.1.bagged ∙ bag))

  -- it is claimed
  pub bag_claim : (i : ℕ) (next : Option ℕ) → m.cells i ≡ record { cell = a_cell.Pending; next = next } → Bags' (put m.cells i (record { cell = a_cell.Claimed; next = next }))
  bag_claim i next is = claim_bag (IsKey u.journal) m i next u.order is bags

  -- a firing is started
  pub bag_start : (f : ℕ) → (m.cells f).cell ≡ a_cell.Ready → Bags' (put m.cells f (record { cell = a_cell.Started; next = None }))
  bag_start f is = cell_step (IsKey u.journal) m f (record { cell = a_cell.Started; next = None }) u.order (λ c. subst IsConsumed is c) (λ a. absurd a) bags
