-- Consumed messages leave a bag: a head, or the next of a consumed message, is moved past them.
use Rattle.std.proofs.Common.{◌≡◌, inl, inr, ⊎_elim, ℕ, ◌≤◌, true, false, List, [], ◌∷◌, set, refl, sym, ap, ◌∙◌, subst, arith, Option, Some, None}
use mathlib.Core.Logic.{dite}
use mathlib.Core.Option.{some}
use lib.ListN.{get_elem?}
use native.Mathlib.Decide.{ℕ_discrete}
use Rattle.atomic_table.proofs.Lists.{set_again}
use Rattle.chord_base.specs.Meaning.{Program}
use Rattle.chord_base.specs.declared.event.Entry.{Entry}
use Rattle.chord_base.specs.declared.value.Value as value
use Rattle.chord_word.specs.declared.cells.Cell.TheVariants as a_cell
use Rattle.chord_word.specs.declared.cells.Word.{Word}
use Rattle.chord_rule.specs.declared.view.Duty.{Duty}
use Rattle.chord_rule.specs.declared.view.View.{View}
use Rattle.chord_rule.specs.Moment.{Moment, Home, Place}
use Rattle.chord_rule.specs.Agrees.{Agrees}
use Rattle.chord_rule.specs.Bags.{LinkOrder, Leads, BagLaw, IsArmed, IsConsumed, IsStanding, cell_of, head_number}
use Rattle.chord_rule.specs.Desks.{IsRightDesk}
use Rattle.chord_rule.specs.Duties.{Reaches, Carries, Chosen, DutyLaw}
use Rattle.chord_rule.specs.Kinds.{saw, saw_head}
use Rattle.chord_rule.specs.Looks.{Looks}
use Rattle.chord_rule.specs.Made.{IsKey, IsChord}
use Rattle.chord_rule.specs.Messages.{IsOpen, Stands, Messages}
use Rattle.chord_rule.specs.Stages.{Fresh, Placing, Flying, Claiming, Emptying, Unposted, Posting, Starting, Stage, Vacant, InHand, Armed, Spent, Posted, Played, said_at}
use Rattle.chord_rule.specs.StandsFor.{Unseen}
use Rattle.chord_rule.specs.Ways.{WentPast, WayLaw}
use Rattle.chord_rule.specs.Whole.{Whole}
use Rattle.chord_rule.proofs.Agreeing as agreeing
use Rattle.chord_rule.proofs.AloneSteps.{remembers_head, remembers_cell}
use Rattle.chord_rule.proofs.Lists.{some_is}
use Rattle.chord_rule.proofs.MessageSteps.{messages_one}
use Rattle.chord_rule.proofs.Puts.{put, put_here, put_else, put_all}
use Rattle.chord_rule.proofs.Staging.{moves, rests}
use Rattle.chord_rule.proofs.WaySteps.{past_bag, past_leads, way_stays}
use Rattle.chord_rule.proofs.Wholes as wholes

-- the next of i was moved
abbrev pub bypassed_order : LinkOrder → ℕ → Option ℕ → LinkOrder
bypassed_order o i to = record o { next = put o.next i to }

-- the word of a consumed message with this next
abbrev consumed_word : Option ℕ → Word
consumed_word to = record { cell = a_cell.Consumed; next = to }

module _ (cells : ℕ → Word) (o : LinkOrder) (i : ℕ) (from to : Option ℕ) (is : cells i ≡ consumed_word from) where
  -- the cells afterwards
  abbrev after : ℕ → Word
  after = put cells i (consumed_word to)

  -- the order afterwards
  abbrev o' : LinkOrder
  o' = bypassed_order o i to

  -- what is armed stays armed
  pub stays_armed : (j : ℕ) → IsArmed (cell_of cells j) → IsArmed (cell_of after j)
  stays_armed j a = put_all cells i (consumed_word to) (λ j c. IsArmed (cell_of cells j) → IsArmed c.cell) j (λ _. tt) (λ ne b. b) a

  -- and what is consumed stays consumed
  pub stays_consumed : (j : ℕ) → IsConsumed (cell_of cells j) → IsConsumed (cell_of after j)
  stays_consumed j a = put_all cells i (consumed_word to) (λ j c. IsConsumed (cell_of cells j) → IsConsumed c.cell) j (λ _. tt) (λ ne b. b) a

  -- what is armed was armed
  was_armed : (j : ℕ) → IsArmed (cell_of after j) → IsArmed (cell_of cells j)
  was_armed j a = put_all cells i (consumed_word to) (λ j c. IsArmed c.cell → IsArmed (cell_of cells j)) j (λ _. subst (λ (c : Word). IsArmed c.cell) (sym is) tt) (λ ne b. b) a

  -- what stands stood
  stood : (j : ℕ) → IsStanding (cell_of after j) → IsStanding (cell_of cells j)
  stood j a = put_all cells i (consumed_word to) (λ j c. IsStanding c.cell → IsStanding (cell_of cells j)) j (λ b. absurd b) (λ ne b. b) a

  -- a woken cell stays woken
  stays_woken : (q x : ℕ) → cell_of cells q ≡ a_cell.Woken x → cell_of after q ≡ a_cell.Woken x
  stays_woken q x e = ap (λ (c : Word). c.cell) (put_else cells i (consumed_word to) q (λ same. absurd (let z : a_cell.Consumed ≡ a_cell.Woken x = sym (ap (λ (c : Word). c.cell) is) ∙ sym (ap (cell_of cells) same) ∙ e in cc))) ∙ e

  -- what leads somewhere still does
  leads_still : (k r : ℕ) (x : Option ℕ) → Leads cells o k r x → Leads after o' k r x
  leads_still k r x l = record { inside = l.inside; passes = λ j b ne less. l.passes j b (λ c. ne (stays_consumed j c)) less }

  -- the bags, where the new next leads past consumed messages alone
  pub bypass_bags : (IsKey : ℕ → Type 0) (heads : ℕ → Option ℕ) (k : ℕ) → o.bag i ≡ Some k → Leads cells o k (o.rank i) to → BagLaw IsKey cells heads o → BagLaw IsKey after heads o'
  bypass_bags IsKey heads k bagged lead law = record {
    heads_lead = λ l is. leads_still l o.clock (heads (head_number l)) (law.heads_lead l is);
    nexts_lead = λ j l b. put_all o.next i to (λ j y. o.bag j ≡ Some l → Leads after o' l (o.rank j) y) j
        (λ bi. subst (λ (z : ℕ). Leads after o' z (o.rank i) to) (some_is k l (sym bagged ∙ bi)) (leads_still k (o.rank i) to lead))
        (λ ne bj. leads_still l (o.rank j) (o.next j) (law.nexts_lead j l bj)) b;
    keyed = law.keyed;
    ranked = law.ranked;
    apart = law.apart;
    armed = λ j a. dite (ℕ_discrete j i)
        (λ e. subst (λ (z : ℕ). ((l : ℕ) × (o.bag z ≡ Some l)) × ((after z).next ≡ put o.next i to z)) (sym e) ((k, bagged), ap (λ (c : Word). c.next) (put_here cells i (consumed_word to)) ∙ sym (put_here o.next i to)))
        (λ ne. let r = law.armed j (was_armed j a) in (r.0, ap (λ (c : Word). c.next) (put_else cells i (consumed_word to) j ne) ∙ r.1 ∙ sym (put_else o.next i to j ne)));
  }

  -- what desks have seen
  pub bypass_looks : (views : List View) → Looks cells o views → Looks after o' views
  bypass_looks views law = record {
    seen = λ j v e k next h. let s = law.seen j v e k next h in (
      stays_armed k s.0,
      λ up. dite (ℕ_discrete k i)
          (λ same. absurd (up (stays_consumed k (subst (λ (z : ℕ). IsConsumed (cell_of cells z)) (sym same) (subst (λ (c : Word). IsConsumed c.cell) (sym is) tt)))))
          (λ ne. put_else o.next i to k ne ∙ s.1 (λ c. up (stays_consumed k c))),
    );
  }

  -- a choice was one
  chosen_before : (IsChord : List ℕ → Type 0) (ks xs : List ℕ) → Chosen IsChord after o' ks xs → Chosen IsChord cells o ks xs
  chosen_before IsChord [] [] c = tt
  chosen_before IsChord [] (x ∷ xs) c = absurd c
  chosen_before IsChord (k ∷ ks) [] c = absurd c
  chosen_before IsChord (k ∷ ks) (x ∷ xs) c = (c.0, stood x c.1, chosen_before IsChord ks xs c.2)

  -- a walk reaches what it did
  reaches_still : (place : Option ℕ) (x : ℕ) → Reaches o place x → Reaches o' place x
  reaches_still None x r = r
  reaches_still (Some y) x r = r

  -- a duty carries what it did
  carries_still : (d : Duty) (xs : List ℕ) → Carries o d xs → Carries o' d xs
  carries_still d xs c = record { on = c.on; of = c.of; walks = λ w h x hx ne b. reaches_still w.place x (c.walks w h x hx ne b) }

  -- each choice is named or carried as it was
  pub bypass_duties : (IsChord : List ℕ → Type 0) (views : List View) → DutyLaw IsChord cells views o → DutyLaw IsChord after views o'
  bypass_duties IsChord views law ks xs c = ⊎_elim
      (λ k. inl (k.0, k.1, stays_woken k.0 k.1 k.2, k.3))
      (λ k. inr (k.0, k.1, k.2, k.3, k.4, carries_still k.2 xs k.5))
      (law ks xs (record { chord = c.chord; some = c.some; chosen = chosen_before IsChord ks xs c.chosen }))

  -- each number stands as it did
  pub bypass_messages : {P : Type 0} (h : List Entry) (places : ℕ → Option Place) (homes : ℕ → Home P) (stage : ℕ → Stage) → Messages h cells places homes o stage → Messages h after places homes o' stage
  bypass_messages h places homes stage law = messages_one h cells places homes o stage law i after places homes o' stage (stage i) (consumed_word to) (places i) (homes i) (o.bag i) to
      (rests stage i) (moves cells i (consumed_word to)) (rests places i) (rests homes i) (rests o.bag i) (moves o.next i to) (go (stage i) refl)
    where
      it : (s : Stage) → stage i ≡ s → Stands s (said_at i h) (cells i) (places i) (homes i) (o.bag i) (o.next i)
      it s e = subst (λ (z : Stage). Stands z (said_at i h) (cells i) (places i) (homes i) (o.bag i) (o.next i)) e (law.stands i)

      not : {A : Type 0} (c : Word) → cells i ≡ c → (IsConsumed c.cell → ⊥) → A
      not c e up = absurd (up (subst (λ (z : Word). IsConsumed z.cell) (sym is ∙ e) tt))

      go : (s : Stage) → stage i ≡ s → Stands (stage i) (said_at i h) (consumed_word to) (places i) (homes i) (o.bag i) to
      go Vacant e = not _ (it Vacant e).1.cell (λ z. z)
      go (InHand j Fresh) e = not _ (it (InHand j Fresh) e).1.cell (λ z. z)
      go (InHand j Placing) e = not _ (it (InHand j Placing) e).2 (λ z. z)
      go (InHand j (Flying k a)) e = not _ (it (InHand j (Flying k a)) e).3 (λ z. z)
      go (InHand j (Claiming c)) e = not _ (it (InHand j (Claiming c)) e).2 (λ z. z)
      go (InHand j Emptying) e = let t = it (InHand j Emptying) e in subst (λ (z : Stage). Stands z (said_at i h) (consumed_word to) (places i) (homes i) (o.bag i) to) (sym e) (t.0, t.1, t.2, refl, t.4)
      go (InHand j Unposted) e = not _ (it (InHand j Unposted) e).1.cell (λ z. z)
      go (InHand j Posting) e = not _ (it (InHand j Posting) e).1 (λ z. z)
      go (InHand j Starting) e = absurd (let z : a_cell.Started ≡ a_cell.Consumed = sym (it (InHand j Starting) e).1 ∙ ap (λ (c : Word). c.cell) is in cc)
      go Armed e = absurd (subst (λ (c : Word). IsOpen c.cell) is (it Armed e).3)
      go Spent e = let t = it Spent e in subst (λ (z : Stage). Stands z (said_at i h) (consumed_word to) (places i) (homes i) (o.bag i) to) (sym e) (t.0, t.1, t.2, refl, t.4)
      go Posted e = not _ (it Posted e).1 (λ z. z)
      go Played e = absurd (let z : a_cell.Started ≡ a_cell.Consumed = sym (it Played e).1 ∙ ap (λ (c : Word). c.cell) is in cc)

module _ {P : Type 0} (entries : P → List Entry) (arguments : P → List value.Value) (keeps_to : P → Type 0) (p : Program) (n : ℕ) (small : n ≤ 65536) (m : Moment P) (u : Unseen) (whole : Whole entries arguments keeps_to p n m u)
    (id : ℕ) (v : View) (at : get_elem? m.views id ≡ some v) (here : v.gone ≡ false) where
  -- the first part of the rule holds
  law : Agrees entries arguments keeps_to p n m u
  law = whole.agrees

  -- what holds of the desk that steps
  mine : IsRightDesk n m.count m.cells u.order v
  mine = whole.desks.right id v at

  -- a head is moved past consumed messages to the place to which a way led, from the message at which it still stands
  pub whole_bypass_head : (head i : ℕ) (to : Option ℕ) → m.heads head ≡ Some i → WentPast v i to
      → Whole entries arguments keeps_to p n (record m { heads = put m.heads head to; views = set m.views id (saw_head v head to) }) u
  whole_bypass_head head i to is past = let w : View = saw_head v head to in let base = agreeing.agrees_still entries arguments keeps_to p n small m u law id v at w refl refl refl refl refl refl refl refl in
      wholes.whole_step entries arguments keeps_to p n small m u whole id v at here (record m { heads = put m.heads head to; views = set m.views id w }) u w refl
      (record {
        tabled = base.tabled;
        counting = base.counting;
        firsts = base.firsts;
        stands = record { keeping = base.stands.keeping; hands = base.stands.hands; messages = base.stands.messages; firings = base.stands.firings; younger = base.stands.younger; parcels = base.stands.parcels };
        heads = record { keyed = λ j x s. put_all m.heads head to (λ j y. y ≡ Some x → (l : ℕ) × IsKey u.journal l × (head_number l ≡ j)) j (λ e. law.heads.keyed head i is) (λ ne t. law.heads.keyed j x t) s };
        bags = record {
          heads_lead = λ l key. put_all m.heads head to (λ z y. z ≡ head_number l → Leads m.cells u.order l u.order.clock y) (head_number l)
              (λ e. leads l key (sym e)) (λ ne e. law.bags.heads_lead l key) refl;
          nexts_lead = law.bags.nexts_lead;
          keyed = law.bags.keyed;
          ranked = law.bags.ranked;
          apart = law.bags.apart;
          armed = law.bags.armed;
        };
        tied = base.tied;
        duties = base.duties;
        looks = base.looks;
      })
      refl refl refl (omega arith) (λ j a. a) (λ j c. c) (λ j k b. (b, refl)) (λ j k b. inl b) whole.woken.none whole.places
      (record { armed = mine.armed; ways = mine.ways; told = mine.told; counted = mine.counted; ended = λ e. absurd (let z : true ≡ false = sym e ∙ here in cc) })
      (wholes.none_drawn entries arguments keeps_to p n small m u whole id v at here w refl)
      (λ r. remembers_head m.count m.heads m.cells v.looked r head to)
    where
      way : WayLaw n m.cells u.order past.0
      way = mine.ways past.0 past.1

      leads : (l : ℕ) → IsKey u.journal l → head_number l ≡ head → Leads m.cells u.order l u.order.clock to
      leads l key e =
          let lead = law.bags.heads_lead l key in let inside = lead.inside i (ap m.heads e ∙ is) in
          let same : l ≡ way.along = some_is l way.along (sym inside.0 ∙ past_bag n m.cells u.order past.0 way i past.3) in
          subst (λ (y : ℕ × Option ℕ). Leads m.cells u.order y.0 u.order.clock y.1) (λ c. (sym same c, past.2 c))
          (past_leads n m.cells u.order past.0 way i past.3 u.order.clock (let low = inside.1 in omega (arith, low))
          (λ j b ne less. let t = lead.passes j (b ∙ ap (λ (z : ℕ). Some z) (sym same)) ne less in
          let first : t.0 ≡ i = some_is t.0 i (sym t.1 ∙ ap m.heads e ∙ is) in let rank = ap u.order.rank first in let le = t.2 in omega (arith, le, rank)))

  -- the next of a consumed message is moved past consumed messages to the place to which a way led
  pub whole_bypass_cell : (i : ℕ) (from to : Option ℕ) → m.cells i ≡ consumed_word from → WentPast v i to
      → Whole entries arguments keeps_to p n (record m { cells = put m.cells i (consumed_word to); views = set m.views id (saw v i (consumed_word to)) }) (record u { order = bypassed_order u.order i to })
  whole_bypass_cell i from to is past = let m' : Moment P = record m { cells = put m.cells i (consumed_word to) } in let u' : Unseen = record u { order = bypassed_order u.order i to } in let w : View = saw v i (consumed_word to) in
      wholes.whole_step entries arguments keeps_to p n small m u whole id v at here (record m' { views = set m.views id w }) u' w refl
      (wholes.saw_too entries arguments keeps_to p n small m u whole id v at here m' u' v i (consumed_word to) (put_here m.cells i (consumed_word to))
      (subst (λ (vs : List View). Agrees entries arguments keeps_to p n (record m' { views = vs }) u') (sym (set_again m.views id v at)) agrees))
      refl refl refl (omega arith) (stays_armed m.cells u.order i from to is) (stays_consumed m.cells u.order i from to is) (λ j k b. (b, refl)) (λ j k b. inl b)
      (λ q x e. put_all m.cells i (consumed_word to) (λ q c. c.cell ≡ a_cell.Woken x → ⊥) q (λ s. absurd (cc)) (λ ne s. whole.woken.none q x s) e) whole.places
      (record {
        armed = λ d h. stays_armed m.cells u.order i from to is d.message (mine.armed d h);
        ways = λ y h. way_stays n m.cells (put m.cells i (consumed_word to)) u.order (bypassed_order u.order i to) y (λ j k b. (b, refl)) (λ j k b. inl b) (stays_consumed m.cells u.order i from to is) (mine.ways y h);
        told = mine.told;
        counted = mine.counted;
        ended = λ e. absurd (let z : true ≡ false = sym e ∙ here in cc);
      })
      (wholes.none_drawn entries arguments keeps_to p n small m u whole id v at here w refl)
      (λ r. remembers_cell m.count m.heads m.cells v.looked r i (consumed_word to))
    where
      way : WayLaw n m.cells u.order past.0
      way = mine.ways past.0 past.1

      bagged : u.order.bag i ≡ Some way.along
      bagged = past_bag n m.cells u.order past.0 way i past.3

      lead : Leads m.cells u.order way.along (u.order.rank i) to
      lead = subst (λ (y : Option ℕ). Leads m.cells u.order way.along (u.order.rank i) y) past.2 (past_leads n m.cells u.order past.0 way i past.3 (u.order.rank i) (omega arith) (λ j b ne less. omega (arith, less)))

      agrees : Agrees entries arguments keeps_to p n (record m { cells = put m.cells i (consumed_word to) }) (record u { order = bypassed_order u.order i to })
      agrees = record {
        tabled = law.tabled;
        counting = law.counting;
        firsts = law.firsts;
        stands = record {
          keeping = law.stands.keeping;
          hands = law.stands.hands;
          messages = bypass_messages m.cells u.order i from to is u.journal m.places m.homes u.stage law.stands.messages;
          firings = law.stands.firings;
          younger = law.stands.younger;
          parcels = law.stands.parcels;
        };
        heads = law.heads;
        bags = bypass_bags m.cells u.order i from to is (IsKey u.journal) m.heads way.along bagged lead law.bags;
        tied = law.tied;
        duties = bypass_duties m.cells u.order i from to is (IsChord p) m.views law.duties;
        looks = bypass_looks m.cells u.order i from to is m.views law.looks;
      }
