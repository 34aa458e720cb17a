-- What looks and rests ask of the table.
use Rattle.std.proofs.Common.{◌≡◌, inl, ⊎_elim, false, ℕ, ◌<◌, ◌≤◌, List, [], ◌∷◌, set, refl, sym, ap, ◌∙◌, subst, arith, Option, Some}
use mathlib.Core.Option.{none, some}
use lib.ListN.{get_elem?}
use Rattle.atomic_table.specs.Table.{State, Allows, Me, keeps, step}
use Rattle.chord_base.specs.Meaning.{Program}
use Rattle.chord_base.specs.declared.value.Object.{Object}
use Rattle.chord_base.specs.declared.value.Value as value
use Rattle.chord_base.specs.declared.event.Entry.{Entry}
use Rattle.chord_word.specs.declared.cells.Word.{Word}
use Rattle.chord_word.specs.Cells.{word_of, WordFits}
use Rattle.chord_rule.specs.declared.view.Duty.{Duty}
use Rattle.chord_rule.specs.declared.view.View.{View}
use Rattle.chord_rule.specs.Heading.{WasPlace}
use Rattle.chord_rule.specs.Layout.{cell_at, place_at, head_at}
use Rattle.chord_rule.specs.Moment.{Moment, Place, word_at_place}
use Rattle.chord_rule.specs.Bags.{IsArmed, cell_of, head_number}
use Rattle.chord_rule.specs.Duties.{HasDuty, MayRest}
use Rattle.chord_rule.specs.Kinds.{saw_count, looked_head, looked_cell, rested}
use Rattle.chord_rule.specs.Made.{key, IsChord}
use Rattle.chord_rule.specs.StandsFor.{Unseen}
use Rattle.chord_rule.specs.Stages.{InHand, Claiming}
use Rattle.chord_rule.specs.Tells.{IsLook, looks_count, looks_head, looks_cell, looks_place, rests}
use Rattle.chord_rule.specs.Ways.{IsAt, HasDutyOn, HasWay, HasLooksLeft, WereLinked, WayLaw}
use Rattle.chord_rule.specs.declared.view.Way.{Way}
use Rattle.chord_rule.specs.Whole.{Held, Whole}
use Rattle.chord_rule.proofs.Agreeing as agreeing
use Rattle.chord_rule.proofs.Bridge.{after_act, counter_step, load_cell, load_head, load_place}
use Rattle.chord_rule.proofs.KeySteps.{head_key}
use Rattle.chord_rule.proofs.Knowing as knowing
use Rattle.chord_rule.proofs.Lists.{some_is}
use Rattle.chord_rule.proofs.Moving.{unmoved}
use Rattle.chord_rule.proofs.Naming as naming
use Rattle.chord_rule.proofs.Puts.{at_inside}
use Rattle.chord_rule.proofs.Spreading.{spread_one}
use Rattle.chord_rule.proofs.WaySteps.{way_room, linked_numbers, were_linked}
use Rattle.chord_rule.proofs.Standing as standing
use Rattle.chord_rule.proofs.Wholes as wholes
use Rattle.atomic_table.proofs.Lists.{set_here}

module _ {P : Type 0} (entries : P → List Entry) (arguments : P → List value.Value) (keeps_to : P → Type 0) (p : Program) (n width : ℕ) (any : 0 < n) (small : n ≤ 65536) where
  -- the rule at a moment
  abbrev W : Moment P → Unseen → Type 0
  W = Whole entries arguments keeps_to p n

  -- the table shows a moment that meets the rule
  abbrev H : State (Option P) View → Type 0
  H = Held entries arguments keeps_to p n width

  -- a look at the counter
  pub look_count_step : (id : ℕ) (me : Me (Option P) View) → me.0.gone ≡ false → Allows H n id me 0 (λ x. x) (looks_count (step n 0 0 0 none) me)
  look_count_step id me live = counter_step Unseen W n width id me (λ x. x) (looks_count (step n 0 0 0 none) me)
      (λ m u whole at fits. (
        saw_count me.0 m.count,
        keeps,
        u,
        tt,
        wholes.whole_look_count entries arguments keeps_to p n small m u whole id me.0 at live,
        (refl, standing.desk_below entries arguments keeps_to p n m u whole.agrees.stands id me.0 at, (whole.desks.right id me.0 at).counted),
      ))

  -- the ways of a desk have room
  room_of : (m : Moment P) (u : Unseen) (id : ℕ) (v w : View) → get_elem? m.views id ≡ some v → W (record m { views = set m.views id w }) u → ((x : Way) → HasWay x w.looked.ways → WayLaw n m.cells u.order x)
  room_of m u id v w at after_act = (after_act.desks.right id w (set_here m.views id w (at_inside m.views id v at))).ways

  -- a look at the head of a bag
  pub look_head_step : (id : ℕ) (me : Me (Option P) View) (o : Object) (j : ℕ) → me.0.gone ≡ false → o.number < n → j < width → width ≤ 16
      → Allows H n id me (head_at n width o.number j) (λ x. x) (looks_head entries arguments keeps_to p o j (step n (head_at n width o.number j) 0 0 none) me)
  look_head_step id me o j live low few most = load_head Unseen W n width id me o.number j (head_number (key o j)) (looks_head entries arguments keeps_to p o j (step n (head_at n width o.number j) 0 0 none) me) low few (head_key o j (omega arith) (omega arith))
      (λ m u whole at fits. let h = m.heads (head_number (key o j)) in let are = linked m u whole at in let is = linked_numbers n u.order (head_number (key o j)) in let w : View = looked_head me.0 (key o j) is h in (
        w,
        keeps,
        u,
        tt,
        wholes.whole_look_head entries arguments keeps_to p n small m u whole id me.0 at live (key o j) is are,
        (
          h,
          is,
          refl,
          fits,
          refl,
          way_room n m.cells u.order w.looked.ways (room_of m u id me.0 w at (wholes.whole_look_head entries arguments keeps_to p n small m u whole id me.0 at live (key o j) is are)),
          record { moment = m; unseen = u; rule = whole; desk = (id, at); read = refl; linked = are },
        ),
      ))
    where
      linked : (m : Moment P) (u : Unseen) → W m u → get_elem? m.views id ≡ some me.0 → WereLinked u.order (head_number (key o j)) (linked_numbers n u.order (head_number (key o j)))
      linked m u whole at = were_linked n u.order (head_number (key o j)) (wholes.linked_below entries arguments keeps_to p n small m u whole id me.0 at live)

  -- a look at a cell
  pub look_cell_step : (id : ℕ) (me : Me (Option P) View) (i : ℕ) → me.0.gone ≡ false → i < n → Allows H n id me (cell_at i) (λ x. x) (looks_cell (step n (cell_at i) 0 0 none) me)
  look_cell_step id me i live low = load_cell Unseen W n width id me i (looks_cell (step n (cell_at i) 0 0 none) me) low
      (λ m u whole at good. let w : View = looked_cell me.0 i (m.cells i) in let after_act = wholes.whole_look_cell entries arguments keeps_to p n small m u whole id me.0 at live i in (
        w,
        keeps,
        u,
        tt,
        wholes.whole_look_cell entries arguments keeps_to p n small m u whole id me.0 at live i,
        (λ j e. let same : i ≡ j = spread_one i j (omega arith) in subst (λ (k : ℕ). (c : Word) × WordFits c × (word_of (m.cells i) ≡ word_of c) × IsLook n me.0 w k c × (me.1 ≡ me.1)) same (m.cells i, good, refl, tells m u whole at w refl after_act, refl)),
      ))
    where
      on_way_bag : (m : Moment P) (u : Unseen) (whole : W m u) (at : get_elem? m.views id ≡ some me.0) → (ws : List Way) → ((x : Way) → HasWay x ws → WayLaw n m.cells u.order x) → IsAt i ws → (k : ℕ) × (u.order.bag i ≡ Some k)
      on_way_bag m u whole at [] law t = absurd t
      on_way_bag m u whole at (w ∷ ws) law t = let l = law w (inl refl) in (l.along, (l.place i t).0)

      duty_bag : (m : Moment P) (u : Unseen) (whole : W m u) (at : get_elem? m.views id ≡ some me.0) → HasDutyOn i me.0.duties → (k : ℕ) × (u.order.bag i ≡ Some k)
      duty_bag m u whole at d = (d.0.bag, sym (ap u.order.bag d.2) ∙ whole.agrees.tied.duties id me.0 at d.0 d.1)

      tells : (m : Moment P) (u : Unseen) (whole : W m u) (at : get_elem? m.views id ≡ some me.0) (w : View) → w ≡ looked_cell me.0 i (m.cells i) → W (record m { views = set m.views id (looked_cell me.0 i (m.cells i)) }) u → IsLook n me.0 w i (m.cells i)
      tells m u whole at w is after_act = let right = whole.desks.right id me.0 at in record {
        looked = is;
        room = subst (λ (y : View). HasLooksLeft n y.looked.ways) (sym is) (way_room n m.cells u.order (looked_cell me.0 i (m.cells i)).looked.ways (room_of m u id me.0 (looked_cell me.0 i (m.cells i)) at after_act));
        linked = λ t. let b = on_way_bag m u whole at me.0.looked.ways right.ways t in wholes.linked_cell entries arguments keeps_to p n small m u whole id me.0 at live i b.0 b.1;
        armed = λ d. subst (λ (k : ℕ). IsArmed (cell_of m.cells k)) d.2 (right.armed d.0 d.1);
        within = λ a x e. wholes.next_below entries arguments keeps_to p n small m u whole id me.0 at live i x a e;
        alone = λ a t. let b = ⊎_elim (on_way_bag m u whole at me.0.looked.ways right.ways) (duty_bag m u whole at) t in knowing.settled entries arguments keeps_to p n small m u whole id me.0 at live a i b.0 b.1;
      }

  -- a look at a place word
  pub look_place_step : (id : ℕ) (me : Me (Option P) View) (i : ℕ) → i < n → Allows H n id me (place_at n i) (λ x. x) (looks_place entries arguments keeps_to p (step n (place_at n i) 0 0 none) me)
  look_place_step id me i low = load_place Unseen W n width id me i (looks_place entries arguments keeps_to p (step n (place_at n i) 0 0 none) me) low
      (λ m u whole at good. (
        me.0,
        keeps,
        u,
        tt,
        unmoved entries arguments keeps_to p n width any small m u whole id me.0 at,
        (
          refl,
          (λ j e. let same : i ≡ j = spread_one i j (omega arith) in (
            m.places i,
            refl,
            good,
            (λ q s. whole.places.within i q s),
            (λ d h is. let t = placed m u whole at d.message d.bag (whole.agrees.tied.duties id me.0 at d h) in (t.0, ap m.places (same ∙ sym is) ∙ t.1, t.2)),
            (λ c h is. ap m.places (same ∙ sym is) ∙ (agreeing.it entries arguments keeps_to p n small m u whole.agrees id me.0 at c.number (InHand id (Claiming c)) (whole.agrees.stands.hands.holds id me.0 at c.number (Claiming c) (h, refl))).1.placed),
            subst (λ (k : ℕ). WasPlace entries arguments keeps_to p n me.0 k (m.places i)) same (was_place m u whole at),
          )),
        ),
      ))
    where
      -- what stood in the place word, and whose it is
      was_place : (m : Moment P) (u : Unseen) (whole : W m u) (at : get_elem? m.views id ≡ some me.0) → WasPlace entries arguments keeps_to p n me.0 i (m.places i)
      was_place m u whole at = record {
        moment = m;
        unseen = u;
        rule = whole;
        desk = (id, at);
        read = refl;
        word = word_at_place (m.places i);
        stood = refl;
        unset = λ e. ap word_at_place e;
        zero_unset = naming.zero_unset (m.places i);
        message = λ q e. let t = naming.placed_is u.journal m.cells m.places m.homes u.order u.stage whole.agrees.stands.messages i q e in (t.0, naming.says_message u.journal i t.0 t.1, t.2);
      }

      -- a linked message has a place word, which names its bag
      placed : (m : Moment P) (u : Unseen) (whole : W m u) (at : get_elem? m.views id ≡ some me.0) (k l : ℕ) → u.order.bag k ≡ Some l → (q : Place) × (m.places k ≡ Some q) × (l ≡ key q.0 q.1)
      placed m u whole at k l b = let t = naming.linked_is u.journal m.cells m.places m.homes u.order u.stage whole.agrees.stands.messages k l b in ((t.0.object, t.0.method), t.2.placed, some_is l (key t.0.object t.0.method) (sym b ∙ t.2.bagged))

  -- a duty is laid down: each duty on this message in one of its bags may rest
  pub rest_step : (id : ℕ) (me : Me (Option P) View) (d : Duty) → me.0.gone ≡ false → HasDuty d me.0.duties → ((e : Duty) → HasDuty e me.0.duties → e.message ≡ d.message → e.bag ≡ d.bag → MayRest (IsChord p) e)
      → Allows H n id me (place_at n 0) (λ x. x) (rests d.message (step n (place_at n 0) 0 0 none) me)
  rest_step id me d live has may = load_place Unseen W n width id me 0 (rests d.message (step n (place_at n 0) 0 0 none) me) any
      (λ m u whole at fits. (
        rested me.0 d.message,
        keeps,
        u,
        tt,
        wholes.whole_rest entries arguments keeps_to p n small m u whole id me.0 at live d.message
            (λ e h is. may e h is (some_is e.bag d.bag (sym (whole.agrees.tied.duties id me.0 at e h) ∙ ap u.order.bag is ∙ whole.agrees.tied.duties id me.0 at d has))),
        refl,
      ))
