-- What the steps on messages ask of the table.
use Rattle.std.proofs.Common.{◌≡◌, ◌⊎◌, false, ℕ, ◌+◌, ◌%◌, ◌^◌, ◌<◌, ◌≤◌, eqb, List, [], ◌∷◌, ◌++◌, true, set, slice_get, refl, sym, ap, ◌∙◌, subst, arith, Option, Some, None}
use mathlib.Core.Option.{none, some}
use native.Mathlib.Decide.{dec_le}
use lib.ListN.{get_elem?}
use prog.Atomic.{either}
use Rattle.atomic_table.specs.Table.{State, Act, Allows, Splits, Joins, Me, carried_after, keeps, takes, gives, step}
use Rattle.atomic_table.proofs.Lists.{set_again, set_else, set_here}
use Rattle.chord_base.specs.Meaning.{Program}
use Rattle.chord_base.specs.Bodies.{doing}
use Rattle.chord_base.specs.Messages.{Message, message_of, IsCall}
use Rattle.chord_base.specs.Story.{IsIn, AllBelow}
use Rattle.chord_base.specs.declared.value.Object.{Object}
use Rattle.chord_base.specs.declared.value.Value as value
use Rattle.chord_base.specs.declared.event.What.TheVariants.{Begun, Fired}
use Rattle.chord_base.specs.declared.event.Entry.{Entry}
use Rattle.chord_word.specs.declared.cells.Cell.{Cell}
use Rattle.chord_word.specs.declared.cells.Cell.TheVariants as a_cell
use Rattle.chord_word.specs.declared.cells.Word.{Word}
use Rattle.chord_word.specs.Cells.{word_of, link_of, WordFits, NextFits}
use Rattle.chord_word.specs.Places.{place_word, PlaceFits}
use Rattle.chord_rule.specs.declared.view.Claim.{Claim}
use Rattle.chord_rule.specs.declared.view.View.{View}
use Rattle.chord_rule.specs.Layout.{cell_at, place_at, head_at}
use Rattle.chord_rule.specs.Moment.{Moment, LinkOk}
use Rattle.chord_rule.specs.Numbers.{HasNumber}
use Rattle.chord_rule.specs.Kinds.{newcomer, gone, MayGo, entry, drew, was_told, claimed, saw, saw_count, saw_head}
use Rattle.chord_rule.specs.Bags.{head_number, IsConsumed}
use Rattle.chord_rule.specs.Made.{key}
use Rattle.chord_rule.specs.Claims.{HasThe, AreClaimed}
use Rattle.chord_rule.specs.Looks.{HasSeen}
use Rattle.chord_rule.specs.Parcels.{BeginsThere, IsParkedThere}
use Rattle.chord_rule.specs.Hands.{hand, IsUnlinked}
use Rattle.chord_rule.specs.Stages.{Placing, Fresh, Emptying, Claiming, Flying, InHand, Armed, Spent, Unposted, Posting, Posted, Starting, Played}
use Rattle.chord_rule.specs.Kinds as kinds
use Rattle.chord_rule.specs.StandsFor.{Unseen}
use Rattle.chord_rule.specs.Tells.{word, a_word, CameNext, ClaimTells, draws, draws_firing, places, link_adds, arms, claims, holds, unclaims, consumes, slot_returns, posts_out, posts, starts, plays, finds_place}
use Rattle.chord_rule.specs.Whole.{Held, Whole}
use Rattle.chord_rule.proofs.KeySteps.{head_key}
use Rattle.chord_rule.proofs.Puts.{put, at_inside}
use Rattle.chord_rule.proofs.BagSteps.{linked_order}
use Rattle.chord_rule.proofs.Bridge.{Can, after_act, counter_step, store_cell, swap_head, store_place, exchange_cell, load_cell}
use Rattle.chord_rule.proofs.Counting.{count_fits}
use Rattle.chord_rule.proofs.Spreading.{spread_one}
use Rattle.chord_rule.proofs.Lists.{some_is}
use Rattle.chord_rule.proofs.MessageSteps.{claim_on}
use Rattle.chord_rule.proofs.Standing as standing
use Rattle.chord_rule.proofs.Bagging as bagging
use Rattle.chord_rule.proofs.Agreeing as agreeing
use Rattle.chord_rule.proofs.Knowing as knowing
use Rattle.chord_rule.proofs.Wholes as wholes
use Rattle.chord_rule.proofs.Coming as coming
use Rattle.chord_rule.specs.Coming.{IsPlace, ComesWithMessage, ComesWithFiring}

-- a next that fits in a cell fits in a claimed, a pending and a consumed one
link_low : (c : Cell) (next : Option ℕ) → NextFits c next → NextFits a_cell.Claimed next × NextFits a_cell.Pending next × NextFits a_cell.Consumed next
link_low c None k = (tt, tt, tt)
link_low c (Some x) k = ((tt, k.1), (tt, k.1), (tt, k.1))

-- what a desk has out is one number and one parcel
same_out : {P : Type 0} (i j : ℕ) (q r : P) → ◌≡◌ {A = List (ℕ × Option P)} ((i, Some q) ∷ []) ((j, Some r) ∷ []) → (i ≡ j) × (q ≡ r)
same_out {P} i j q r e = (ap (λ (xs : List (ℕ × Option P)). number_out xs) e, ap (λ (xs : List (ℕ × Option P)). parcel_out xs) e)
  where
    number_out : List (ℕ × Option P) → ℕ
    number_out [] = i
    number_out (x ∷ xs) = x.0

    parcel_of : Option P → P
    parcel_of None = q
    parcel_of (Some s) = s

    parcel_out : List (ℕ × Option P) → P
    parcel_out [] = q
    parcel_out (x ∷ xs) = parcel_of x.1

module _ {P : Type 0} (entries : P → List Entry) (arguments : P → List value.Value) (keeps_to : P → Type 0) (p : Program) (n width : ℕ) (any : 0 < n) (small : n ≤ 65536) where
  -- the rule at a moment
  abbrev W : Moment P → Unseen → Type 0
  W = Whole entries arguments keeps_to p n

  -- the table shows a moment that meets the rule
  abbrev H : State (Option P) View → Type 0
  H = Held entries arguments keeps_to p n width

  -- a step that changes nothing
  pub unmoved : (m : Moment P) (u : Unseen) → W m u → (id : ℕ) (v : View) → get_elem? m.views id ≡ some v → W (record m { views = set m.views id v }) u
  unmoved m u whole id v at = subst (λ (vs : List View). W (record m { views = vs }) u) (sym (set_again m.views id v at)) whole

  -- the draw of a firing
  pub draw_firing_step : (id : ℕ) (me : Me (Option P) View) (k : ℕ) (object : Object) (js ms : List ℕ) (vs : List value.Value) → me.0.gone ≡ false → me.0.spent ≡ false → slice_get (p.chords object.class) k ≡ Some js → AreClaimed me.0.claims object js ms vs
      → Allows H n id me 0 (λ x. (x + 1) % 2 ^ 64) (draws_firing p k object ms (step n 0 1 0 none) me)
  draw_firing_step id me k object js ms vs live untold chord members = counter_step Unseen W n width id me (λ x. (x + 1) % 2 ^ 64) (draws_firing p k object ms (step n 0 1 0 none) me)
      (λ m u whole at fits. go m u whole at (dec_le n m.count))
    where
      go : (m : Moment P) (u : Unseen) (whole : W m u) (at : get_elem? m.views id ≡ some me.0) → Dec (n ≤ m.count)
          → (w : View) × (a : Act (Option P)) × (u' : Unseen) × Can n m.homes me.1 a
          × W (record m { count = (m.count + 1) % 2 ^ 64; homes = after_act m.homes me.1 a; views = set m.views id w }) u'
          × draws_firing p k object ms (step n 0 1 0 none) me m.count (w, carried_after me.1 a)
      go m u whole at (yes full) = (
        saw_count (was_told me.0) (m.count + 1),
        keeps,
        u,
        tt,
        subst (λ (x : ℕ). W (record m { count = x; views = set m.views id (saw_count (was_told me.0) (m.count + 1)) }) u) (sym (count_fits n m.count m.views small whole.agrees.counting))
            (wholes.whole_told entries arguments keeps_to p n small m u whole id me.0 at live any full untold),
        (refl, (λ l. absurd (omega arith)), λ l. refl),
      )
      go m u whole at (no room) = let l : m.count < n = omega arith in let w : View = saw_count (kinds.firing_drawn me.0 m.count k object ms vs) (m.count + 1) in
          let u' : Unseen = record u { journal = entry m.count m.count (Fired k object ms vs) ∷ u.journal; stage = kinds.fired_stage id m.count ms u.stage } in (
            w,
            keeps,
            u',
            tt,
            subst (λ (x : ℕ). W (record m { count = x; views = set m.views id w }) u') (sym (count_fits n m.count m.views small whole.agrees.counting))
                (wholes.whole_draw_firing entries arguments keeps_to p n small m u whole id me.0 at live k object js ms vs l chord members),
            (
              refl,
              (λ _. (
                standing.desk_below entries arguments keeps_to p n m u whole.agrees.stands id me.0 at,
                (λ is ws chosen claimed. let same = agreeing.same_values entries arguments keeps_to p n small m u whole.agrees id me.0 at object js ms vs ws members (subst (λ (hs : List ℕ). AreClaimed me.0.claims object hs ms ws) (some_is is js (sym chosen ∙ chord)) claimed) in
                    subst (λ (xs : List value.Value). (w ≡ saw_count (kinds.firing_drawn me.0 m.count k object ms xs) (m.count + 1)) × CameNext p (entry m.count m.count (Fired k object ms xs)) × IsPlace p (entry m.count m.count (Fired k object ms xs) ∷ me.0.kept)) same (
                      refl,
                      (u.journal, (wholes.whole_draw_firing entries arguments keeps_to p n small m u whole id me.0 at live k object js ms vs l chord members).agrees.stands.keeping.merged.past),
                      coming.desk_place entries arguments keeps_to p n _ u' (wholes.whole_draw_firing entries arguments keeps_to p n small m u whole id me.0 at live k object js ms vs l chord members).agrees.stands id w (set_here m.views id w (at_inside m.views id me.0 at)),
                    )),
              )),
              λ k. absurd (omega arith),
            ),
          )

  -- the place word of a message is set
  pub place_step : (id : ℕ) (me : Me (Option P) View) (i : ℕ) (e : Entry) (x : Message) → me.0.gone ≡ false → x.object.number < n → x.method < 16 → PlaceFits x.object x.method → i < n → IsIn e me.0.kept → e.number ≡ i → message_of e.what ≡ Some x → HasNumber i me.0.fresh → me.0.placing ≡ None
      → Allows H n id me (place_at n i) (λ _. place_word x.object x.method) (λ _. places (step n (place_at n i) (place_word x.object x.method) 0 none) me (place_word x.object x.method))
  place_step id me i e x live near few fits low is num says has free = store_place Unseen W n width id me i (Some (x.object, x.method)) (places (step n (place_at n i) (place_word x.object x.method) 0 none) me (place_word x.object x.method)) low fits
      (λ m u whole at. (
        kinds.address_set me.0 i,
        takes i None,
        record u { stage = put u.stage i (InHand id Placing) },
        (low, (agreeing.it entries arguments keeps_to p n small m u whole.agrees id me.0 at i (InHand id Fresh) (whole.agrees.stands.hands.holds id me.0 at i Fresh has)).1.slot),
        wholes.whole_place entries arguments keeps_to p n small m u whole id me.0 at live i e x is num says has free near few,
        (λ j q. let same : i ≡ j = spread_one i j (omega arith) in (ap (kinds.address_set me.0) same, ap (λ (k : ℕ). (k, None) ∷ me.1) same)),
      ))

  -- a message is linked at the head of its bag
  pub linking_step : (id : ℕ) (v : View) (i : ℕ) (q : P) (e : Entry) (x : Message) → v.gone ≡ false → x.object.number < n → IsIn e v.kept → e.number ≡ i → i < 65536 → message_of e.what ≡ Some x → x.method < width → width ≤ 16 → v.placing ≡ Some i → v.flight ≡ None
      → MayGo p v.kept (entries q) → ((e : Entry) (x : Message) → IsIn e (entries q) → message_of e.what ≡ Some x → (e.number ≡ i) ⊎ (IsUnlinked (hand v) e.number → ⊥)) → x.arguments ≡ arguments q → ((e : Entry) → IsIn e v.kept → IsCall i e → IsIn e (entries q))
      → ((b : ℕ) → BeginsThere b (entries q) → IsParkedThere p (entries q) (Some i) (doing p (entries q) b)) → keeps_to q
      → Allows H n id (v, (i, Some q) ∷ []) (head_at n width x.object.number x.method) (λ _. link_of (Some i)) (link_adds entries x.object x.method (step n (head_at n width x.object.number x.method) (link_of (Some i)) 0 none) (v, (i, Some q) ∷ []))
  linking_step id v i q e x live object is num small_i says method most placing free may others args call parked task =
      swap_head Unseen W n width id (v, (i, Some q) ∷ []) x.object.number x.method (head_number (key x.object x.method)) (Some i) (link_adds entries x.object x.method (step n (head_at n width x.object.number x.method) (link_of (Some i)) 0 none) (v, (i, Some q) ∷ [])) object method most (head_key x.object x.method (omega arith) (omega arith)) small_i
      (λ m u whole at fits. let k = key x.object x.method in let above = m.heads (head_number k) in (
        saw_head (kinds.flown v i k above (entries q)) (head_number k) (Some i),
        gives,
        record u { stage = put u.stage i (InHand id (Flying k above)); order = linked_order u.order i k above },
        tt,
        wholes.whole_link entries arguments keeps_to p n small m u whole id v at live i q e x is num says (omega arith) placing free may others args call parked task,
        (λ j r e. let same = same_out i j q r e in (refl, (above, refl, fits, λ z. saw_head (kinds.flown v (same.0 z) k above (entries (same.1 z))) (head_number k) (Some (same.0 z))))),
      ))

  -- a linked message is armed
  pub arm_step : (id : ℕ) (me : Me (Option P) View) (i : ℕ) → me.0.gone ≡ false → i < n → me.0.flight ≡ Some i
      → Allows H n id me (cell_at i) (λ _. word a_cell.Pending me.0.above) (λ _. arms (step n (cell_at i) (word a_cell.Pending me.0.above) 0 none) me (word a_cell.Pending me.0.above))
  arm_step id me i live low flying = store_cell Unseen W n width id me i (record { cell = a_cell.Pending; next = me.0.above }) (arms (step n (cell_at i) (word a_cell.Pending me.0.above) 0 none) me (word a_cell.Pending me.0.above)) low
      (λ m u whole at good. (
        (omega arith, fits me.0.above (bagging.above_low entries arguments keeps_to p n small m u whole.agrees.stands whole.agrees.heads whole.agrees.bags id me.0 at i flying)),
        (saw (kinds.armed me.0 i) i (a_word a_cell.Pending me.0.above), keeps, record u { stage = put u.stage i Armed }, tt, wholes.whole_arm entries arguments keeps_to p n small m u whole id me.0 at live i flying, (λ j q. let same : i ≡ j = (let z = sym flying ∙ q in cc) in λ k. (saw (kinds.armed me.0 (same k)) (same k) (a_word a_cell.Pending me.0.above), me.1))),
      ))
    where
      fits : (above : Option ℕ) → LinkOk above → NextFits a_cell.Pending above
      fits None k = tt
      fits (Some x) k = (tt, k)

  -- a pending message is claimed, if its cell is as it was seen
  pub claim_step : (id : ℕ) (me : Me (Option P) View) (i : ℕ) (next : Option ℕ) → me.0.gone ≡ false → i < n → NextFits a_cell.Pending next → HasSeen me.0 i next
      → Allows H n id me (cell_at i) (λ z. either (eqb z (word a_cell.Pending next)) (word a_cell.Claimed next) z) (claims (step n (cell_at i) (word a_cell.Pending next) (word a_cell.Claimed next) none) me)
  claim_step id me i next live low fits saw_it = exchange_cell Unseen W n width id me i (a_word a_cell.Pending next) (a_word a_cell.Claimed next) (claims (step n (cell_at i) (word a_cell.Pending next) (word a_cell.Claimed next) none) me) low
      (omega arith, fits) (omega arith, (link_low a_cell.Pending next fits).0)
      (λ m u whole at is. let x = standing.pending_message entries arguments keeps_to p n m u whole.agrees.stands id me.0 at i next is in let c : Claim = claim_on i next x.0 in (
        saw (claimed me.0 c) i (a_word a_cell.Claimed next),
        keeps,
        record u { stage = put u.stage i (InHand id (Claiming c)) },
        tt,
        wholes.whole_claim entries arguments keeps_to p n small m u whole id me.0 at live i next x.0 is x.1,
        all_tells i next (word a_cell.Pending next) (saw (claimed me.0 c) i (a_word a_cell.Claimed next), me.1)
            (refl, (λ _. (c, knowing.new_claim entries arguments keeps_to p n small m u whole id me.0 at live i next x.0 is x.1, refl)), (λ ne. absurd (ne refl)), (λ _ _ _. refl)),
      ))
      (λ m u whole at good ne. (
        saw me.0 i (m.cells i),
        keeps,
        u,
        tt,
        wholes.whole_saw entries arguments keeps_to p n small m u whole id me.0 at live i,
        all_tells i next (word_of (m.cells i)) (saw me.0 i (m.cells i), me.1) (
          refl,
          (λ s. absurd (ne s)),
          (λ _. (
            m.cells i,
            good,
            (λ is.
                let seen = whole.agrees.looks.seen id me.0 at i next saw_it in let link = (whole.agrees.bags.armed i seen.0).1 ∙ seen.1 (λ down. subst IsConsumed is down) in
                ne (ap word_of (same_word_of (m.cells i) next is link))),
            refl,
            refl,
            (whole.agrees.looks.seen id me.0 at i next saw_it).0,
          )),
          (λ is_first none_lent last. absurd (ne (ap word_of (knowing.remembered_cell entries arguments keeps_to p n small m u whole id me.0 at live is_first none_lent i (a_word a_cell.Pending next) last)))),
        ),
      ))
    where
      same_word_of : (c : Word) (b : Option ℕ) → c.cell ≡ a_cell.Pending → c.next ≡ b → c ≡ a_word a_cell.Pending b
      same_word_of c b is link = (λ z. record { cell = is z; next = link z })

      same_next : (a b : Option ℕ) → word a_cell.Pending a ≡ word a_cell.Pending b → a ≡ b
      same_next None None e = refl
      same_next None (Some y) e = absurd (omega arith)
      same_next (Some x) None e = absurd (omega arith)
      same_next (Some x) (Some y) e = let z : x ≡ y = omega arith in ap (λ (k : ℕ). Some k) z

      all_tells : (i : ℕ) (next : Option ℕ) (x : ℕ) (w : Me (Option P) View) → ClaimTells i next (step n (cell_at i) (word a_cell.Pending next) (word a_cell.Claimed next) none) me x w → claims (step n (cell_at i) (word a_cell.Pending next) (word a_cell.Claimed next) none) me x w
      all_tells i next x w told j next' e q = let same : i ≡ j = spread_one i j (omega arith) in let link : next ≡ next' = same_next next next' q in
          subst (λ (y : ℕ × Option ℕ). ClaimTells y.0 y.1 (step n (cell_at i) (word a_cell.Pending next) (word a_cell.Claimed next) none) me x w) (λ k. (same k, link k)) told

  -- a load of the cell of a claim
  pub claim_word_step : (id : ℕ) (me : Me (Option P) View) (i : ℕ) → i < n → Allows H n id me (cell_at i) (λ x. x) (holds (step n (cell_at i) 0 0 none) me)
  claim_word_step id me i low = load_cell Unseen W n width id me i (holds (step n (cell_at i) 0 0 none) me) low
      (λ m u whole at good. (
        me.0,
        keeps,
        u,
        tt,
        unmoved m u whole id me.0 at,
        (
          refl,
          (λ c has e. let same : i ≡ c.number = spread_one i c.number (omega arith) in let is = ap m.cells same ∙ standing.claim_word entries arguments keeps_to p n m u whole.agrees.stands id me.0 at c has in (ap word_of is, subst WordFits is good)),
          agreeing.same_claim entries arguments keeps_to p n small m u whole.agrees id me.0 at,
        ),
      ))

  -- the table allows a desk to give back a claim for no firing
  pub give_step : (id : ℕ) (me : Me (Option P) View) (c : Claim) → me.0.gone ≡ false → c.number < n → HasThe c me.0.claims → c.firing ≡ None
      → Allows H n id me (cell_at c.number) (λ _. word a_cell.Pending c.next) (λ _. unclaims (step n (cell_at c.number) (word a_cell.Pending c.next) 0 none) me (word a_cell.Pending c.next))
  give_step id me c live low has free = store_cell Unseen W n width id me c.number (record { cell = a_cell.Pending; next = c.next }) (unclaims (step n (cell_at c.number) (word a_cell.Pending c.next) 0 none) me (word a_cell.Pending c.next)) low
      (λ m u whole at good. let is = standing.claim_word entries arguments keeps_to p n m u whole.agrees.stands id me.0 at c has in (
        (omega arith, (link_low a_cell.Claimed c.next (subst WordFits is good).1).1),
        (
          saw (kinds.unclaimed me.0 c.number) c.number (a_word a_cell.Pending c.next),
          keeps,
          record u { stage = put u.stage c.number Armed },
          tt,
          wholes.whole_give_back entries arguments keeps_to p n small m u whole id me.0 at live c has free,
          (λ d there e. let same : c ≡ d = agreeing.same_claim entries arguments keeps_to p n small m u whole.agrees id me.0 at c d has there (spread_one c.number d.number (omega arith)) in λ k. (saw (kinds.unclaimed me.0 (same k).number) (same k).number (a_word a_cell.Pending (same k).next), me.1)),
        ),
      ))

  -- the table allows a desk to consume a message that it has claimed for a firing
  pub consume_step : (id : ℕ) (me : Me (Option P) View) (c : Claim) (f : ℕ) → me.0.gone ≡ false → c.number < n → HasThe c me.0.claims → c.firing ≡ Some f → me.0.emptying ≡ None
      → Allows H n id me (cell_at c.number) (λ _. word a_cell.Consumed c.next) (λ _. consumes p entries arguments keeps_to (step n (cell_at c.number) (word a_cell.Consumed c.next) 0 none) me (word a_cell.Consumed c.next))
  consume_step id me c f live low has for free = store_cell Unseen W n width id me c.number (record { cell = a_cell.Consumed; next = c.next }) (consumes p entries arguments keeps_to (step n (cell_at c.number) (word a_cell.Consumed c.next) 0 none) me (word a_cell.Consumed c.next)) low
      (λ m u whole at good. let is = standing.claim_word entries arguments keeps_to p n m u whole.agrees.stands id me.0 at c has in let home = standing.claim_home entries arguments keeps_to p n m u whole.agrees.stands id me.0 at c has in
      let comes = standing.claim_comes entries arguments keeps_to p n m u whole.agrees.stands id me.0 at c home.0 has home.1 in (
        (omega arith, (link_low a_cell.Claimed c.next (subst WordFits is good).1).2),
        (
          saw (kinds.consumed me.0 c.number (entries home.0)) c.number (a_word a_cell.Consumed c.next),
          takes c.number (Some home.0),
          record u { stage = put u.stage c.number (InHand id Emptying) },
          (low, home.1),
          wholes.whole_consume entries arguments keeps_to p n small m u whole id me.0 at live c f home.0 has for free home.1,
          (λ d g there e firing.
              let same : c ≡ d = agreeing.same_claim entries arguments keeps_to p n small m u whole.agrees id me.0 at c d has there (spread_one c.number d.number (omega arith)) in
              let one : f ≡ g = some_is f g (sym for ∙ ap (λ (y : Claim). y.firing) same ∙ firing) in (
                home.0,
                ap (λ (y : Claim). saw (kinds.consumed me.0 y.number (entries home.0)) y.number (a_word a_cell.Consumed y.next)) same,
                ap (λ (y : Claim). (y.number, Some home.0) ∷ me.1) same,
                comes.values ∙ ap (λ (y : Claim). y.values) same,
                subst (λ (k : ℕ). AllBelow k (entries home.0)) one (comes.below f for),
                comes.task,
                subst (λ (y : Claim). ComesWithMessage p me.0.kept y (entries home.0)) same (coming.comes_with_message entries arguments keeps_to p n m u whole.agrees.stands whole.agrees.tabled.sound id me.0 at c home.0 has home.1),
              )),
        ),
      ))

  -- the table allows a desk to bring the empty slot of a message that it consumed home
  pub empty_step : (id : ℕ) (v : View) (i : ℕ) → v.gone ≡ false → i < n → v.emptying ≡ Some i → Allows H n id (v, (i, None) ∷ []) (cell_at i) (λ x. x) (slot_returns (step n (cell_at i) 0 0 none) (v, (i, None) ∷ []))
  empty_step id v i live low is = load_cell Unseen W n width id (v, (i, None) ∷ []) i (slot_returns (step n (cell_at i) 0 0 none) (v, (i, None) ∷ [])) low
      (λ m u whole at fits. (kinds.emptied v, gives, record u { stage = put u.stage i Spent }, tt, wholes.whole_empty entries arguments keeps_to p n small m u whole id v at live i is, (λ j e q. refl)))

  -- ## Firings

  -- the table allows a desk to take out the empty slot of a firing that it has not posted
  pub post_out_step : (id : ℕ) (me : Me (Option P) View) (f : ℕ) → me.0.gone ≡ false → f < n → HasNumber f me.0.unposted → me.0.posting ≡ None → Allows H n id me (cell_at f) (λ x. x) (posts_out (step n (cell_at f) 0 0 none) me)
  post_out_step id me f live low has free = load_cell Unseen W n width id me f (posts_out (step n (cell_at f) 0 0 none) me) low
      (λ m u whole at good. (
        kinds.posting me.0 f,
        takes f None,
        record u { stage = put u.stage f (InHand id Posting) },
        (low, (agreeing.it entries arguments keeps_to p n small m u whole.agrees id me.0 at f (InHand id Unposted) (whole.agrees.stands.hands.holds id me.0 at f Unposted has)).1.slot),
        wholes.whole_posting entries arguments keeps_to p n small m u whole id me.0 at live f has free,
        (λ j e. let same : f ≡ j = spread_one f j (omega arith) in (ap (kinds.posting me.0) same, ap (λ (k : ℕ). (k, None) ∷ me.1) same)),
      ))

  -- the table allows a desk to post a firing whose slot it has out, with a parcel that begins it
  pub post_step : (id : ℕ) (v : View) (f : ℕ) (q : P) → v.gone ≡ false → f < n → v.posting ≡ Some f → MayGo p v.kept (entries q) → ((e : Entry) (x : Message) → IsIn e (entries q) → message_of e.what ≡ Some x → IsUnlinked (hand v) e.number → ⊥)
      → BeginsThere f (entries q) → ((e : Entry) → IsIn e (entries q) → e.body ≡ f → e.number ≡ f) → ((b : ℕ) → (b ≡ f → ⊥) → BeginsThere b (entries q) → IsParkedThere p (entries q) None (doing p (entries q) b)) → keeps_to q
      → Allows H n id (v, (f, Some q) ∷ []) (cell_at f) (λ _. word a_cell.Ready None) (λ _. posts entries (step n (cell_at f) (word a_cell.Ready None) 0 none) (v, (f, Some q) ∷ []) (word a_cell.Ready None))
  post_step id v f q live low posting may others begins only parked task = store_cell Unseen W n width id (v, (f, Some q) ∷ []) f (record { cell = a_cell.Ready; next = None }) (posts entries (step n (cell_at f) (word a_cell.Ready None) 0 none) (v, (f, Some q) ∷ []) (word a_cell.Ready None)) low
      (λ m u whole at good. (
        (omega arith, tt),
        (saw (kinds.posted v (entries q)) f (a_word a_cell.Ready None), gives, record u { stage = put u.stage f Posted }, tt, wholes.whole_post entries arguments keeps_to p n small m u whole id v at live f q posting may others begins only parked task, (λ g r e. let same = same_out f g q r e in (λ z. saw (kinds.posted v (entries (same.1 z))) (same.0 z) (a_word a_cell.Ready None), refl))),
      ))

  -- the table allows a desk to start a firing if its cell is ready, and to remember its cell if not
  pub start_step : (id : ℕ) (me : Me (Option P) View) (f : ℕ) → me.0.gone ≡ false → f < n → me.0.starting ≡ None
      → Allows H n id me (cell_at f) (λ z. either (eqb z (word a_cell.Ready None)) (word a_cell.Started None) z) (starts p entries keeps_to (step n (cell_at f) (word a_cell.Ready None) (word a_cell.Started None) none) me)
  start_step id me f live low free = exchange_cell Unseen W n width id me f (record { cell = a_cell.Ready; next = None }) (record { cell = a_cell.Started; next = None }) (starts p entries keeps_to (step n (cell_at f) (word a_cell.Ready None) (word a_cell.Started None) none) me) low
      (omega arith, tt) (omega arith, tt)
      (λ m u whole at is.
      let ready : (m.cells f).cell ≡ a_cell.Ready = ap (λ (c : Word). c.cell) is in
      let home = standing.ready_home entries arguments keeps_to p n m u whole.agrees.stands id me.0 at f ready in let comes = standing.ready_comes entries arguments keeps_to p n m u whole.agrees.stands f home.0 ready home.1 in (
        saw (kinds.firing_started me.0 f (entries home.0)) f (a_word a_cell.Started None),
        takes f (Some home.0),
        record u { stage = put u.stage f (InHand id Starting) },
        (low, home.1),
        wholes.whole_start entries arguments keeps_to p n small m u whole id me.0 at live f home.0 ready free home.1,
        (λ j e. let same : f ≡ j = spread_one f j (omega arith) in ((λ _. (home.0, ap (λ (k : ℕ). saw (kinds.firing_started me.0 k (entries home.0)) k (a_word a_cell.Started None)) same, ap (λ (k : ℕ). (k, Some home.0) ∷ me.1) same, comes.1, subst (λ (k : ℕ). ComesWithFiring p me.0.kept k (entries home.0)) same (coming.comes_with_firing entries arguments keeps_to p n m u whole.agrees.stands id me.0 at f home.0 ready home.1))), (λ ne. absurd (ne refl)))),
      ))
      (λ m u whole at good ne. (
        saw me.0 f (m.cells f),
        keeps,
        u,
        tt,
        wholes.whole_saw entries arguments keeps_to p n small m u whole id me.0 at live f,
        (λ j e. let same : f ≡ j = spread_one f j (omega arith) in (
          (λ s. absurd (ne s)),
          (λ _. (refl, (m.cells f, good, (λ r. ne (ap word_of (standing.ready_word entries arguments keeps_to p n m u whole.agrees.stands id me.0 at f r))), refl, ap (λ (k : ℕ). saw me.0 k (m.cells f)) same))),
        )),
      ))

  -- the slot of a started firing is home again
  pub play_step : (id : ℕ) (v : View) (f : ℕ) → v.gone ≡ false → f < n → v.starting ≡ Some f → Allows H n id (v, (f, None) ∷ []) (cell_at f) (λ x. x) (plays (step n (cell_at f) 0 0 none) (v, (f, None) ∷ []))
  play_step id v f live low is = load_cell Unseen W n width id (v, (f, None) ∷ []) f (plays (step n (cell_at f) 0 0 none) (v, (f, None) ∷ [])) low
      (λ m u whole at fits. (kinds.played v, gives, record u { stage = put u.stage f Played }, tt, wholes.whole_play entries arguments keeps_to p n small m u whole id v at live f is, (λ j e q. refl)))

  -- ## Desks

  -- a look at the counter tells the desk that what it keeps is a place of the run
  pub find_place_step : (id : ℕ) (me : Me (Option P) View) → me.0.gone ≡ false → Allows H n id me 0 (λ x. x) (finds_place p (step n 0 0 0 none) me)
  find_place_step id me live = counter_step Unseen W n width id me (λ x. x) (finds_place p (step n 0 0 0 none) me)
      (λ m u whole at fits. (me.0, keeps, u, tt, unmoved m u whole id me.0 at, (refl, coming.desk_place entries arguments keeps_to p n m u whole.agrees.stands id me.0 at)))

  -- the first desk lends one
  pub split_step : (id : ℕ) (v : View) → v.gone ≡ false → v.first ≡ true → v.splits < 65535 → Splits H id v (kinds.lent_one v) newcomer
  split_step id v live is_first few s h at = let sh = h.shows in record {
    moment = record h.moment { views = set h.moment.views id (kinds.lent_one v) ++ newcomer ∷ [] };
    ghosts = h.ghosts;
    shows = record { wide = sh.wide; deep = sh.deep; count = sh.count; cells = sh.cells; heads = sh.heads; places = sh.places; homes = sh.homes; views = ap (λ (vs : List View). set vs id (kinds.lent_one v) ++ newcomer ∷ []) sh.views };
    rule = wholes.whole_split entries arguments keeps_to p n small h.moment h.ghosts h.rule id v (subst (λ (vs : List View). get_elem? vs id ≡ some v) sh.views at) live is_first few;
  }

  -- the first desk takes over what another one has
  pub join_step : (id other : ℕ) (v w : View) → v.gone ≡ false → w.gone ≡ false → v.first ≡ true → w.placing ≡ None → w.flight ≡ None → w.claims ≡ [] → w.emptying ≡ None → w.posting ≡ None → w.starting ≡ None → Joins H id v other w (kinds.united v w) gone
  join_step id other v w live there_live is_first placing flight claims emptying posting starting s h at apart there = let sh = h.shows in let m = h.moment in
      let at' : get_elem? m.views id ≡ some v = subst (λ (vs : List View). get_elem? vs id ≡ some v) sh.views at in
      let there' : get_elem? m.views other ≡ some w = sym (set_else m.views id other (kinds.united v w) apart) ∙ subst (λ (vs : List View). get_elem? (set vs id (kinds.united v w)) other ≡ some w) sh.views there in record {
        moment = record m { views = set (set m.views id (kinds.united v w)) other gone };
        ghosts = record h.ghosts { stage = λ i. kinds.heir id other (h.ghosts.stage i) };
        shows = record { wide = sh.wide; deep = sh.deep; count = sh.count; cells = sh.cells; heads = sh.heads; places = sh.places; homes = sh.homes; views = ap (λ (vs : List View). set (set vs id (kinds.united v w)) other gone) sh.views };
        rule = wholes.whole_join entries arguments keeps_to p n small m h.ghosts h.rule id v at' live other w is_first apart there' there_live placing flight claims emptying posting starting;
      }

  -- Main begins
  pub begun_step : (id : ℕ) (me : Me (Option P) View) → me.0.gone ≡ false → me.0.first ≡ true → me.0.drawn ≡ false → me.0.splits ≡ 0
      → Allows H n id me 0 (λ x. (x + 1) % 2 ^ 64) (draws p 0 Begun (step n 0 1 0 none) me)
  begun_step id me live is_first not_drawn not_split = counter_step Unseen W n width id me (λ x. (x + 1) % 2 ^ 64) (draws p 0 Begun (step n 0 1 0 none) me)
      (λ m u whole at fits.
      let none_drawn = whole.agrees.firsts.untouched me.0 (ap (get_elem? m.views) (sym (whole.agrees.firsts.leads id me.0 at is_first)) ∙ at) not_drawn not_split in
      let w : View = saw_count (drew me.0 m.count 0 Begun) (m.count + 1) in let u' : Unseen = record u { journal = entry m.count 0 Begun ∷ u.journal; stage = u.stage } in (
        w,
        keeps,
        u',
        tt,
        subst (λ (x : ℕ). W (record m { count = x; views = set m.views id w }) u') (sym (count_fits n m.count m.views small whole.agrees.counting))
            (wholes.whole_begun entries arguments keeps_to p n small m u whole id me.0 at live any is_first not_drawn not_split),
        (
          refl,
          (λ k.
              let after_act = wholes.whole_begun entries arguments keeps_to p n small m u whole id me.0 at live any is_first not_drawn not_split in
              let above = agreeing.drawn_above entries arguments keeps_to p n small m u whole.agrees id me.0 at 0 Begun (omega (arith, none_drawn, any)) u.journal after_act.agrees.stands.keeping.merged.past (let long = whole.agrees.stands.keeping.long in omega arith) in
              (refl, above.0, above.1, (u.journal, after_act.agrees.stands.keeping.merged.past), coming.desk_place entries arguments keeps_to p n _ u' after_act.agrees.stands id w (set_here m.views id w (at_inside m.views id me.0 at)))),
          (λ k. absurd (omega (arith, none_drawn, any, k))),
          (λ h. none_drawn),
        ),
      ))
