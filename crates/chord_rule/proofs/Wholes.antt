-- Each kind of step keeps the whole rule: what the words, the desks and the journal say of each other, what holds of each desk,
-- and what the first desk knows while it is alone, put together.
use Rattle.std.proofs.Common.{◌≡◌, ◌≢◌, ◌⊎◌, inl, inr, ⊎_elim, ℕ, zero, suc, ◌+◌, ◌<◌, ◌≤◌, ◌||◌, if◌then◌else◌, Bool, true, false, List, [], ◌∷◌, ◌++◌, map, set, slice_get, refl, sym, ap, ◌∙◌, subst, arith, Option, Some, None}
use mathlib.Core.Path.{Path}
use mathlib.Core.Logic.{dite}
use native.Mathlib.Decide.{ℕ_discrete}
use mathlib.Core.Option.{some, none}
use lib.ListN.{get_elem?}
use Rattle.atomic_table.proofs.Lists.{set_here}
use Rattle.chord_base.specs.Meaning.{Program}
use Rattle.chord_base.specs.Bodies.{Asks, doing}
use Rattle.chord_base.specs.Messages.{Message, message_of, IsCall}
use Rattle.chord_base.specs.Story.{IsOwn, IsIn}
use Rattle.chord_base.specs.declared.value.Object.{Object}
use Rattle.chord_base.specs.declared.value.Value as value
use Rattle.chord_base.specs.declared.event.What.{What}
use Rattle.chord_base.specs.declared.event.What.TheVariants.{Begun, Fired}
use Rattle.chord_base.specs.declared.event.Entry.{Entry}
use Rattle.chord_word.specs.declared.cells.Cell.{Cell}
use Rattle.chord_word.specs.declared.cells.Cell.TheVariants as a_cell
use Rattle.chord_word.specs.declared.cells.Word.{Word}
use Rattle.chord_rule.specs.declared.view.Claim.{Claim}
use Rattle.chord_rule.specs.declared.view.Duty.{Duty}
use Rattle.chord_rule.specs.declared.view.Looked.{Looked}
use Rattle.chord_rule.specs.declared.view.View.{View}
use Rattle.chord_rule.specs.declared.view.Way.{Way}
use Rattle.chord_rule.specs.Moment.{Moment, Home, Place, empty_word}
use Rattle.chord_rule.specs.Numbers.{HasNumber}
use Rattle.chord_rule.specs.Agrees.{Agrees}
use Rattle.chord_rule.specs.Alone.{Remembers, AloneLaw}
use Rattle.chord_rule.specs.Bags.{LinkOrder, IsArmed, IsConsumed, BagLaw, head_number, cell_of}
use Rattle.chord_rule.specs.Claims.{HasThe, AreClaimed}
use Rattle.chord_rule.specs.Desks.{IsRightDesk}
use Rattle.chord_rule.specs.Draws.{DrawLaw}
use Rattle.chord_rule.specs.Duties.{HasDuty, MayRest, start_walk, move_duty}
use Rattle.chord_rule.specs.Hands.{hand, IsUnlinked}
use Rattle.chord_rule.specs.Messages.{IsOpen}
use Rattle.chord_rule.specs.Kinds as kinds
use Rattle.chord_rule.specs.Kinds.{newcomer, gone, MayGo, entry, drew, was_told, claimed, saw, saw_count, saw_head}
use Rattle.chord_rule.specs.Made.{key, IsKey, IsChord}
use Rattle.chord_rule.specs.Parcels.{BeginsThere, IsParkedThere}
use Rattle.chord_rule.specs.Placed.{PlaceLaw}
use Rattle.chord_rule.specs.StandsFor.{Unseen}
use Rattle.chord_rule.specs.Stages.{Vacant, Fresh, Placing, Claiming, Emptying, Flying, Unposted, Posting, Starting, Stage, InHand, Armed, Spent, Posted, Played, said_at, message_in}
use Rattle.chord_rule.specs.Ways.{HasWay, WereLinked, WayLaw, IsLinkedCell, way_begun}
use Rattle.chord_rule.specs.Whole.{Whole}
use Rattle.chord_base.proofs.Merged.{past_below, past_rises}
use Rattle.chord_rule.proofs.Agreeing as agreeing
use Rattle.chord_rule.proofs.AloneSteps.{remembers_count, remembers_head, remembers_cell, remembers_look, remembers_look_head, alone_step, alone_split, alone_join, other_live}
use Rattle.chord_rule.proofs.BagSteps.{linked_order}
use Rattle.chord_rule.proofs.Frames.{desks_after}
use Rattle.chord_rule.proofs.Bagging as bagging
use Rattle.chord_rule.proofs.Drawing as drawing
use Rattle.chord_rule.proofs.Looking as looking
use Rattle.chord_rule.proofs.Looking.{agrees_saw}
use Rattle.chord_rule.proofs.Lists.{some_is}
use Rattle.chord_rule.proofs.MessageSteps.{claim_on}
use Rattle.chord_rule.proofs.Puts.{put, put_here, put_else, put_all, at_inside, at_end}
use Rattle.chord_rule.proofs.WaySteps.{begun_law, on_law, way_stays}

-- a place of a list that is set twice
set_twice : {A : Type 0} (l : List A) (i : ℕ) (a b : A) → set (set l i a) i b ≡ set l i b
set_twice [] i a b = refl
set_twice (x ∷ xs) zero a b = refl
set_twice (x ∷ xs) (suc i) a b = λ k. x ∷ set_twice xs i a b k

-- what holds of a desk, after a step of another
right_stays : (n count count' : ℕ) (cells cells' : ℕ → Word) (o o' : LinkOrder) (v : View) → count ≤ count' → ((i : ℕ) → IsArmed (cell_of cells i) → IsArmed (cell_of cells' i)) → ((i : ℕ) → IsConsumed (cell_of cells i) → IsConsumed (cell_of cells' i))
    → ((i k : ℕ) → o.bag i ≡ Some k → (o'.bag i ≡ Some k) × (o'.rank i ≡ o.rank i)) → ((i k : ℕ) → o'.bag i ≡ Some k → (o.bag i ≡ Some k) ⊎ ((x l : ℕ) → o.bag x ≡ Some l → o.rank x < o'.rank i)) → IsRightDesk n count cells o v → IsRightDesk n count' cells' o' v
right_stays n count count' cells cells' o o' v more armed consumed linked newer law = record {
  armed = λ d h. armed d.message (law.armed d h);
  ways = λ w h. way_stays n cells cells' o o' w linked newer consumed (law.ways w h);
  told = λ here spent. let l = law.told here spent in omega (arith, l, more);
  counted = λ c e. let l = law.counted c e in omega (arith, l, more);
  ended = law.ended;
}

-- what is in a bag after a link was there before, or is linked after all
link_newer : {IsKey : ℕ → Type 0} {cells : ℕ → Word} {heads : ℕ → Option ℕ} (o : LinkOrder) → BagLaw IsKey cells heads o → (i k j l : ℕ) → put o.bag i (Some k) j ≡ Some l → (o.bag j ≡ Some l) ⊎ ((x z : ℕ) → o.bag x ≡ Some z → o.rank x < put o.rank i o.clock j)
link_newer o bags i k j l b = dite (ℕ_discrete j i)
    (λ e. inr (λ x z there. let r = bags.ranked x z there in let same = ap (put o.rank i o.clock) e ∙ put_here o.rank i o.clock in omega (arith, r, same)))
    (λ ne. inl (sym (put_else o.bag i (Some k) j ne) ∙ b))

-- a desk that keeps nothing is as it should be
right_newcomer : (n count : ℕ) (cells : ℕ → Word) (o : LinkOrder) → IsRightDesk n count cells o newcomer
right_newcomer n count cells o = record { armed = λ d h. absurd h; ways = λ w h. absurd h; told = λ here spent. absurd (let z : false ≡ true = spent in cc); counted = λ c e. absurd (let z : Path (Option ℕ) None (Some c) = e in cc); ended = λ e. absurd (let z : false ≡ true = e in cc) }

-- where one of two desks was told, what both may be told holds
told_either : (A : Type 0) (a b : Bool) → (a ≡ true → A) → (b ≡ true → A) → (a || b) ≡ true → A
told_either A true b first second e = first refl
told_either A false b first second e = second e

-- and so is one that was joined
right_gone : (n count : ℕ) (cells : ℕ → Word) (o : LinkOrder) → IsRightDesk n count cells o gone
right_gone n count cells o = record { armed = λ d h. absurd h; ways = λ w h. absurd h; told = λ here spent. absurd (let z : true ≡ false = here in cc); counted = λ c e. absurd (let z : Path (Option ℕ) None (Some c) = e in cc); ended = λ e. refl }

module _ {P : Type 0} (entries : P → List Entry) (arguments : P → List value.Value) (keeps_to : P → Type 0) (p : Program) (n : ℕ) (small : n ≤ 65536) (m : Moment P) (u : Unseen) (whole : Whole entries arguments keeps_to p n m u)
    (id : ℕ) (v : View) (at : get_elem? m.views id ≡ some v) (here : v.gone ≡ false) where
  -- the first part of the rule holds
  law : Agrees entries arguments keeps_to p n m u
  law = whole.agrees

  -- what holds of the desk that steps
  mine : IsRightDesk n m.count m.cells u.order v
  mine = whole.desks.right id v at

  -- a view with the `gone` of the desk that steps, which is false, is that of a joined desk if it is gone
  not_gone : (w : View) → w.gone ≡ v.gone → w.gone ≡ true → w ≡ gone
  not_gone w same e = absurd (let z : true ≡ false = sym e ∙ same ∙ here in cc)

  -- what the desk that steps writes in a cell is remembered
  abbrev pub After : Moment P → Unseen → View → Type 0
  After m' u' w = Agrees entries arguments keeps_to p n (record m' { views = set m.views id w }) u'

  -- the table still agrees where the desk also remembers the word of a cell
  pub saw_too : (m' : Moment P) (u' : Unseen) (w : View) (i : ℕ) (x : Word) → m'.cells i ≡ x → After m' u' w → After m' u' (saw w i x)
  saw_too m' u' w i x is after = subst (λ (vs : List View). Agrees entries arguments keeps_to p n (record m' { views = vs }) u') (set_twice m.views id w (saw w i x))
      (subst (λ (y : Word). Agrees entries arguments keeps_to p n (record m' { views = set (set m.views id w) id (saw w i y) }) u') is
      (agrees_saw entries arguments keeps_to p n small (record m' { views = set m.views id w }) u' after id w (set_here m.views id w (at_inside m.views id v at)) i))

  -- and so is what it reads or writes elsewhere
  looked_too : (m' : Moment P) (u' : Unseen) (w : View) (l : Looked) → l.seen ≡ w.looked.seen → After m' u' w → After m' u' (record w { looked = l })
  looked_too m' u' w l seen after = subst (λ (vs : List View). Agrees entries arguments keeps_to p n (record m' { views = vs }) u') (set_twice m.views id w (record w { looked = l }))
      (agreeing.agrees_still entries arguments keeps_to p n small (record m' { views = set m.views id w }) u' after id w (set_here m.views id w (at_inside m.views id v at)) (record w { looked = l }) refl refl refl refl refl refl refl seen)

  -- what one desk does keeps the whole rule where it keeps its parts
  pub whole_step : (m' : Moment P) (u' : Unseen) (w : View) → m'.views ≡ set m.views id w → Agrees entries arguments keeps_to p n m' u' → w.first ≡ v.first → w.gone ≡ v.gone → w.lent ≡ v.lent → m.count ≤ m'.count
      → ((i : ℕ) → IsArmed (cell_of m.cells i) → IsArmed (cell_of m'.cells i)) → ((i : ℕ) → IsConsumed (cell_of m.cells i) → IsConsumed (cell_of m'.cells i)) → ((i k : ℕ) → u.order.bag i ≡ Some k → (u'.order.bag i ≡ Some k) × (u'.order.rank i ≡ u.order.rank i))
      → ((i k : ℕ) → u'.order.bag i ≡ Some k → (u.order.bag i ≡ Some k) ⊎ ((x l : ℕ) → u.order.bag x ≡ Some l → u.order.rank x < u'.order.rank i))
      → ((q i : ℕ) → cell_of m'.cells q ≡ a_cell.Woken i → ⊥) → PlaceLaw n m'.places → IsRightDesk n m'.count m'.cells u'.order w → DrawLaw (set m.views id w) u'.journal
      → (Remembers m.count m.heads m.cells v.looked → Remembers m'.count m'.heads m'.cells w.looked) → Whole entries arguments keeps_to p n m' u'
  whole_step m' u' w views after first gone_same lent more armed consumed linked newer woken places right drawn remembers = record {
    agrees = after;
    desks = record {
      right = subst (λ (vs : List View). (j : ℕ) (x : View) → get_elem? vs j ≡ some x → IsRightDesk n m'.count m'.cells u'.order x) (sym views)
          (desks_after (λ j x. IsRightDesk n m'.count m'.cells u'.order x) m.views id w right (λ j x ne e. right_stays n m.count m'.count m.cells m'.cells u.order u'.order x more armed consumed linked newer (whole.desks.right j x e)));
    };
    woken = record { none = woken };
    places = places;
    alone = subst (λ (vs : List View). AloneLaw m'.count m'.heads m'.cells vs) (sym views)
        (alone_step m.count m.heads m.cells m.views whole.alone law.firsts.leads id v at here m'.count m'.heads m'.cells w first gone_same lent remembers);
    draws = subst (λ (vs : List View). DrawLaw vs u'.journal) (sym views) drawn;
  }

  -- a step in which nothing is drawn
  pub none_drawn : (w : View) → w.draws ≡ v.draws → DrawLaw (set m.views id w) u.journal
  none_drawn w same = drawing.draws_still m.views u.journal whole.draws id v w at same

  -- a step that leaves the counter, the heads and the cells, and what the desk remembers
  pub whole_still : (places : ℕ → Option Place) (homes : ℕ → Home P) (stage : ℕ → Stage) (w : View) → w.looked ≡ v.looked → ((d : Duty) → HasDuty d w.duties → HasDuty d v.duties) → w.first ≡ v.first → w.gone ≡ v.gone → w.lent ≡ v.lent → w.spent ≡ v.spent → w.draws ≡ v.draws → PlaceLaw n places
      → After (record m { places = places; homes = homes }) (record u { stage = stage }) w → Whole entries arguments keeps_to p n (record m { places = places; homes = homes; views = set m.views id w }) (record u { stage = stage })
  whole_still places homes stage w looked duties first gone_same lent spent same_draws placed after = whole_step (record m { places = places; homes = homes; views = set m.views id w }) (record u { stage = stage }) w refl after first gone_same lent (omega arith)
      (λ i a. a) (λ i c. c) (λ i k b. (b, refl)) (λ i k b. inl b) whole.woken.none placed
      (record {
        armed = λ d h. mine.armed d (duties d h);
        ways = λ x h. mine.ways x (subst (λ (l : Looked). HasWay x l.ways) looked h);
        told = λ e s. mine.told (sym gone_same ∙ e) (sym spent ∙ s);
        counted = λ c e. mine.counted c (ap (λ (l : Looked). l.count) (sym looked) ∙ e);
        ended = not_gone w gone_same;
      })
      (none_drawn w same_draws)
      (λ r. subst (Remembers m.count m.heads m.cells) (sym looked) r)

  -- a step that writes the cell i, and remembers it
  pub whole_cell : (i : ℕ) (x : Word) (homes : ℕ → Home P) (stage : ℕ → Stage) (w : View) → w.looked ≡ v.looked → (IsArmed (cell_of m.cells i) → IsArmed x.cell) → (IsConsumed (cell_of m.cells i) → IsConsumed x.cell) → ((z : ℕ) → x.cell ≡ a_cell.Woken z → ⊥)
      → ((d : Duty) → HasDuty d w.duties → HasDuty d v.duties ⊎ IsArmed (cell_of (put m.cells i x) d.message)) → w.first ≡ v.first → w.gone ≡ v.gone → w.lent ≡ v.lent → w.spent ≡ v.spent → w.draws ≡ v.draws
      → After (record m { cells = put m.cells i x; homes = homes }) (record u { stage = stage }) w
      → Whole entries arguments keeps_to p n (record m { cells = put m.cells i x; homes = homes; views = set m.views id (saw w i x) }) (record u { stage = stage })
  whole_cell i x homes stage w looked armed consumed woken duties first gone_same lent spent same_draws after =
      let m' : Moment P = record m { cells = put m.cells i x; homes = homes } in let u' : Unseen = record u { stage = stage } in
      whole_step (record m' { views = set m.views id (saw w i x) }) u' (saw w i x) refl (saw_too m' u' w i x (put_here m.cells i x) after) first gone_same lent (omega arith)
      stay stay_consumed (λ k l b. (b, refl)) (λ k l b. inl b)
      (λ q z e. put_all m.cells i x (λ q c. c.cell ≡ a_cell.Woken z → ⊥) q (λ s. woken z s) (λ ne s. whole.woken.none q z s) e) whole.places
      (record {
        armed = λ d h. ⊎_elim (λ k. stay d.message (mine.armed d k)) (λ a. a) (duties d h);
        ways = λ y h. way_stays n m.cells (put m.cells i x) u.order u.order y (λ k l b. (b, refl)) (λ k l b. inl b) stay_consumed (mine.ways y (subst (λ (l : Looked). HasWay y l.ways) looked h));
        told = λ e s. mine.told (sym gone_same ∙ e) (sym spent ∙ s);
        counted = λ c e. mine.counted c (ap (λ (l : Looked). l.count) (sym looked) ∙ e);
        ended = not_gone (saw w i x) gone_same;
      })
      (none_drawn (saw w i x) same_draws)
      (λ r. subst (λ (l : Looked). Remembers m.count m.heads (put m.cells i x) (record l { seen = record { number = i; word = x } ∷ l.seen })) (sym looked) (remembers_cell m.count m.heads m.cells v.looked r i x))
    where
      stay : (k : ℕ) → IsArmed (cell_of m.cells k) → IsArmed (cell_of (put m.cells i x) k)
      stay k a = put_all m.cells i x (λ k c. IsArmed (cell_of m.cells k) → IsArmed c.cell) k armed (λ ne b. b) a

      stay_consumed : (k : ℕ) → IsConsumed (cell_of m.cells k) → IsConsumed (cell_of (put m.cells i x) k)
      stay_consumed k a = put_all m.cells i x (λ k c. IsConsumed (cell_of m.cells k) → IsConsumed c.cell) k consumed (λ ne b. b) a

  -- a step that counts up, and remembers it
  pub whole_count : (journal : List Entry) (stage : ℕ → Stage) (w : View) → w.looked ≡ v.looked → w.duties ≡ v.duties → w.first ≡ v.first → w.gone ≡ v.gone → w.lent ≡ v.lent → (w.spent ≡ true → n ≤ m.count + 1) → DrawLaw (set m.views id (saw_count w (m.count + 1))) journal
      → After (record m { count = m.count + 1 }) (record u { journal = journal; stage = stage }) w
      → Whole entries arguments keeps_to p n (record m { count = m.count + 1; views = set m.views id (saw_count w (m.count + 1)) }) (record u { journal = journal; stage = stage })
  whole_count journal stage w looked duties first gone_same lent spent drawn after =
      let m' : Moment P = record m { count = m.count + 1 } in let u' : Unseen = record u { journal = journal; stage = stage } in
      whole_step (record m' { views = set m.views id (saw_count w (m.count + 1)) }) u' (saw_count w (m.count + 1)) refl (looked_too m' u' w (record w.looked { count = Some (m.count + 1) }) refl after) first gone_same lent (omega arith)
      (λ i a. a) (λ i c. c) (λ i k b. (b, refl)) (λ i k b. inl b) whole.woken.none whole.places
      (record {
        armed = λ d h. mine.armed d (subst (HasDuty d) duties h);
        ways = λ x h. mine.ways x (subst (λ (l : Looked). HasWay x l.ways) looked h);
        told = λ e s. spent s;
        counted = λ c e. let z : m.count + 1 ≡ c = (let y : Path (Option ℕ) (Some (m.count + 1)) (Some c) = e in cc) in omega (arith, z);
        ended = not_gone (saw_count w (m.count + 1)) gone_same;
      })
      drawn
      (λ r. subst (λ (l : Looked). Remembers (m.count + 1) m.heads m.cells (record l { count = Some (m.count + 1) })) (sym looked) (remembers_count m.count m.heads m.cells v.looked r (m.count + 1)))

  -- ## Draws

  -- the desk is told that the limit is reached
  pub whole_told : 0 < n → n ≤ m.count → v.spent ≡ false → Whole entries arguments keeps_to p n (record m { count = m.count + 1; views = set m.views id (saw_count (was_told v) (m.count + 1)) }) u
  whole_told any full untold = whole_count u.journal u.stage (was_told v) refl refl refl refl refl (λ _. omega arith) (none_drawn (saw_count (was_told v) (m.count + 1)) refl) (agreeing.agrees_told entries arguments keeps_to p n small m u law id v at any full untold)

  -- the entry is drawn with the number to which the counter came
  one_drawn : (e : Entry) (w : View) → e.number ≡ m.count → m.count < n → w.draws ≡ e ∷ v.draws → DrawLaw (set m.views id w) (e ∷ u.journal)
  one_drawn e w next room new = let keeping = law.stands.keeping in let long = keeping.long in drawing.draws_grow m.views u.journal whole.draws id v w at e (past_below p u.journal e.number keeping.merged.past (omega (arith, long, next, room))) new

  -- where a desk was told so, the limit was reached
  told_before : v.spent ≡ true → n ≤ m.count + 1
  told_before s = let l = mine.told here s in omega arith

  -- an own entry is drawn
  pub whole_draw : (b : ℕ) (what : What) → m.count < n → IsOwn what → Asks p v.kept b what
      → Whole entries arguments keeps_to p n (record m { count = m.count + 1; views = set m.views id (saw_count (drew v m.count b what) (m.count + 1)) }) (record u { journal = entry m.count b what ∷ u.journal; stage = kinds.drawn_stage id m.count what u.stage })
  whole_draw b what room own asks = whole_count (entry m.count b what ∷ u.journal) (kinds.drawn_stage id m.count what u.stage) (drew v m.count b what) refl refl refl refl refl told_before (one_drawn (entry m.count b what) (saw_count (drew v m.count b what) (m.count + 1)) refl room refl)
      (agreeing.agrees_draw entries arguments keeps_to p n small m u law id v at b what room own asks)

  -- the whole rule still holds once the first desk, which has neither drawn nor lent a desk, begins `Main`
  pub whole_begun : 0 < n → v.first ≡ true → v.drawn ≡ false → v.splits ≡ 0
      → Whole entries arguments keeps_to p n (record m { count = m.count + 1; views = set m.views id (saw_count (drew v m.count 0 Begun) (m.count + 1)) }) (record u { journal = entry m.count 0 Begun ∷ u.journal; stage = u.stage })
  whole_begun any is_first not_drawn not_split = whole_count (entry m.count 0 Begun ∷ u.journal) u.stage (drew v m.count 0 Begun) refl refl refl refl refl told_before (one_drawn (entry m.count 0 Begun) (saw_count (drew v m.count 0 Begun) (m.count + 1)) refl (let none = law.firsts.untouched v (ap (get_elem? m.views) (sym (law.firsts.leads id v at is_first)) ∙ at) not_drawn not_split in omega (arith, none, any)) refl)
      (agreeing.agrees_begun entries arguments keeps_to p n small m u law id v at any is_first not_drawn not_split)

  -- a firing is drawn with claims on its members
  pub whole_draw_firing : (k : ℕ) (object : Object) (js ms : List ℕ) (vs : List value.Value) → m.count < n → slice_get (p.chords object.class) k ≡ Some js → AreClaimed v.claims object js ms vs
      → Whole entries arguments keeps_to p n (record m { count = m.count + 1; views = set m.views id (saw_count (kinds.firing_drawn v m.count k object ms vs) (m.count + 1)) })
      (record u { journal = entry m.count m.count (Fired k object ms vs) ∷ u.journal; stage = kinds.fired_stage id m.count ms u.stage })
  whole_draw_firing k object js ms vs room chord members = whole_count (entry m.count m.count (Fired k object ms vs) ∷ u.journal) (kinds.fired_stage id m.count ms u.stage) (kinds.firing_drawn v m.count k object ms vs) refl refl refl refl refl told_before (one_drawn (entry m.count m.count (Fired k object ms vs)) (saw_count (kinds.firing_drawn v m.count k object ms vs) (m.count + 1)) refl room refl)
      (agreeing.agrees_draw_firing entries arguments keeps_to p n small m u law id v at k object js ms vs room chord members)

  -- ## Messages

  -- the place word of a message is set
  pub whole_place : (i : ℕ) (e : Entry) (x : Message) → IsIn e v.kept → e.number ≡ i → message_of e.what ≡ Some x → HasNumber i v.fresh → v.placing ≡ None → x.object.number < n → x.method < 16
      → Whole entries arguments keeps_to p n (record m { places = put m.places i (Some (x.object, x.method)); homes = put m.homes i none; views = set m.views id (kinds.address_set v i) }) (record u { stage = put u.stage i (InHand id Placing) })
  whole_place i e x is num says has free low few = whole_still (put m.places i (Some (x.object, x.method))) (put m.homes i none) (put u.stage i (InHand id Placing)) (kinds.address_set v i) refl (λ d h. h) refl refl refl refl refl
      (record { within = λ j pl e. put_all m.places i (Some (x.object, x.method)) (λ j y. y ≡ Some pl → (pl.0.number < n) × (pl.1 < 16)) j (λ z. let same = some_is (x.object, x.method) pl z in subst (λ (y : Place). (y.0.number < n) × (y.1 < 16)) same (low, few)) (λ ne z. whole.places.within j pl z) e })
      (agreeing.agrees_place entries arguments keeps_to p n small m u law id v at i e x is num says has free)

  -- a message is linked at the head of its bag
  pub whole_link : (i : ℕ) (q : P) (e : Entry) (x : Message) → IsIn e v.kept → e.number ≡ i → message_of e.what ≡ Some x → x.method < 16 → v.placing ≡ Some i → v.flight ≡ None
      → MayGo p v.kept (entries q) → ((e : Entry) (x : Message) → IsIn e (entries q) → message_of e.what ≡ Some x → (e.number ≡ i) ⊎ (IsUnlinked (hand v) e.number → ⊥)) → x.arguments ≡ arguments q → ((e : Entry) → IsIn e v.kept → IsCall i e → IsIn e (entries q))
      → ((b : ℕ) → BeginsThere b (entries q) → IsParkedThere p (entries q) (Some i) (doing p (entries q) b)) → keeps_to q
      → (let k = key x.object x.method in let above = m.heads (head_number k) in
      Whole entries arguments keeps_to p n (record m { heads = put m.heads (head_number k) (Some i); homes = put m.homes i (some (Some q)); views = set m.views id (saw_head (kinds.flown v i k above (entries q)) (head_number k) (Some i)) }) (record u { stage = put u.stage i (InHand id (Flying k above)); order = linked_order u.order i k above }))
  whole_link i q e x is num says method placing free may others args call parked task =
      let k = key x.object x.method in let above = m.heads (head_number k) in let w : View = kinds.flown v i k above (entries q) in
      let m' : Moment P = record m { heads = put m.heads (head_number k) (Some i); homes = put m.homes i (some (Some q)) } in let u' : Unseen = record u { stage = put u.stage i (InHand id (Flying k above)); order = linked_order u.order i k above } in
      let was = law.stands.hands.holds id v at i Placing placing in let t = agreeing.it entries arguments keeps_to p n small m u law id v at i (InHand id Placing) was in
      let other : (j l : ℕ) → u.order.bag j ≡ Some l → j ≢ i = (λ j l b q. let z : Path (Option ℕ) None (Some l) = sym t.5 ∙ sym (ap u.order.bag q) ∙ b in cc) in
      let linked : (j l : ℕ) → u.order.bag j ≡ Some l → (put u.order.bag i (Some k) j ≡ Some l) × (put u.order.rank i u.order.clock j ≡ u.order.rank j) = (λ j l b. (put_else u.order.bag i (Some k) j (other j l b) ∙ b, put_else u.order.rank i u.order.clock j (other j l b))) in
      let newer : (j l : ℕ) → put u.order.bag i (Some k) j ≡ Some l → (u.order.bag j ≡ Some l) ⊎ ((x z : ℕ) → u.order.bag x ≡ Some z → u.order.rank x < put u.order.rank i u.order.clock j) = (λ j l b. link_newer u.order law.bags i k j l b) in
      whole_step (record m' { views = set m.views id (saw_head w (head_number k) (Some i)) }) u' (saw_head w (head_number k) (Some i)) refl
      (looked_too m' u' w (saw_head w (head_number k) (Some i)).looked refl (agreeing.agrees_link entries arguments keeps_to p n small m u law id v at law.tabled i q e x is num says method placing free may others args call parked task))
      refl refl refl (omega arith) (λ j a. a) (λ j c. c) linked newer whole.woken.none whole.places
      (record {
        armed = mine.armed;
        ways = λ y h. way_stays n m.cells m.cells u.order (linked_order u.order i k above) y linked newer (λ j c. c) (mine.ways y h);
        told = mine.told;
        counted = mine.counted;
        ended = not_gone (saw_head w (head_number k) (Some i)) refl;
      })
      (none_drawn (saw_head w (head_number k) (Some i)) refl)
      (λ r. remembers_head m.count m.heads m.cells v.looked r (head_number k) (Some i))

  -- the cell of a message in flight
  flying_word : (i : ℕ) → v.flight ≡ Some i → m.cells i ≡ empty_word
  flying_word i flying = (agreeing.it entries arguments keeps_to p n small m u law id v at i (InHand id (Flying v.bag v.above)) (law.stands.hands.holds id v at i (Flying v.bag v.above) (flying, refl, refl))).3

  -- the cell of a claimed message
  claimed_word : (c : Claim) → HasThe c v.claims → m.cells c.number ≡ record { cell = a_cell.Claimed; next = c.next }
  claimed_word c has = (agreeing.it entries arguments keeps_to p n small m u law id v at c.number (InHand id (Claiming c)) (law.stands.hands.holds id v at c.number (Claiming c) (has, refl))).2

  -- a linked message is armed
  pub whole_arm : (i : ℕ) → v.flight ≡ Some i
      → Whole entries arguments keeps_to p n (record m { cells = put m.cells i (record { cell = a_cell.Pending; next = v.above }); views = set m.views id (saw (kinds.armed v i) i (record { cell = a_cell.Pending; next = v.above })) }) (record u { stage = put u.stage i Armed })
  whole_arm i flying = let x : Word = record { cell = a_cell.Pending; next = v.above } in whole_cell i x m.homes (put u.stage i Armed) (kinds.armed v i) refl (λ _. tt) (λ c. absurd (subst (λ (w : Word). IsConsumed w.cell) (flying_word i flying) c)) (λ z e. absurd (cc))
      (λ d h. ⊎_elim (λ e. inr (subst (λ (j : ℕ). IsArmed (cell_of (put m.cells i x) j)) (sym (ap (λ (z : Duty). z.message) e)) (subst (λ (c : Word). IsArmed c.cell) (sym (put_here m.cells i x)) tt))) inl h) refl refl refl refl refl
      (agreeing.agrees_arm entries arguments keeps_to p n small m u law id v at i flying)

  -- a pending message is claimed
  pub whole_claim : (i : ℕ) (next : Option ℕ) (x : Message) → m.cells i ≡ record { cell = a_cell.Pending; next = next } → message_in (said_at i u.journal) ≡ Some x
      → Whole entries arguments keeps_to p n (record m { cells = put m.cells i (record { cell = a_cell.Claimed; next = next }); views = set m.views id (saw (claimed v (claim_on i next x)) i (record { cell = a_cell.Claimed; next = next })) }) (record u { stage = put u.stage i (InHand id (Claiming (claim_on i next x))) })
  whole_claim i next x is says = whole_cell i (record { cell = a_cell.Claimed; next = next }) m.homes (put u.stage i (InHand id (Claiming (claim_on i next x)))) (claimed v (claim_on i next x)) refl (λ _. tt) (λ c. absurd (subst (λ (w : Word). IsConsumed w.cell) is c)) (λ z e. absurd (cc)) (λ d h. inl h) refl refl refl refl refl
      (agreeing.agrees_claim entries arguments keeps_to p n small m u law id v at i next x is says)

  -- a claim for no firing is given back
  pub whole_give_back : (c : Claim) → HasThe c v.claims → c.firing ≡ None
      → Whole entries arguments keeps_to p n (record m { cells = put m.cells c.number (record { cell = a_cell.Pending; next = c.next }); views = set m.views id (saw (kinds.unclaimed v c.number) c.number (record { cell = a_cell.Pending; next = c.next })) }) (record u { stage = put u.stage c.number Armed })
  whole_give_back c has free = whole_cell c.number (record { cell = a_cell.Pending; next = c.next }) m.homes (put u.stage c.number Armed) (kinds.unclaimed v c.number) refl (λ _. tt) (λ d. absurd (subst (λ (w : Word). IsConsumed w.cell) (claimed_word c has) d)) (λ z e. absurd (cc)) (λ d h. inl h) refl refl refl refl refl
      (agreeing.agrees_give_back entries arguments keeps_to p n small m u law id v at c has free)

  -- a message that is claimed for a firing is consumed
  pub whole_consume : (c : Claim) (f : ℕ) (q : P) → HasThe c v.claims → c.firing ≡ Some f → v.emptying ≡ None → m.homes c.number ≡ some (Some q)
      → Whole entries arguments keeps_to p n (record m { cells = put m.cells c.number (record { cell = a_cell.Consumed; next = c.next }); homes = put m.homes c.number none; views = set m.views id (saw (kinds.consumed v c.number (entries q)) c.number (record { cell = a_cell.Consumed; next = c.next })) })
      (record u { stage = put u.stage c.number (InHand id Emptying) })
  whole_consume c f q has for free home = whole_cell c.number (record { cell = a_cell.Consumed; next = c.next }) (put m.homes c.number none) (put u.stage c.number (InHand id Emptying)) (kinds.consumed v c.number (entries q)) refl (λ _. tt) (λ _. tt) (λ z e. absurd (cc))
      (λ d h. inl (agreeing.was_duty d c.number v.duties h)) refl refl refl refl refl (agreeing.agrees_consume entries arguments keeps_to p n small m u law id v at c f q has for free home)

  -- the slot of a consumed message is home again
  pub whole_empty : (i : ℕ) → v.emptying ≡ Some i → Whole entries arguments keeps_to p n (record m { homes = put m.homes i (some None); views = set m.views id (kinds.emptied v) }) (record u { stage = put u.stage i Spent })
  whole_empty i emptying = whole_still m.places (put m.homes i (some None)) (put u.stage i Spent) (kinds.emptied v) refl (λ d h. h) refl refl refl refl refl whole.places (agreeing.agrees_empty entries arguments keeps_to p n small m u law id v at i emptying)

  -- ## Firings

  -- the slot of a firing comes out
  pub whole_posting : (f : ℕ) → HasNumber f v.unposted → v.posting ≡ None → Whole entries arguments keeps_to p n (record m { homes = put m.homes f none; views = set m.views id (kinds.posting v f) }) (record u { stage = put u.stage f (InHand id Posting) })
  whole_posting f has free = whole_still m.places (put m.homes f none) (put u.stage f (InHand id Posting)) (kinds.posting v f) refl (λ d h. h) refl refl refl refl refl whole.places (agreeing.agrees_posting entries arguments keeps_to p n small m u law id v at f has free)

  -- a firing is posted
  pub whole_post : (f : ℕ) (q : P) → v.posting ≡ Some f → MayGo p v.kept (entries q) → ((e : Entry) (x : Message) → IsIn e (entries q) → message_of e.what ≡ Some x → IsUnlinked (hand v) e.number → ⊥)
      → BeginsThere f (entries q) → ((e : Entry) → IsIn e (entries q) → e.body ≡ f → e.number ≡ f) → ((b : ℕ) → (b ≡ f → ⊥) → BeginsThere b (entries q) → IsParkedThere p (entries q) None (doing p (entries q) b)) → keeps_to q
      → Whole entries arguments keeps_to p n (record m { cells = put m.cells f (record { cell = a_cell.Ready; next = None }); homes = put m.homes f (some (Some q)); views = set m.views id (saw (kinds.posted v (entries q)) f (record { cell = a_cell.Ready; next = None })) }) (record u { stage = put u.stage f Posted })
  whole_post f q posting may others begins only parked task = let t = agreeing.it entries arguments keeps_to p n small m u law id v at f (InHand id Posting) (law.stands.hands.holds id v at f Posting posting) in
      whole_cell f (record { cell = a_cell.Ready; next = None }) (put m.homes f (some (Some q))) (put u.stage f Posted) (kinds.posted v (entries q)) refl (λ a. absurd (subst (λ (c : Word). IsArmed c.cell) t.1 a)) (λ a. absurd (subst (λ (c : Word). IsConsumed c.cell) t.1 a)) (λ z e. absurd (cc)) (λ d h. inl h) refl refl refl refl refl
      (agreeing.agrees_post entries arguments keeps_to p n small m u law id v at f q posting may others begins only parked task)

  -- a ready firing is started
  pub whole_start : (f : ℕ) (q : P) → (m.cells f).cell ≡ a_cell.Ready → v.starting ≡ None → m.homes f ≡ some (Some q)
      → Whole entries arguments keeps_to p n (record m { cells = put m.cells f (record { cell = a_cell.Started; next = None }); homes = put m.homes f none; views = set m.views id (saw (kinds.firing_started v f (entries q)) f (record { cell = a_cell.Started; next = None })) }) (record u { stage = put u.stage f (InHand id Starting) })
  whole_start f q is free home = whole_cell f (record { cell = a_cell.Started; next = None }) (put m.homes f none) (put u.stage f (InHand id Starting)) (kinds.firing_started v f (entries q)) refl (λ a. absurd (subst IsArmed is a)) (λ a. absurd (subst IsConsumed is a)) (λ z e. absurd (cc)) (λ d h. inl h) refl refl refl refl refl
      (agreeing.agrees_start entries arguments keeps_to p n small m u law id v at f q is free home)

  -- the slot of a started firing is home again
  pub whole_play : (f : ℕ) → v.starting ≡ Some f → Whole entries arguments keeps_to p n (record m { homes = put m.homes f (some None); views = set m.views id (kinds.played v) }) (record u { stage = put u.stage f Played })
  whole_play f starting = whole_still m.places (put m.homes f (some None)) (put u.stage f Played) (kinds.played v) refl (λ d h. h) refl refl refl refl refl whole.places (agreeing.agrees_play entries arguments keeps_to p n small m u law id v at f starting)

  -- ## Desks

  -- the whole rule still holds once the first desk lends one
  pub whole_split : v.first ≡ true → v.splits < 65535 → Whole entries arguments keeps_to p n (record m { views = set m.views id (kinds.lent_one v) ++ newcomer ∷ [] }) u
  whole_split is_first few = record {
    agrees = agreeing.agrees_split entries arguments keeps_to p n small m u law id v at is_first few;
    desks = record {
      right = λ j y e. ⊎_elim
          (λ a. desks_after (λ j x. IsRightDesk n m.count m.cells u.order x) m.views id (kinds.lent_one v) (record { armed = mine.armed; ways = mine.ways; told = mine.told; counted = mine.counted; ended = not_gone (kinds.lent_one v) refl }) (λ j x ne b. whole.desks.right j x b) j y a)
          (λ t. subst (IsRightDesk n m.count m.cells u.order) t.1 (right_newcomer n m.count m.cells u.order)) (at_end (set m.views id (kinds.lent_one v)) newcomer y j e);
    };
    woken = whole.woken;
    places = whole.places;
    alone = alone_split m.count m.heads m.cells m.views whole.alone law.firsts.leads id v at here is_first;
    draws = drawing.draws_more (set m.views id (kinds.lent_one v)) u.journal (none_drawn (kinds.lent_one v) refl);
  }

  -- the whole rule still holds once the first desk takes over from a desk with no slot out, no message in flight and no claim
  pub whole_join : (other : ℕ) (w : View) → v.first ≡ true → other ≢ id → get_elem? m.views other ≡ some w → w.gone ≡ false → w.placing ≡ None → w.flight ≡ None → w.claims ≡ [] → w.emptying ≡ None → w.posting ≡ None → w.starting ≡ None
      → Whole entries arguments keeps_to p n (record m { views = set (set m.views id (kinds.united v w)) other gone }) (record u { stage = λ i. kinds.heir id other (u.stage i) })
  whole_join other w is_first apart there there_here placing flight claims emptying posting starting = record {
    agrees = agreeing.agrees_join entries arguments keeps_to p n small m u law id v at other w is_first apart there placing flight claims emptying posting starting;
    desks = record {
      right = desks_after (λ j x. IsRightDesk n m.count m.cells u.order x) (set m.views id (kinds.united v w)) other gone (right_gone n m.count m.cells u.order)
          (λ j x ne e. desks_after (λ j x. IsRightDesk n m.count m.cells u.order x) m.views id (kinds.united v w)
          (record {
            armed = λ d h. let r = agreeing.has_reset d (v.duties ++ w.duties) h in
                subst (λ (z : Duty). IsArmed (cell_of m.cells z.message)) (sym r.2) (⊎_elim (λ k. mine.armed r.0 k) (λ k. (whole.desks.right other w there).armed r.0 k) (agreeing.has_either r.0 v.duties w.duties r.1));
            ways = λ y h. absurd h;
            told = λ still spent. told_either (n ≤ m.count) v.spent w.spent (mine.told here) ((whole.desks.right other w there).told there_here) spent;
            counted = λ c e. absurd (let z : Path (Option ℕ) None (Some c) = e in cc);
            ended = not_gone (kinds.united v w) refl;
          })
          (λ j x ne b. whole.desks.right j x b) j x e);
    };
    woken = whole.woken;
    places = whole.places;
    alone = alone_join m.count m.heads m.cells m.views whole.alone law.firsts.leads id v at here other w is_first apart there
        (other_live m.count m.heads m.cells m.views whole.alone law.firsts.leads other w there there_here (λ z. apart (z ∙ sym (law.firsts.leads id v at is_first))));
    draws = drawing.draws_join m.views u.journal whole.draws id v (kinds.united v w) at (past_rises p u.journal law.stands.keeping.merged.past) other w apart there refl;
  }

  -- ## Looks

  -- what the desk does in its looks and its duties alone keeps the whole rule where it keeps its parts
  whole_view : (w : View) → After m u w → w.first ≡ v.first → w.gone ≡ v.gone → w.lent ≡ v.lent → w.spent ≡ v.spent → w.draws ≡ v.draws → ((d : Duty) → HasDuty d w.duties → IsArmed (cell_of m.cells d.message)) → ((x : Way) → HasWay x w.looked.ways → WayLaw n m.cells u.order x)
      → ((c : ℕ) → w.looked.count ≡ Some c → c ≤ m.count) → (Remembers m.count m.heads m.cells v.looked → Remembers m.count m.heads m.cells w.looked) → Whole entries arguments keeps_to p n (record m { views = set m.views id w }) u
  whole_view w after first gone_same lent spent same_draws armed ways counted remembers = whole_step (record m { views = set m.views id w }) u w refl after first gone_same lent (omega arith)
      (λ i a. a) (λ i c. c) (λ i k b. (b, refl)) (λ i k b. inl b) whole.woken.none whole.places
      (record { armed = armed; ways = ways; told = λ e s. mine.told (sym gone_same ∙ e) (sym spent ∙ s); counted = counted; ended = not_gone w gone_same }) (none_drawn w same_draws) remembers

  -- what is linked is a number of the table
  pub linked_below : (i k : ℕ) → u.order.bag i ≡ Some k → i < n
  linked_below i k b = bagging.linked_low entries arguments keeps_to p n small m u law.stands law.heads law.bags i k (u.stage i) refl b

  -- a look at the counter
  pub whole_look_count : Whole entries arguments keeps_to p n (record m { views = set m.views id (saw_count v m.count) }) u
  whole_look_count = whole_view (saw_count v m.count) (agreeing.agrees_still entries arguments keeps_to p n small m u law id v at (saw_count v m.count) refl refl refl refl refl refl refl refl) refl refl refl refl refl mine.armed mine.ways
      (λ c e. let z : m.count ≡ c = (let y : Path (Option ℕ) (Some m.count) (Some c) = e in cc) in omega (arith, z))
      (λ r. remembers_count m.count m.heads m.cells v.looked r m.count)

  -- a look at the head of the bag k
  pub whole_look_head : (k : ℕ) (linked : List ℕ) → WereLinked u.order (head_number k) linked → Whole entries arguments keeps_to p n (record m { views = set m.views id (kinds.looked_head v k linked (m.heads (head_number k))) }) u
  whole_look_head k linked are = whole_view (kinds.looked_head v k linked (m.heads (head_number k))) (looking.agrees_look_head entries arguments keeps_to p n small m u law id v at k linked) refl refl refl refl refl
      (λ d h. let r = looking.has_mapped (start_walk k (m.heads (head_number k))) d v.duties h in subst (λ (z : Duty). IsArmed (cell_of m.cells z.message)) (sym r.2) (mine.armed r.0 r.1))
      begun_ways
      mine.counted
      (λ r. let z = remembers_look_head m.count m.heads m.cells v.looked r (head_number k) in record { counter = z.counter; head = z.head; cell = z.cell })
    where
      begun_ways : (x : Way) → HasWay x (way_begun k linked (m.heads (head_number k)) ∷ v.looked.ways) → WayLaw n m.cells u.order x
      begun_ways x (inl e) = subst (WayLaw n m.cells u.order) (sym e) (begun_law (IsKey u.journal) n m.cells m.heads u.order law.bags linked_below law.heads k linked are)
      begun_ways x (inr h) = mine.ways x h

  -- the next of an armed message is a number of the table
  pub next_below : (i x : ℕ) → IsArmed (cell_of m.cells i) → (m.cells i).next ≡ Some x → x < n
  next_below i x a e = let b = law.bags.armed i a in linked_below x b.0.0 ((law.bags.nexts_lead i b.0.0 b.0.1).inside x (sym b.1 ∙ e)).0

  -- a linked message has a cell of a linked one
  pub linked_cell : (i k : ℕ) → u.order.bag i ≡ Some k → IsLinkedCell (m.cells i).cell
  linked_cell i k b = go (u.stage i) refl
    where
      it : (s : Stage) → u.stage i ≡ s → agreeing.It entries arguments keeps_to p n small m u law id v at i s
      it s e = agreeing.it entries arguments keeps_to p n small m u law id v at i s e

      linked_open : (c : Cell) → IsOpen c → IsLinkedCell c
      linked_open a_cell.Pending t = tt
      linked_open (a_cell.Woken q) t = tt
      linked_open a_cell.Empty t = tt
      linked_open a_cell.Claimed t = tt
      linked_open a_cell.Consumed t = tt
      linked_open a_cell.Ready t = t
      linked_open a_cell.Started t = t

      go : (s : Stage) → u.stage i ≡ s → IsLinkedCell (m.cells i).cell
      go Vacant e = absurd (let z = sym (it Vacant e).1.unlinked ∙ b in cc)
      go (InHand j Fresh) e = absurd (let z = sym (it (InHand j Fresh) e).1.unlinked ∙ b in cc)
      go (InHand j Placing) e = absurd (let z = sym (it (InHand j Placing) e).5 ∙ b in cc)
      go (InHand j (Flying l a)) e = subst (λ (c : Word). IsLinkedCell c.cell) (sym (it (InHand j (Flying l a)) e).3) tt
      go (InHand j (Claiming c)) e = subst (λ (c : Word). IsLinkedCell c.cell) (sym (it (InHand j (Claiming c)) e).2) tt
      go (InHand j Emptying) e = subst IsLinkedCell (sym (it (InHand j Emptying) e).3) tt
      go (InHand j Unposted) e = absurd (let z = sym (it (InHand j Unposted) e).1.unlinked ∙ b in cc)
      go (InHand j Posting) e = absurd (let z = sym (it (InHand j Posting) e).4 ∙ b in cc)
      go (InHand j Starting) e = absurd (let z = sym (it (InHand j Starting) e).4 ∙ b in cc)
      go Armed e = linked_open (m.cells i).cell (it Armed e).3
      go Spent e = subst IsLinkedCell (sym (it Spent e).3) tt
      go Posted e = absurd (let z = sym (it Posted e).4 ∙ b in cc)
      go Played e = absurd (let z = sym (it Played e).4 ∙ b in cc)

  -- a look at the cell i
  pub whole_look_cell : (i : ℕ) → Whole entries arguments keeps_to p n (record m { views = set m.views id (kinds.looked_cell v i (m.cells i)) }) u
  whole_look_cell i = whole_view (kinds.looked_cell v i (m.cells i)) (looking.agrees_look_cell entries arguments keeps_to p n small m u law id v at i) refl refl refl refl refl
      (λ d h. armed (kinds.is_down (m.cells i).cell) d h) (on_law (IsKey u.journal) n m.cells m.heads u.order law.bags linked_below v.looked.ways i (λ k b. linked_cell i k b) mine.ways) mine.counted
      (λ r. let z = remembers_look m.count m.heads m.cells v.looked r i in record { counter = z.counter; head = z.head; cell = z.cell })
    where
      armed : (b : Bool) (d : Duty) → HasDuty d (if b then map (move_duty i (m.cells i).next) v.duties else v.duties) → IsArmed (cell_of m.cells d.message)
      armed true d h = let r = looking.has_mapped (move_duty i (m.cells i).next) d v.duties h in subst (λ (z : Duty). IsArmed (cell_of m.cells z.message)) (sym r.2) (mine.armed r.0 r.1)
      armed false d h = mine.armed d h

  -- what an exchange that fails reads in the cell i
  pub whole_saw : (i : ℕ) → Whole entries arguments keeps_to p n (record m { views = set m.views id (saw v i (m.cells i)) }) u
  whole_saw i = whole_view (saw v i (m.cells i)) (looking.agrees_saw entries arguments keeps_to p n small m u law id v at i) refl refl refl refl refl mine.armed mine.ways mine.counted (λ r. remembers_look m.count m.heads m.cells v.looked r i)

  -- what an exchange that fails reads in a head
  pub whole_saw_head : (head : ℕ) → Whole entries arguments keeps_to p n (record m { views = set m.views id (saw_head v head (m.heads head)) }) u
  whole_saw_head head = whole_view (saw_head v head (m.heads head)) (agreeing.agrees_still entries arguments keeps_to p n small m u law id v at (saw_head v head (m.heads head)) refl refl refl refl refl refl refl refl) refl refl refl refl refl mine.armed mine.ways mine.counted
      (λ r. remembers_look_head m.count m.heads m.cells v.looked r head)

  -- a duty is laid down
  pub whole_rest : (i : ℕ) → ((d : Duty) → HasDuty d v.duties → d.message ≡ i → MayRest (IsChord p) d) → Whole entries arguments keeps_to p n (record m { views = set m.views id (kinds.rested v i) }) u
  whole_rest i may = whole_view (kinds.rested v i) (looking.agrees_rest entries arguments keeps_to p n small m u law id v at i may) refl refl refl refl refl (λ d h. mine.armed d (agreeing.was_duty d i v.duties h)) mine.ways mine.counted (λ r. r)
