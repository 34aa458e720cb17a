-- Each kind of step keeps the whole rule: the lemmas on its laws, put together.
use Rattle.std.proofs.Common.{length, ◌≡◌, ◌≢◌, ◌⊎◌, inl, inr, ⊎_elim, ℕ, ◌+◌, ◌<◌, ◌≤◌, eqb, not, if◌then◌else◌, Bool, true, false, List, [], ◌∷◌, ◌++◌, map, set, slice_get, refl, sym, ap, ◌∙◌, subst, arith, Option, Some, None}
use Rattle.std.proofs.lemmas.Bool.{eqb-true}
use mathlib.Core.Path.{Path}
use mathlib.Core.Logic.{dite}
use mathlib.Core.Option.{some, none, some-injective}
use native.Mathlib.Decide.{ℕ_discrete}
use Rattle.atomic_table.proofs.Lists.{at_set, at_longer, set_here, set_else}
use lib.ListN.{get_elem?}
use Rattle.chord_base.specs.Meaning.{Program}
use Rattle.chord_base.specs.Bodies.{Asks, doing}
use Rattle.chord_base.specs.Messages.{Message, message_of, has, IsCall}
use Rattle.chord_base.specs.Story.{IsOwn, IsIn, AllBelow}
use Rattle.chord_base.specs.Machine.{IsPast}
use Rattle.chord_rule.specs.Made.{Names}
use Rattle.chord_rule.proofs.KeySteps.{names_low}
use Rattle.chord_base.specs.declared.value.Object.{Object}
use Rattle.chord_base.specs.declared.value.Value as value
use Rattle.chord_base.specs.declared.event.What.{What}
use Rattle.chord_base.specs.declared.event.What.TheVariants.{Begun, Fired}
use Rattle.chord_base.specs.declared.event.Entry.{Entry}
use Rattle.chord_word.specs.declared.cells.Cell.TheVariants as a_cell
use Rattle.chord_word.specs.declared.cells.Cell.{Cell}
use Rattle.chord_word.specs.declared.cells.Word.{Word}
use Rattle.chord_rule.specs.declared.view.Claim.{Claim}
use Rattle.chord_rule.specs.declared.view.Duty.{Duty}
use Rattle.chord_rule.specs.declared.view.View.{View}
use Rattle.chord_rule.specs.Moment.{Moment}
use Rattle.chord_rule.specs.Numbers.{HasNumber, one_if}
use Rattle.chord_rule.specs.Kinds.{newcomer, gone, MayGo, entry, drew, was_told, claimed}
use Rattle.chord_rule.specs.Counting.{Counting}
use Rattle.chord_rule.specs.Bags.{LinkOrder, IsStanding, IsArmed, IsConsumed, head_number, cell_of}
use Rattle.chord_rule.specs.Duties.{HasDuty, DutyLaw, drop_duty, reset_duty, Carries, IsCarried}
use Rattle.chord_rule.specs.Made.{IsTabled, IsKey, IsChord, key}
use Rattle.chord_rule.specs.Claims.{HasThe, AreClaimed}
use Rattle.chord_rule.specs.Parcels.{BeginsThere, IsParkedThere}
use Rattle.chord_rule.specs.Stages.{Placing, Flying, Claiming, Emptying, Posting, Starting, Stage, InHand, Armed, Spent, Posted, Played, said_at, message_in}
use Rattle.chord_rule.specs.Hands.{hand, IsUnlinked}
use Rattle.chord_rule.specs.Messages.{IsOpen, Stands}
use Rattle.chord_rule.specs.Kinds as kinds
use Rattle.chord_rule.specs.StandsFor.{Unseen}
use Rattle.chord_rule.specs.Agrees.{Tied, Agrees}
use Rattle.chord_rule.proofs.Puts.{put, put_else, put_all, at_inside, at_end}
use Rattle.chord_rule.proofs.Frames.{desks_after}
use Rattle.chord_rule.proofs.Counting.{counts, told_set}
use Rattle.chord_rule.proofs.FirstSteps.{firsts_stay, firsts_draw, firsts_told, firsts_split, firsts_join, counting_split, counting_join}
use Rattle.chord_rule.proofs.BagSteps.{linked_order, cell_step}
use Rattle.chord_rule.proofs.DutySteps.{has_map, arm_duty, take_duty, stay_duty, link_duty}
use Rattle.chord_rule.specs.Looks.{Looks}
use Rattle.chord_rule.proofs.LookSteps.{looks_more, looks_stay, looks_same, looks_cell, looks_join}
use Rattle.chord_rule.proofs.MessageSteps.{claim_on}
use Rattle.chord_rule.proofs.Bagging as bagging
use Rattle.chord_rule.proofs.Standing as standing

-- a duty is laid down, or was there
pub has_duty : (d : Duty) (x : ℕ) (ds : List Duty) → HasDuty d ds → HasDuty d (drop_duty x ds) ⊎ (d.message ≡ x)
has_duty d x [] h = absurd h
has_duty d x (e ∷ es) h = cases (eqb e.message x) refl h (λ k. has_duty d x es k)
  where
    cases : (b : Bool) → eqb e.message x ≡ b → HasDuty d (e ∷ es) → (HasDuty d es → HasDuty d (drop_duty x es) ⊎ (d.message ≡ x)) → HasDuty d (if not b then e ∷ drop_duty x es else drop_duty x es) ⊎ (d.message ≡ x)
    cases true q k later = ⊎_elim (λ z. inr (ap (λ (y : Duty). y.message) z ∙ eqb-true e.message x q)) later k
    cases false q k later = ⊎_elim (λ z. inl (inl z)) (λ z. ⊎_elim (λ y. inl (inr y)) inr (later z)) k

-- a duty that is left after some were dropped was there before
pub was_duty : (d : Duty) (x : ℕ) (ds : List Duty) → HasDuty d (drop_duty x ds) → HasDuty d ds
was_duty d x [] h = h
was_duty d x (e ∷ es) h = cases (eqb e.message x) h (λ k. was_duty d x es k)
  where
    cases : (b : Bool) → HasDuty d (if not b then e ∷ drop_duty x es else drop_duty x es) → (HasDuty d (drop_duty x es) → HasDuty d es) → HasDuty d (e ∷ es)
    cases true k later = inr (later k)
    cases false k later = ⊎_elim inl (λ z. inr (later z)) k

-- a duty of the first list is one of the two lists together
has_left : (d : Duty) (xs ys : List Duty) → HasDuty d xs → HasDuty d (xs ++ ys)
has_left d [] ys h = absurd h
has_left d (x ∷ xs) ys (inl e) = inl e
has_left d (x ∷ xs) ys (inr h) = inr (has_left d xs ys h)

-- a duty of the second list is one of the two lists together
has_right : (d : Duty) (xs ys : List Duty) → HasDuty d ys → HasDuty d (xs ++ ys)
has_right d [] ys h = h
has_right d (x ∷ xs) ys h = inr (has_right d xs ys h)

-- a duty of two lists together is one of the first, or of the second
pub has_either : (d : Duty) (xs ys : List Duty) → HasDuty d (xs ++ ys) → HasDuty d xs ⊎ HasDuty d ys
has_either d [] ys h = inr h
has_either d (x ∷ xs) ys (inl e) = inl (inl e)
has_either d (x ∷ xs) ys (inr h) = ⊎_elim (λ a. inl (inr a)) inr (has_either d xs ys h)

-- a duty without its walks was one of those with them
pub has_reset : (d : Duty) (ds : List Duty) → HasDuty d (map reset_duty ds) → (e : Duty) × HasDuty e ds × (d ≡ reset_duty e)
has_reset d [] h = absurd h
has_reset d (e ∷ es) (inl q) = (e, inl refl, q)
has_reset d (e ∷ es) (inr h) = let r = has_reset d es h in (r.0, inr r.1, r.2)

-- a duty whose walks are dropped carries all that it carried
reset_carries : (o : LinkOrder) (d : Duty) (xs : List ℕ) → Carries o d xs → Carries o (reset_duty d) xs
reset_carries o d xs c = record { on = refl; of = c.of; walks = λ w h. absurd h }

module _ {P : Type 0} (entries : P → List Entry) (arguments : P → List value.Value) (keeps_to : P → Type 0) (p : Program) (n : ℕ) (small : n ≤ 65536) (m : Moment P) (u : Unseen) (law : Agrees entries arguments keeps_to p n m u)
    (id : ℕ) (v : View) (at : get_elem? m.views id ≡ some v) where
  -- what this stage says of the number i holds of its entry, its cell, its place word, its slot, its bag and its next
  abbrev pub It : ℕ → Stage → Type 0
  It i s = Stands s (said_at i u.journal) (m.cells i) (m.places i) (m.homes i) (u.order.bag i) (u.order.next i)

  -- a number stands as its stage says
  pub it : (i : ℕ) (s : Stage) → u.stage i ≡ s → It i s
  it i s e = subst (It i) e (law.stands.messages.stands i)

  -- the claims of a desk on one number are one claim
  pub same_claim : (c d : Claim) → HasThe c v.claims → HasThe d v.claims → c.number ≡ d.number → c ≡ d
  same_claim c d a b e = let s : InHand id (Claiming c) ≡ InHand id (Claiming d) = sym (law.stands.hands.holds id v at c.number (Claiming c) (a, refl)) ∙ law.stands.hands.holds id v at c.number (Claiming d) (b, sym e) in cc

  -- the values of claimed members, laid together, are what the claims have
  pub same_values : (o : Object) (js ms : List ℕ) (vs ws : List value.Value) → AreClaimed v.claims o js ms vs → AreClaimed v.claims o js ms ws → vs ≡ ws
  same_values o [] [] vs ws a b = a ∙ sym b
  same_values o [] (i ∷ ms) vs ws a b = absurd a
  same_values o (j ∷ js) [] vs ws a b = absurd a
  same_values o (j ∷ js) (i ∷ ms) vs ws a b = let same = same_claim a.0 b.0 a.1 b.1 (a.2 ∙ sym b.2) in
      a.6.1 ∙ (λ k. (same k).values ++ same_values o js ms a.6.0 b.6.0 a.6.2 b.6.2 k) ∙ sym b.6.1

  -- a step that leaves the counter and the flag of the limit alone
  counting_stays : (w : View) → w.spent ≡ v.spent → w.splits ≡ v.splits → Counting n m.count (set m.views id w)
  counting_stays w a b = counts n m.count m.count m.views id v w law.counting at (let c = law.counting.bound in let t = told_set m.views id v w at in let f = ap one_if a in omega arith) (λ _. b)

  -- each desk knows the bags of its duties after a step that links nothing, if the desk that steps does
  tied_stays : (w : View) → ((d : Duty) → HasDuty d w.duties → u.order.bag d.message ≡ Some d.bag) → Tied (set m.views id w) u.order.bag
  tied_stays w mine = record { duties = desks_after (λ j x. (d : Duty) → HasDuty d x.duties → u.order.bag d.message ≡ Some d.bag) m.views id w mine (λ j x ne a. law.tied.duties j x a) }

  -- each desk knows the bags of its duties after a step that links nothing and keeps the duties of the desk that steps
  tied_same : (w : View) → w.duties ≡ v.duties → Tied (set m.views id w) u.order.bag
  tied_same w same = tied_stays w (λ d h. law.tied.duties id v at d (subst (HasDuty d) same h))

  -- no message begins to stand, and the desk keeps its duties
  duties_stay : (w : View) (cells : ℕ → Word) → w.duties ≡ v.duties → ((x : ℕ) → IsStanding (cell_of cells x) → IsStanding (cell_of m.cells x)) → ((q x : ℕ) → cell_of m.cells q ≡ a_cell.Woken x → cell_of cells q ≡ a_cell.Woken x) → DutyLaw (IsChord p) cells (set m.views id w) u.order
  duties_stay w cells same stood woken = stay_duty (IsKey u.journal) (IsChord p) m cells u.order id v w at stood woken (λ e h. subst (HasDuty e) (sym same) h) law.duties

  -- of one cell that was not woken: it stood, if it stands
  one_stood : (i : ℕ) (x : Word) → (IsStanding x.cell → IsStanding (cell_of m.cells i)) → (y : ℕ) → IsStanding (cell_of (put m.cells i x) y) → IsStanding (cell_of m.cells y)
  one_stood i x stood y s = put_all m.cells i x (λ y c. IsStanding c.cell → IsStanding (cell_of m.cells y)) y stood (λ ne t. t) s

  -- where a cell that was not woken is written, each woken cell names the same message as before
  one_woken : (i : ℕ) (x : Word) → ((z : ℕ) → cell_of m.cells i ≡ a_cell.Woken z → ⊥) → (q z : ℕ) → cell_of m.cells q ≡ a_cell.Woken z → cell_of (put m.cells i x) q ≡ a_cell.Woken z
  one_woken i x not_woken q z e = ap (λ (c : Word). c.cell) (put_else m.cells i x q (λ s. not_woken z (sym (ap (cell_of m.cells) s) ∙ e))) ∙ e

  -- the table still agrees where a view keeps all but its ways, what it remembers of the counter and of heads, `lent` and `gone`
  pub agrees_still : (w : View) → hand w ≡ hand v → w.kept ≡ v.kept → w.duties ≡ v.duties → w.spent ≡ v.spent → w.splits ≡ v.splits → w.first ≡ v.first → w.drawn ≡ v.drawn → w.looked.seen ≡ v.looked.seen → Agrees entries arguments keeps_to p n (record m { views = set m.views id w }) u
  agrees_still w same kept duties spent splits first drawn looked = record {
    tabled = law.tabled;
    counting = counting_stays w spent splits;
    firsts = firsts_stay n m.count m.views law.counting law.firsts id v at w first drawn splits;
    stands = standing.stands_still entries arguments keeps_to p n m u law.stands id v at w same kept;
    heads = law.heads;
    bags = law.bags;
    tied = tied_same w duties;
    looks = looks_same m.cells u.order m.views law.looks id v at w looked;
    duties = duties_stay w m.cells duties (λ x s. s) (λ q x e. e);
  }

  -- the table still agrees once the desk is told that the limit is reached
  pub agrees_told : 0 < n → n ≤ m.count → v.spent ≡ false → Agrees entries arguments keeps_to p n (record m { count = m.count + 1; views = set m.views id (was_told v) }) u
  agrees_told any full untold = let b = law.counting.bound in let t = told_set m.views id v (was_told v) at in let f : one_if v.spent ≡ 0 = ap one_if untold in record {
    tabled = law.tabled;
    counting = counts n m.count (m.count + 1) m.views id v (was_told v) law.counting at (omega arith) (λ _. refl);
    firsts = firsts_told n m.count m.views law.counting law.firsts id v at (m.count + 1) (was_told v) (omega (arith, any, full)) (omega arith) refl refl refl;
    stands = standing.stands_told entries arguments keeps_to p n m u law.stands id v at full;
    heads = law.heads;
    bags = law.bags;
    tied = tied_same (was_told v) refl;
    looks = looks_same m.cells u.order m.views law.looks id v at (was_told v) refl;
    duties = duties_stay (was_told v) m.cells refl (λ x s. s) (λ q x e. e);
  }

  -- the table still agrees once an own entry is drawn
  pub agrees_draw : (b : ℕ) (what : What) → m.count < n → IsOwn what → Asks p v.kept b what
      → Agrees entries arguments keeps_to p n (record m { count = m.count + 1; views = set m.views id (drew v m.count b what) }) (record u { journal = entry m.count b what ∷ u.journal; stage = kinds.drawn_stage id m.count what u.stage })
  agrees_draw b what room own asks = let keys = bagging.bag_draw entries arguments keeps_to p n small m u law.stands law.heads law.bags b what room in record {
    tabled = law.tabled;
    counting = counts n m.count (m.count + 1) m.views id v (drew v m.count b what) law.counting at (omega arith) (λ _. refl);
    firsts = firsts_draw n m.count m.views law.counting law.firsts id v at (m.count + 1) (drew v m.count b what) (omega arith) refl refl;
    stands = standing.stands_draw entries arguments keeps_to p n m u law.stands id v at b what room own asks;
    heads = keys.0;
    bags = keys.1;
    tied = tied_same (drew v m.count b what) refl;
    looks = looks_same m.cells u.order m.views law.looks id v at (drew v m.count b what) refl;
    duties = duties_stay (drew v m.count b what) m.cells refl (λ x s. s) (λ q x e. e);
  }

  -- what the draw of such a number tells: it is above all that the desk kept, and above each object that the new entry names
  pub drawn_above : (b : ℕ) (what : What) → m.count < n → (h : List Entry) → IsPast p (entry m.count b what ∷ h) → length h ≡ m.count → AllBelow m.count v.kept × ((o : Object) → Names what o → o.number < m.count)
  drawn_above b what room h past long = (standing.desk_below entries arguments keeps_to p n m u law.stands id v at, λ o names. let l = names_low p (entry m.count b what) h law.tabled past o names in omega arith)

  -- the first desk begins Main: it has neither drawn nor been split
  pub agrees_begun : 0 < n → v.first ≡ true → v.drawn ≡ false → v.splits ≡ 0
      → Agrees entries arguments keeps_to p n (record m { count = m.count + 1; views = set m.views id (drew v m.count 0 Begun) }) (record u { journal = entry m.count 0 Begun ∷ u.journal; stage = u.stage })
  agrees_begun any is_first not_drawn not_split =
      let none_drawn = law.firsts.untouched v (ap (get_elem? m.views) (sym (law.firsts.leads id v at is_first)) ∙ at) not_drawn not_split in
      let keys = bagging.bag_draw entries arguments keeps_to p n small m u law.stands law.heads law.bags 0 Begun (omega (arith, none_drawn, any)) in record {
        tabled = law.tabled;
        counting = counts n m.count (m.count + 1) m.views id v (drew v m.count 0 Begun) law.counting at (omega (arith, none_drawn, any)) (λ _. refl);
        firsts = firsts_draw n m.count m.views law.counting law.firsts id v at (m.count + 1) (drew v m.count 0 Begun) (omega arith) refl refl;
        stands = standing.stands_begun entries arguments keeps_to p n m u law.stands id v at none_drawn any;
        heads = keys.0;
        bags = keys.1;
        tied = tied_same (drew v m.count 0 Begun) refl;
        looks = looks_same m.cells u.order m.views law.looks id v at (drew v m.count 0 Begun) refl;
        duties = duties_stay (drew v m.count 0 Begun) m.cells refl (λ x s. s) (λ q x e. e);
      }

  -- the table still agrees once a firing is drawn with claims on its members
  pub agrees_draw_firing : (k : ℕ) (object : Object) (js ms : List ℕ) (vs : List value.Value) → m.count < n → slice_get (p.chords object.class) k ≡ Some js → AreClaimed v.claims object js ms vs
      → Agrees entries arguments keeps_to p n (record m { count = m.count + 1; views = set m.views id (kinds.firing_drawn v m.count k object ms vs) })
      (record u { journal = entry m.count m.count (Fired k object ms vs) ∷ u.journal; stage = kinds.fired_stage id m.count ms u.stage })
  agrees_draw_firing k object js ms vs room chord members = let w : View = kinds.firing_drawn v m.count k object ms vs in let keys = bagging.bag_draw entries arguments keeps_to p n small m u law.stands law.heads law.bags m.count (Fired k object ms vs) room in record {
    tabled = law.tabled;
    counting = counts n m.count (m.count + 1) m.views id v w law.counting at (omega arith) (λ _. refl);
    firsts = firsts_draw n m.count m.views law.counting law.firsts id v at (m.count + 1) w (omega arith) refl refl;
    stands = standing.stands_draw_firing entries arguments keeps_to p n m u law.stands id v at k object js ms vs room chord members;
    heads = keys.0;
    bags = keys.1;
    tied = tied_same w refl;
    looks = looks_same m.cells u.order m.views law.looks id v at w refl;
    duties = duties_stay w m.cells refl (λ x s. s) (λ q x e. e);
  }

  -- the table still agrees once the place word of a message is set and its slot is out
  pub agrees_place : (i : ℕ) (e : Entry) (x : Message) → IsIn e v.kept → e.number ≡ i → message_of e.what ≡ Some x → HasNumber i v.fresh → v.placing ≡ None
      → Agrees entries arguments keeps_to p n (record m { places = put m.places i (Some (x.object, x.method)); homes = put m.homes i none; views = set m.views id (kinds.address_set v i) }) (record u { stage = put u.stage i (InHand id Placing) })
  agrees_place i e x is num says has free = record {
    tabled = law.tabled;
    counting = counting_stays (kinds.address_set v i) refl refl;
    firsts = firsts_stay n m.count m.views law.counting law.firsts id v at (kinds.address_set v i) refl refl refl;
    stands = standing.stands_place entries arguments keeps_to p n m u law.stands id v at i e x is num says has free;
    heads = law.heads;
    bags = law.bags;
    tied = tied_same (kinds.address_set v i) refl;
    looks = looks_same m.cells u.order m.views law.looks id v at (kinds.address_set v i) refl;
    duties = duties_stay (kinds.address_set v i) m.cells refl (λ x s. s) (λ q x e. e);
  }

  -- the table still agrees once a message is linked at the head of its bag and its parcel is in its slot
  pub agrees_link : IsTabled p → (i : ℕ) (q : P) (e : Entry) (x : Message) → IsIn e v.kept → e.number ≡ i → message_of e.what ≡ Some x → x.method < 16 → v.placing ≡ Some i → v.flight ≡ None
      → MayGo p v.kept (entries q) → ((e : Entry) (x : Message) → IsIn e (entries q) → message_of e.what ≡ Some x → (e.number ≡ i) ⊎ (IsUnlinked (hand v) e.number → ⊥)) → x.arguments ≡ arguments q → ((e : Entry) → IsIn e v.kept → IsCall i e → IsIn e (entries q))
      → ((b : ℕ) → BeginsThere b (entries q) → IsParkedThere p (entries q) (Some i) (doing p (entries q) b)) → keeps_to q
      → (let k = key x.object x.method in let above = m.heads (head_number k) in
      Agrees entries arguments keeps_to p n (record m { heads = put m.heads (head_number k) (Some i); homes = put m.homes i (some (Some q)); views = set m.views id (kinds.flown v i k above (entries q)) }) (record u { stage = put u.stage i (InHand id (Flying k above)); order = linked_order u.order i k above }))
  agrees_link tabled i q e x is num says method placing free may others args call parked task =
      let k = key x.object x.method in let above = m.heads (head_number k) in let w : View = kinds.flown v i k above (entries q) in
      let was = law.stands.hands.holds id v at i Placing placing in let t = it i (InHand id Placing) was in
      let there = standing.entry_says entries arguments keeps_to p n m u law.stands id v at e x i is num says in
      let linked = bagging.bag_link entries arguments keeps_to p n small m u law.stands law.heads law.bags tabled id i x there method was in
      let near : (j l : ℕ) → u.order.bag j ≡ Some l → put u.order.bag i (Some k) j ≡ Some l = (λ j l b. put_else u.order.bag i (Some k) j (λ q. let z : Path (Option ℕ) None (Some l) = sym t.5 ∙ sym (ap u.order.bag q) ∙ b in absurd (cc)) ∙ b) in record {
        tabled = law.tabled;
        counting = counting_stays w refl refl;
        firsts = firsts_stay n m.count m.views law.counting law.firsts id v at w refl refl refl;
        stands = standing.stands_link entries arguments keeps_to p n m u law.stands id v at i k above q e x is num says refl method placing free may others args call parked task (put m.heads (head_number k) (Some i));
        heads = linked.0;
        bags = linked.1;
        tied = record { duties = desks_after (λ j y. (d : Duty) → HasDuty d y.duties → put u.order.bag i (Some k) d.message ≡ Some d.bag) m.views id w (λ d h. near d.message d.bag (law.tied.duties id v at d h)) (λ j y ne a d h. near d.message d.bag (law.tied.duties j y a d h)) };
        looks = looks_stay m.cells u.order m.views law.looks id v at m.cells (linked_order u.order i k above) w (λ j a. (a, put_else u.order.next i above j (λ q. subst IsArmed (ap (cell_of m.cells) q ∙ ap (λ (c : Word). c.cell) t.2) a))) (λ j c. c) refl;
        duties = link_duty (IsKey u.journal) (IsChord p) m u.order i k above id v w at t.5 (ap (λ (c : Word). c.cell) t.2) (λ e h. h) law.bags law.duties;
      }

  -- the table still agrees once a linked message is armed
  pub agrees_arm : (i : ℕ) → v.flight ≡ Some i
      → Agrees entries arguments keeps_to p n (record m { cells = put m.cells i (record { cell = a_cell.Pending; next = v.above }); views = set m.views id (kinds.armed v i) }) (record u { stage = put u.stage i Armed })
  agrees_arm i flying = let was = law.stands.hands.holds id v at i (Flying v.bag v.above) (flying, refl, refl) in let t = it i (InHand id (Flying v.bag v.above)) was in record {
    tabled = law.tabled;
    counting = counting_stays (kinds.armed v i) refl refl;
    firsts = firsts_stay n m.count m.views law.counting law.firsts id v at (kinds.armed v i) refl refl refl;
    stands = standing.stands_arm entries arguments keeps_to p n m u law.stands id v at i flying;
    heads = law.heads;
    bags = bagging.bag_arm entries arguments keeps_to p n small m u law.stands law.heads law.bags id v at i flying;
    tied = tied_stays (kinds.armed v i) (λ d h. ⊎_elim (λ e. subst (λ (z : Duty). u.order.bag z.message ≡ Some z.bag) (sym e) t.5) (λ h. law.tied.duties id v at d h) h);
    looks = looks_cell m.cells u.order m.views law.looks id v at i (record { cell = a_cell.Pending; next = v.above }) (kinds.armed v i) (λ _. tt) (λ c. absurd (subst (λ (w : Word). IsConsumed w.cell) t.3 c)) refl;
    duties = arm_duty (IsKey u.journal) (IsChord p) m u.order id i v.bag (record { cell = a_cell.Pending; next = v.above }) v (kinds.armed v i) at (ap (λ (c : Word). c.cell) t.3) refl refl law.duties;
  }

  -- the table still agrees once a pending message is claimed
  pub agrees_claim : (i : ℕ) (next : Option ℕ) (x : Message) → m.cells i ≡ record { cell = a_cell.Pending; next = next } → message_in (said_at i u.journal) ≡ Some x
      → Agrees entries arguments keeps_to p n (record m { cells = put m.cells i (record { cell = a_cell.Claimed; next = next }); views = set m.views id (claimed v (claim_on i next x)) }) (record u { stage = put u.stage i (InHand id (Claiming (claim_on i next x))) })
  agrees_claim i next x is says = let w : View = claimed v (claim_on i next x) in let y : Word = record { cell = a_cell.Claimed; next = next } in record {
    tabled = law.tabled;
    counting = counting_stays w refl refl;
    firsts = firsts_stay n m.count m.views law.counting law.firsts id v at w refl refl refl;
    stands = standing.stands_claim entries arguments keeps_to p n m u law.stands id v at i next x is says;
    heads = law.heads;
    bags = bagging.bag_claim entries arguments keeps_to p n small m u law.stands law.heads law.bags i next is;
    tied = tied_same w refl;
    looks = looks_cell m.cells u.order m.views law.looks id v at i (y) w (λ _. tt) (λ c. absurd (subst (λ (z : Word). IsConsumed z.cell) is c)) refl;
    duties = duties_stay w (put m.cells i y) refl (one_stood i y (λ _. subst (λ (c : Word). IsStanding c.cell) (sym is) tt))
        (one_woken i y (λ z e. let t = sym (ap (λ (c : Word). c.cell) is) ∙ e in absurd (cc)));
  }

  -- the table still agrees once a claim for no firing is given back
  pub agrees_give_back : (c : Claim) → HasThe c v.claims → c.firing ≡ None
      → Agrees entries arguments keeps_to p n (record m { cells = put m.cells c.number (record { cell = a_cell.Pending; next = c.next }); views = set m.views id (kinds.unclaimed v c.number) }) (record u { stage = put u.stage c.number Armed })
  agrees_give_back c has free = let w : View = kinds.unclaimed v c.number in let y : Word = record { cell = a_cell.Pending; next = c.next } in let is = standing.claim_word entries arguments keeps_to p n m u law.stands id v at c has in record {
    tabled = law.tabled;
    counting = counting_stays w refl refl;
    firsts = firsts_stay n m.count m.views law.counting law.firsts id v at w refl refl refl;
    stands = standing.stands_give_back entries arguments keeps_to p n m u law.stands id v at c.number c has refl free;
    heads = law.heads;
    bags = bagging.bag_give_back entries arguments keeps_to p n small m u law.stands law.heads law.bags id v at c has;
    tied = tied_same w refl;
    looks = looks_cell m.cells u.order m.views law.looks id v at c.number (y) w (λ _. tt) (λ d. absurd (subst (λ (z : Word). IsConsumed z.cell) is d)) refl;
    duties = duties_stay w (put m.cells c.number y) refl (one_stood c.number y (λ _. subst (λ (c : Word). IsStanding c.cell) (sym is) tt))
        (one_woken c.number y (λ z e. let t = sym (ap (λ (c : Word). c.cell) is) ∙ e in absurd (cc)));
  }

  -- the table still agrees once a message that is claimed for a firing is consumed and its slot is out
  pub agrees_consume : (c : Claim) (f : ℕ) (q : P) → HasThe c v.claims → c.firing ≡ Some f → v.emptying ≡ None → m.homes c.number ≡ some (Some q)
      → Agrees entries arguments keeps_to p n (record m { cells = put m.cells c.number (record { cell = a_cell.Consumed; next = c.next }); homes = put m.homes c.number none; views = set m.views id (kinds.consumed v c.number (entries q)) })
      (record u { stage = put u.stage c.number (InHand id Emptying) })
  agrees_consume c f q has for free home = let w : View = kinds.consumed v c.number (entries q) in let y : Word = record { cell = a_cell.Consumed; next = c.next } in let is = standing.claim_word entries arguments keeps_to p n m u law.stands id v at c has in record {
    tabled = law.tabled;
    counting = counting_stays w refl refl;
    firsts = firsts_stay n m.count m.views law.counting law.firsts id v at w refl refl refl;
    stands = standing.stands_consume entries arguments keeps_to p n m u law.stands id v at c.number c f q has refl for free home;
    heads = law.heads;
    bags = bagging.bag_consume entries arguments keeps_to p n small m u law.stands law.heads law.bags id v at c has;
    tied = tied_stays w (λ d h. law.tied.duties id v at d (was_duty d c.number v.duties h));
    looks = looks_cell m.cells u.order m.views law.looks id v at c.number (y) w (λ _. tt) (λ _. tt) refl;
    duties = take_duty (IsKey u.journal) (IsChord p) m u.order id c.number y v w at (subst (λ (c : Word). IsStanding c.cell) (sym is) tt) refl (λ e h. has_duty e c.number v.duties h) law.duties;
  }

  -- the table still agrees once the slot of a consumed message is home again
  pub agrees_empty : (i : ℕ) → v.emptying ≡ Some i → Agrees entries arguments keeps_to p n (record m { homes = put m.homes i (some None); views = set m.views id (kinds.emptied v) }) (record u { stage = put u.stage i Spent })
  agrees_empty i emptying = record {
    tabled = law.tabled;
    counting = counting_stays (kinds.emptied v) refl refl;
    firsts = firsts_stay n m.count m.views law.counting law.firsts id v at (kinds.emptied v) refl refl refl;
    stands = standing.stands_empty entries arguments keeps_to p n m u law.stands id v at i emptying;
    heads = law.heads;
    bags = law.bags;
    tied = tied_same (kinds.emptied v) refl;
    looks = looks_same m.cells u.order m.views law.looks id v at (kinds.emptied v) refl;
    duties = duties_stay (kinds.emptied v) m.cells refl (λ x s. s) (λ q x e. e);
  }

  -- the table still agrees once the slot of a firing that is not posted is out
  pub agrees_posting : (f : ℕ) → HasNumber f v.unposted → v.posting ≡ None → Agrees entries arguments keeps_to p n (record m { homes = put m.homes f none; views = set m.views id (kinds.posting v f) }) (record u { stage = put u.stage f (InHand id Posting) })
  agrees_posting f has free = record {
    tabled = law.tabled;
    counting = counting_stays (kinds.posting v f) refl refl;
    firsts = firsts_stay n m.count m.views law.counting law.firsts id v at (kinds.posting v f) refl refl refl;
    stands = standing.stands_posting entries arguments keeps_to p n m u law.stands id v at f has free;
    heads = law.heads;
    bags = law.bags;
    tied = tied_same (kinds.posting v f) refl;
    looks = looks_same m.cells u.order m.views law.looks id v at (kinds.posting v f) refl;
    duties = duties_stay (kinds.posting v f) m.cells refl (λ x s. s) (λ q x e. e);
  }

  -- the table still agrees once a firing is posted and its parcel is in its slot
  pub agrees_post : (f : ℕ) (q : P) → v.posting ≡ Some f → MayGo p v.kept (entries q) → ((e : Entry) (x : Message) → IsIn e (entries q) → message_of e.what ≡ Some x → IsUnlinked (hand v) e.number → ⊥)
      → BeginsThere f (entries q) → ((e : Entry) → IsIn e (entries q) → e.body ≡ f → e.number ≡ f) → ((b : ℕ) → (b ≡ f → ⊥) → BeginsThere b (entries q) → IsParkedThere p (entries q) None (doing p (entries q) b)) → keeps_to q
      → Agrees entries arguments keeps_to p n (record m { cells = put m.cells f (record { cell = a_cell.Ready; next = None }); homes = put m.homes f (some (Some q)); views = set m.views id (kinds.posted v (entries q)) }) (record u { stage = put u.stage f Posted })
  agrees_post f q posting may others begins only parked task = let w : View = kinds.posted v (entries q) in let y : Word = record { cell = a_cell.Ready; next = None } in let t = it f (InHand id Posting) (law.stands.hands.holds id v at f Posting posting) in record {
    tabled = law.tabled;
    counting = counting_stays w refl refl;
    firsts = firsts_stay n m.count m.views law.counting law.firsts id v at w refl refl refl;
    stands = standing.stands_post entries arguments keeps_to p n m u law.stands id v at f q posting may others begins only parked task;
    heads = law.heads;
    bags = bagging.bag_post entries arguments keeps_to p n small m u law.stands law.heads law.bags id v at f posting;
    tied = tied_same w refl;
    looks = looks_cell m.cells u.order m.views law.looks id v at f (y) w (λ a. absurd (subst (λ (c : Word). IsArmed c.cell) t.1 a)) (λ a. absurd (subst (λ (c : Word). IsConsumed c.cell) t.1 a)) refl;
    duties = duties_stay w (put m.cells f y) refl (one_stood f y (λ s. absurd s)) (one_woken f y (λ z e. let q = sym (ap (λ (c : Word). c.cell) t.1) ∙ e in absurd (cc)));
  }

  -- the table still agrees once a ready firing is started and its slot is out
  pub agrees_start : (f : ℕ) (q : P) → (m.cells f).cell ≡ a_cell.Ready → v.starting ≡ None → m.homes f ≡ some (Some q)
      → Agrees entries arguments keeps_to p n (record m { cells = put m.cells f (record { cell = a_cell.Started; next = None }); homes = put m.homes f none; views = set m.views id (kinds.firing_started v f (entries q)) }) (record u { stage = put u.stage f (InHand id Starting) })
  agrees_start f q is free home = let w : View = kinds.firing_started v f (entries q) in let y : Word = record { cell = a_cell.Started; next = None } in record {
    tabled = law.tabled;
    counting = counting_stays w refl refl;
    firsts = firsts_stay n m.count m.views law.counting law.firsts id v at w refl refl refl;
    stands = standing.stands_start entries arguments keeps_to p n m u law.stands id v at f q is free home;
    heads = law.heads;
    bags = bagging.bag_start entries arguments keeps_to p n small m u law.stands law.heads law.bags f is;
    tied = tied_same w refl;
    looks = looks_cell m.cells u.order m.views law.looks id v at f (y) w (λ a. absurd (subst IsArmed is a)) (λ a. absurd (subst IsConsumed is a)) refl;
    duties = duties_stay w (put m.cells f y) refl (one_stood f y (λ s. absurd s)) (one_woken f y (λ z e. let q = sym is ∙ e in absurd (cc)));
  }

  -- the table still agrees once the slot of a started firing is home again
  pub agrees_play : (f : ℕ) → v.starting ≡ Some f → Agrees entries arguments keeps_to p n (record m { homes = put m.homes f (some None); views = set m.views id (kinds.played v) }) (record u { stage = put u.stage f Played })
  agrees_play f starting = record {
    tabled = law.tabled;
    counting = counting_stays (kinds.played v) refl refl;
    firsts = firsts_stay n m.count m.views law.counting law.firsts id v at (kinds.played v) refl refl refl;
    stands = standing.stands_play entries arguments keeps_to p n m u law.stands id v at f starting;
    heads = law.heads;
    bags = law.bags;
    tied = tied_same (kinds.played v) refl;
    looks = looks_same m.cells u.order m.views law.looks id v at (kinds.played v) refl;
    duties = duties_stay (kinds.played v) m.cells refl (λ x s. s) (λ q x e. e);
  }

  -- a desk is lent
  pub agrees_split : v.first ≡ true → v.splits < 65535 → Agrees entries arguments keeps_to p n (record m { views = set m.views id (kinds.lent_one v) ++ newcomer ∷ [] }) u
  agrees_split is_first few = let vs : List View = set m.views id (kinds.lent_one v) in record {
    tabled = law.tabled;
    counting = counting_split n m.count m.views law.counting law.firsts id v at is_first few;
    firsts = firsts_split n m.count m.views law.counting law.firsts id v at is_first;
    stands = standing.stands_split entries arguments keeps_to p n m u law.stands id v at;
    heads = law.heads;
    bags = law.bags;
    tied = record { duties = λ j y e d h. ⊎_elim (λ a. (tied_same (kinds.lent_one v) refl).duties j y a d h) (λ t. absurd (subst (λ (z : View). HasDuty d z.duties) (sym t.1) h)) (at_end vs newcomer y j e) };
    looks = looks_more m.cells u.order vs (looks_same m.cells u.order m.views law.looks id v at (kinds.lent_one v) refl);
    duties = λ ks xs c. ⊎_elim inl (λ d. inr (d.0, d.1, d.2, at_longer vs (newcomer ∷ []) d.0 d.1 d.3, d.4, d.5)) (duties_stay (kinds.lent_one v) m.cells refl (λ x s. s) (λ q x e. e) ks xs c);
  }

  -- a desk is joined
  pub agrees_join : (other : ℕ) (w : View) → v.first ≡ true → other ≢ id → get_elem? m.views other ≡ some w → w.placing ≡ None → w.flight ≡ None → w.claims ≡ [] → w.emptying ≡ None → w.posting ≡ None → w.starting ≡ None
      → Agrees entries arguments keeps_to p n (record m { views = set (set m.views id (kinds.united v w)) other gone }) (record u { stage = λ i. kinds.heir id other (u.stage i) })
  agrees_join other w is_first apart there placing flight claims emptying posting starting = let b : View = kinds.united v w in let vs : List View = set (set m.views id b) other gone in record {
    tabled = law.tabled;
    counting = counting_join n m.count m.views law.counting law.firsts id v at other w apart there is_first;
    firsts = firsts_join n m.count m.views law.counting law.firsts id v at other w apart there is_first;
    stands = standing.stands_join entries arguments keeps_to p n m u law.stands id other v w at apart there placing flight claims emptying posting starting;
    heads = law.heads;
    bags = law.bags;
    tied = record {
      duties = λ j y e d h. ⊎_elim (λ t. absurd (subst (λ (z : View). HasDuty d z.duties) (sym t.1) h))
          (λ s. (tied_stays b (λ d h. let r = has_reset d (v.duties ++ w.duties) h in
          subst (λ (z : Duty). u.order.bag z.message ≡ Some z.bag) (sym r.2) (⊎_elim (λ k. law.tied.duties id v at r.0 k) (λ k. law.tied.duties other w there r.0 k) (has_either r.0 v.duties w.duties r.1)))).duties j y s.1 d h)
          (at_set (set m.views id b) other j gone y e);
    };
    looks = looks_join m.cells u.order m.views law.looks id v at other b refl;
    duties = λ ks xs c. ⊎_elim inl (λ d. inr (heir xs d (dite (ℕ_discrete d.0 id) inl (λ ne. inr (dite (ℕ_discrete d.0 other) (λ e. inl (ne, e)) (λ ne'. inr (ne, ne'))))))) (law.duties ks xs record { chord = c.chord; some = c.some; chosen = c.chosen });
  }
    where
      at_both : get_elem? (set (set m.views id (kinds.united v w)) other gone) id ≡ some (kinds.united v w)
      at_both = set_else (set m.views id (kinds.united v w)) other id gone (λ q. apart (sym q)) ∙ set_here m.views id (kinds.united v w) (at_inside m.views id v at)

      heir : (xs : List ℕ) (d : IsCarried (IsChord p) m.views u.order xs) → (d.0 ≡ id) ⊎ (((d.0 ≢ id) × (d.0 ≡ other)) ⊎ ((d.0 ≢ id) × (d.0 ≢ other))) → IsCarried (IsChord p) (set (set m.views id (kinds.united v w)) other gone) u.order xs
      heir xs d (inl e) = let same : d.1 ≡ v = some-injective d.1 v (sym d.3 ∙ ap (get_elem? m.views) e ∙ at) in
          (id, kinds.united v w, reset_duty d.2, at_both, has_map reset_duty d.2 (v.duties ++ w.duties) (has_left d.2 v.duties w.duties (subst (λ (y : View). HasDuty d.2 y.duties) same d.4)), reset_carries u.order d.2 xs d.5)
      heir xs d (inr (inl e)) = let same : d.1 ≡ w = some-injective d.1 w (sym d.3 ∙ ap (get_elem? m.views) e.1 ∙ there) in
          (id, kinds.united v w, reset_duty d.2, at_both, has_map reset_duty d.2 (v.duties ++ w.duties) (has_right d.2 v.duties w.duties (subst (λ (y : View). HasDuty d.2 y.duties) same d.4)), reset_carries u.order d.2 xs d.5)
      heir xs d (inr (inr e)) = (d.0, d.1, d.2, set_else (set m.views id (kinds.united v w)) other d.0 gone e.1 ∙ set_else m.views id d.0 (kinds.united v w) e.0 ∙ d.3, d.4, d.5)

  -- a look, or a rest: the view changes in its looks and duties alone
  pub agrees_view : (w : View) → hand w ≡ hand v → w.kept ≡ v.kept → w.spent ≡ v.spent → w.splits ≡ v.splits → w.first ≡ v.first → w.drawn ≡ v.drawn
      → ((d : Duty) → HasDuty d w.duties → u.order.bag d.message ≡ Some d.bag) → DutyLaw (IsChord p) m.cells (set m.views id w) u.order → Looks m.cells u.order (set m.views id w) → Agrees entries arguments keeps_to p n (record m { views = set m.views id w }) u
  agrees_view w same kept spent splits first drawn tied duties looks = record {
    tabled = law.tabled;
    counting = counting_stays w spent splits;
    firsts = firsts_stay n m.count m.views law.counting law.firsts id v at w first drawn splits;
    stands = standing.stands_still entries arguments keeps_to p n m u law.stands id v at w same kept;
    heads = law.heads;
    bags = law.bags;
    tied = tied_stays w tied;
    looks = looks;
    duties = duties;
  }

  -- a cell that is armed and free is not consumed
  open_standing : (c : Cell) → IsOpen c → IsConsumed c → ⊥
  open_standing a_cell.Pending t a = a
  open_standing (a_cell.Woken q) t a = a
  open_standing a_cell.Empty t a = t
  open_standing a_cell.Claimed t a = t
  open_standing a_cell.Consumed t a = t
  open_standing a_cell.Ready t a = t
  open_standing a_cell.Started t a = t

  -- a cell that is armed and free is armed
  open_armed : (c : Cell) → IsOpen c → IsArmed c
  open_armed a_cell.Pending t = tt
  open_armed (a_cell.Woken q) t = tt
  open_armed a_cell.Empty t = t
  open_armed a_cell.Claimed t = absurd t
  open_armed a_cell.Consumed t = absurd t
  open_armed a_cell.Ready t = t
  open_armed a_cell.Started t = t

  -- a wake, or a rearm: a cell that is armed and free goes between Pending and Woken, and keeps its next
  pub agrees_wake : (i : ℕ) (x : Word) (w : View) → u.stage i ≡ Armed → IsOpen x.cell → x.next ≡ (m.cells i).next → hand w ≡ hand v → w.kept ≡ v.kept → w.spent ≡ v.spent → w.splits ≡ v.splits → w.first ≡ v.first → w.drawn ≡ v.drawn
      → ((d : Duty) → HasDuty d w.duties → u.order.bag d.message ≡ Some d.bag) → DutyLaw (IsChord p) (put m.cells i x) (set m.views id w) u.order → w.looked.seen ≡ v.looked.seen → Agrees entries arguments keeps_to p n (record m { cells = put m.cells i x; views = set m.views id w }) u
  agrees_wake i x w was open_ next same kept spent splits first drawn tied duties looked = let t = it i Armed was in let armed = law.bags.armed i (open_armed (cell_of m.cells i) t.3) in record {
    tabled = law.tabled;
    counting = counting_stays w spent splits;
    firsts = firsts_stay n m.count m.views law.counting law.firsts id v at w first drawn splits;
    stands = standing.stands_wake entries arguments keeps_to p n m u law.stands id v at i x w open_ was same kept;
    heads = law.heads;
    bags = cell_step (IsKey u.journal) m i x u.order (λ c. absurd (open_standing (cell_of m.cells i) t.3 c)) (λ _. (armed.0, next ∙ armed.1)) law.bags;
    tied = tied_stays w tied;
    looks = looks_cell m.cells u.order m.views law.looks id v at i x w (λ _. open_armed x.cell open_) (λ c. absurd (open_standing (cell_of m.cells i) t.3 c)) looked;
    duties = duties;
  }
