-- What a step leaves behind: what is kept after a firing that was posted or is played, and after a message that was minded.
use Rattle.std.proofs.Common.{◌≡◌, ℕ, ◌<◌, true, not, List, [], ◌∷◌, Option, Some, None, refl, sym, ap, ◌∙◌, subst, ◌⊎◌, inl, inr, arith}
use Rattle.chord_base.specs.declared.event.Entry.{Entry}
use Rattle.chord_base.specs.declared.event.What.TheVariants.{Fired}
use Rattle.chord_base.specs.declared.value.Object.{Object}
use Rattle.chord_base.specs.declared.value.Value as value
use Rattle.chord_base.specs.Machine.{Takes}
use Rattle.chord_base.specs.Meaning.{Program}
use Rattle.chord_base.specs.Messages.{Message, pending}
use Rattle.chord_base.specs.Story.{AllBelow, IsIn}
use Rattle.chord_base.proofs.Collected.{view_in}
use Rattle.chord_base.proofs.Firings.{pending_within}
use Rattle.chord_rule.specs.declared.view.View.{View}
use Rattle.chord_rule.specs.Kinds.{is_among, entry, left_by}
use Rattle.chord_rule.specs.Numbers.{HasNumber}
use Rattle.chord_rule.specs.Tells.{CameNext}
use Rattle.chord_space.specs.declared.space.Desk.{Desk}
use Rattle.chord_space.specs.declared.space.Space.{Space}
use Rattle.chord_space.specs.Desks.{view}
use Rattle.chord_task.specs.declared.parcel.Opened.{Opened as Parcel}
use Rattle.chord_task.specs.declared.task.Task.{Task}
use Rattle.chord_task.specs.Stacks.{TaskView}
use Rattle.chord_task.specs.Standing.{view_of}
use Rattle.chord_worker.specs.declared.worker.Worker.{Worker}
use Rattle.chord_worker.specs.Beginning.{HasBegun}
use Rattle.chord_worker.specs.Stepping.{HasNewer, AreAway, HasGoneOn, PlaysNoOther, PlaysNext, PlaysFiring, HasTakenOn, WasMinded}
use Rattle.chord_worker.proofs.Parts.{among_kept}
use Rattle.chord_worker.proofs.Uniting.{among_self}

-- ## Entries

-- what stays does not go
left_apart : (ps es : List Entry) → AreAway ps (left_by ps es)
left_apart ps es e goes stays =
    let z : not true ≡ true = ap not (sym (among_self ps e goes)) ∙ among_kept (λ n. not (is_among ps n)) es e.number (among_self (left_by ps es) e stays) in absurd (cc)

-- what is below a number is below each number above it
all_below : (m n : ℕ) (es : List Entry) → m < n → AllBelow m es → AllBelow n es
all_below m n [] l b = tt
all_below m n (e ∷ es) l b = ((let k = b.0 in omega (arith, k, l)), all_below m n es l b.1)

-- ## A firing

-- a member of a firing was pending
member_pending : (h : List Entry) (o : Object) (js ms : List ℕ) (vs : List value.Value) (n : ℕ) → Takes h o js ms vs → HasNumber n ms → (m : Message) × (pending n h ≡ Some m)
member_pending h o js [] vs n t k = absurd k
member_pending h o [] (i ∷ ms) vs n t k = absurd t
member_pending h o (j ∷ js) (i ∷ ms) vs n t (inl e) = (record { object = o; method = j; arguments = t.0 }, ap (λ (z : ℕ). pending z h) e ∙ t.2)
member_pending h o (j ∷ js) (i ∷ ms) vs n t (inr k) = member_pending h o js ms t.1 n t.4 k

-- a message is older than the firing that takes it
pub message_older : (p : Program) (f k : ℕ) (o : Object) (ms : List ℕ) (vs : List value.Value) (m : ℕ) → CameNext p (entry f f (Fired k o ms vs)) → HasNumber m ms → m < f
message_older p f k o ms vs m came own =
    let x = member_pending came.0 o came.1.1.comes.1.0 ms vs m came.1.1.comes.1.2 own in
    let low = pending_within p came.0 m x.0 came.1.0 x.1 in
    let number = came.1.1.numbered in omega (arith, low, number)

module _ (knows : ℕ → Type 0) (s : Space Parcel) (w : Worker) (v : View) (f : ℕ) (t : Task) (b : HasBegun s w v f t) where
  -- a worker without a task plays it, once the gate knows
  pub plays_it : knows f → w.task ≡ None → PlaysFiring knows v.kept w.task (record w { task = Some t }) f
  plays_it known none = record {
    idle = none;
    known = known;
    on_top = (t, refl, b.top);
    fired = b.begins.0;
    numbered = b.begins.2;
    there = view_in (is_among (view_of t).past) b.begins.0 (view w.desk).kept (subst (IsIn b.begins.0) (sym b.both.goes.part) b.begins.1);
    stay = λ e i. view_in (λ n. not (is_among (view_of t).past n)) e (view w.desk).kept (subst (IsIn e) (sym b.both.left) i);
  }

-- ## A message that was minded

-- a firing that was posted or is played is one of a message before it
pub taken_minded : (knows : ℕ → Type 0) (es : List Entry) (x : Option Task) (w : Worker) (f m : ℕ) → m < f → HasTakenOn knows es x w f → WasMinded knows es x w m
taken_minded knows es x w f m low (inl same) = inl same.1
taken_minded knows es x w f m low (inr plays) = inr (inl (f, low, plays))

-- what is minded later is minded
pub minded_since : (knows : ℕ → Type 0) (es es' : List Entry) (x x' : Option Task) (w : Worker) (m : ℕ) → x' ≡ x → es' ≡ es → WasMinded knows es' x' w m → WasMinded knows es x w m
minded_since knows es es' x x' w m e k minded = subst (λ (y : Option Task). WasMinded knows es y w m) e (subst (λ (h : List Entry). WasMinded knows h x' w m) k minded)

-- what is kept and played alone says what was minded
pub minded_as : (knows : ℕ → Type 0) (es : List Entry) (x : Option Task) (w w' : Worker) (m : ℕ) → w'.desk ≡ w.desk → w'.task ≡ w.task → WasMinded knows es x w m → WasMinded knows es x w' m
minded_as knows es x w w' m desk task (inl same) = inl (task ∙ same.0, ap (λ (d : Desk Parcel). (view d).kept) desk ∙ same.1)
minded_as knows es x w w' m desk task (inr (inl plays)) =
    let p = plays.2 in
    let kept = ap (λ (d : Desk Parcel). (view d).kept) desk in
    inr (inl (
      plays.0,
      plays.1,
      record {
        idle = p.idle;
        known = p.known;
        on_top = (p.on_top.0, task ∙ p.on_top.1, p.on_top.2);
        fired = p.fired;
        numbered = p.numbered;
        there = subst (IsIn p.fired) (sym kept) p.there;
        stay = λ e i. subst (IsIn e) (sym kept) (p.stay e i);
      },
    ))
minded_as knows es x w w' m desk task (inr (inr told)) = inr (inr (ap (λ (d : Desk Parcel). (view d).spent) desk ∙ told))

-- ## A step

module _ (before : List Entry) (t : Task) (n : ℕ) (x : Entry) (number : x.number ≡ n) (below : AllBelow n before) (w : Worker) where
  -- the newest entry is there
  pub newest_is_kept : IsIn x (view w.desk).kept → HasNewer before (view w.desk).kept
  newest_is_kept i = (x, i, subst (λ (k : ℕ). AllBelow k before) (sym number) below)

  -- an asynchronous message was minded, whose entry the desk kept
  pub went_sent : (knows : ℕ → Type 0) (es : List Entry) (y : Option Task) → IsIn x es → WasMinded knows es y w n → HasGoneOn before t w
  went_sent knows es y i (inl same) = inl (newest_is_kept (subst (IsIn x) (sym same.1) i))
  went_sent knows es y i (inr (inl plays)) = inl (newest_is_kept (plays.2.stay x i))
  went_sent knows es y i (inr (inr told)) = inr (inr told)

  -- a call was minded, whose task was away with it
  pub went_called : (knows : ℕ → Type 0) (es : List Entry) → es ≡ left_by (x ∷ (view_of t).past) (x ∷ before) → WasMinded knows es None w n → HasGoneOn before t w
  went_called knows es is (inl same) = inr (inl (same.0, λ e i k. left_apart (x ∷ (view_of t).past) (x ∷ before) e (inr i) (subst (IsIn e) (same.1 ∙ is) k)))
  went_called knows es is (inr (inl plays)) =
      let p = plays.2 in
      let low = plays.1 in
      let fired = p.numbered in
      inl (p.fired, p.there, all_below n p.fired.number before (omega (arith, low, fired)) below)
  went_called knows es is (inr (inr told)) = inr (inr told)

-- a task that took this entry, if it is played, is no other
pub no_other : (t t' : Task) (x : Entry) (y : Option Task) → (view_of t').past ≡ x ∷ (view_of t).past → (y ≡ None) ⊎ (y ≡ Some t') → PlaysNoOther t y
no_other t t' x y is (inl none) = subst (PlaysNoOther t) (sym none) tt
no_other t t' x y is (inr same) = subst (PlaysNoOther t) (sym same) (x, is)

-- after a message that was minded no other task is played, or a body of which the gate knows
pub plays_minded : (knows : ℕ → Type 0) (before es : List Entry) (t : Task) (n : ℕ) (y : Option Task) (w : Worker) → AllBelow n before → PlaysNoOther t y → ((view w.desk).spent ≡ true → w.task ≡ None) → WasMinded knows es y w n → PlaysNext knows before t w
plays_minded knows before es t n y w below same_one over (inl same) = inl (subst (PlaysNoOther t) (sym same.0) same_one)
plays_minded knows before es t n y w below same_one over (inr (inl plays)) =
    let p = plays.2 in
    let low = plays.1 in
    let fired = p.numbered in
    inr (p.fired, p.there, all_below n p.fired.number before (omega (arith, low, fired)) below, subst knows (sym fired) p.known, (p.on_top.0, p.on_top.1, p.on_top.2 ∙ ap (λ (n : ℕ). Some n) (sym fired)))
plays_minded knows before es t n y w below same_one over (inr (inr told)) = inl (subst (PlaysNoOther t) (sym (over told)) tt)

-- it is no other than a task that is seen alike
pub still_no_other : (t t' : Task) (y : Option Task) → view_of t' ≡ view_of t → PlaysNoOther t' y → PlaysNoOther t y
still_no_other t t' None e same_one = tt
still_no_other t t' (Some u) e same_one = (same_one.0, subst (λ (x : TaskView). (view_of u).past ≡ same_one.0 ∷ x.past) e same_one.1)

-- so it is of a task that is seen alike
pub plays_next : (knows : ℕ → Type 0) (before : List Entry) (t t' : Task) (w : Worker) → view_of t' ≡ view_of t → PlaysNext knows before t' w → PlaysNext knows before t w
plays_next knows before t t' w e (inl same_one) = inl (still_no_other t t' w.task e same_one)
plays_next knows before t t' w e (inr known) = inr known

-- so it is of a task that is seen alike
pub gone_on : (before : List Entry) (t t' : Task) (w : Worker) → view_of t' ≡ view_of t → HasGoneOn before t' w → HasGoneOn before t w
gone_on before t t' w e went = subst (λ (x : TaskView). HasNewer before (view w.desk).kept ⊎ (((w.task ≡ None) × AreAway x.past (view w.desk).kept) ⊎ ((view w.desk).spent ≡ true))) e went
