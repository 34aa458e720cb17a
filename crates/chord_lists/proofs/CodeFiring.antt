-- What a firing makes of the bodies of a run of a code.
use Rattle.std.proofs.Common.{◌≡◌, ℕ, suc, ◌<◌, ◌≤◌, true, false, ◌==◌, List, [], ◌∷◌, ◌++◌, length, Option, Some, None, refl, sym, ap, ◌∙◌, subst, arith, inl, inr, set, take, reverse, length-append}
use Rattle.std.specs.Prelude.{slice_get}
use Rattle.std.proofs.lemmas.Option.{slice_get_within}
use Rattle.std.proofs.lemmas.List.{length-set}
use Rattle.std.proofs.lemmas.Bool.{eq-eqb, eqb-true, eqb-false}
use Rattle.chord_base.specs.declared.value.Object.{Object}
use Rattle.chord_base.specs.declared.value.Value.{Value}
use Rattle.chord_base.specs.declared.event.Entry.{Entry}
use Rattle.chord_base.specs.declared.event.Limits.{Limits}
use Rattle.chord_base.specs.Messages.{Message, has, pending}
use Rattle.chord_base.specs.Bodies.{doing, served_among, or_none}
use Rattle.chord_base.specs.Machine.{Fires}
use Rattle.chord_base.specs.Story.{IsDefined, IsSound, AllBelow, grown}
use Rattle.chord_base.proofs.Waits.{either}
use Rattle.chord_base.proofs.Merged.{merged_fire, merged_story}
use Rattle.chord_base.proofs.Calls.{served_member}
use Rattle.chord_code.specs.declared.parts.Parts.{Parts}
use Rattle.chord_code.specs.Meaning.{code_program}
use Rattle.chord_code.proofs.Places.{set_other}
use Rattle.chord_task.specs.declared.task.Task.{Task}
use Rattle.chord_task.specs.Stacks.{FitsCall, BeginsDefined}
use Rattle.chord_task.specs.declared.body.Body.{Body}
use Rattle.std.specs.Prelude.{is_none}
use Rattle.chord_task.specs.Standing.{body_number, body_waits, HasRoomIf, view_of, IsTaskOf, waits_of, MayResume, IsResumable}
use Rattle.chord_task.proofs.Asking.{waits_yes}
use Rattle.chord_lists.specs.Engine.{IsRunOfLength, fired}
use Rattle.chord_lists.specs.declared.code_bodies.CodeBodies.{CodeBodies}
use Rattle.chord_lists.specs.CodeStands.{past_of, views, home_in, home, ready_in, ready_at, over_in, over_at, AreReady, is_on_top, topped_by, AreOver, Awaits, AreMessagesAt, sent_values, HostsCall, FitsAt, Serves, StandsWith, StandsAfter}
use Rattle.chord_lists.proofs.Spots.{end_at, before_end, past_end, one_some, nothing_some, has_first, has_later}
use Rattle.chord_lists.proofs.CodeTasks.{one_call, resumable}
use Rattle.chord_lists.proofs.CodeSteps.{stands_merged, task_below, OneMore, more_home, keeps_more, journal_more, views_set, tasks_set, awaits_set, pending_under}
use Rattle.chord_lists.proofs.Laying.{takes_sent}
use Rattle.chord_lists.proofs.OverTasks.{over_begun, over_more}

-- ---- what a firing takes

-- all that a firing takes are messages in the list of all entries, and their arguments are its values
pub firing_sent : {over : List ℕ} (code : Parts) (limits : Limits) (bodies : CodeBodies) (h : List Entry) (n k : ℕ) (o : Object) (ms : List ℕ) (vs : List Value) → StandsWith code limits bodies over h → IsRunOfLength (code_program code limits) n h → Fires (code_program code limits) h k o ms vs → AreMessagesAt bodies.entries.items ms × (sent_values bodies.entries.items ms ≡ vs)
firing_sent code limits bodies h n k o ms vs s played f = takes_sent bodies.entries.items h o f.0 ms vs s.journal played.within f.2

-- in a sound program a task that begins the body of a firing stays defined
fire_defined : {over : List ℕ} (code : Parts) (limits : Limits) (bodies : CodeBodies) (h : List Entry) (n i k : ℕ) (o : Object) (ms : List ℕ) (vs : List Value) (t : Task) → IsSound (code_program code limits) → StandsWith code limits bodies over h → length h ≡ n → Fires (code_program code limits) h k o ms vs → views bodies.tasks.items i ≡ (view_of t).past → BeginsDefined (code_program code limits) (view_of t) n k o ms vs
fire_defined code limits bodies h n i k o ms vs t sound s so_long f here = λ b.
    let p = code_program code limits in
    let v = views bodies.tasks.items in
    let e = fired (length h) k o ms vs in
    let m = merged_fire p v h i k o ms vs (stands_merged code limits bodies h s) f in
    let d : IsDefined p (doing p (grown v i e i) b) = (merged_story p (grown v i e) (e ∷ h) sound m i).is_defined b in
    let grown_is : grown v i e i ≡ e ∷ (view_of t).past = rw (eq-eqb i i refl, here) in
    let e_is : e ∷ (view_of t).past ≡ fired n k o ms vs ∷ (view_of t).past = rw so_long in
    subst (λ (l : List Entry). IsDefined p (doing p l b)) (grown_is ∙ e_is) d

-- what a firing needs of the task in which it begins a body
pub may_resume : {over : List ℕ} (code : Parts) (limits : Limits) (bodies : CodeBodies) (h : List Entry) (n i k : ℕ) (o : Object) (ms : List ℕ) (vs : List Value) (t : Task) (call : Option ℕ) → IsSound (code_program code limits) → StandsWith code limits bodies over h → length h ≡ n → (f : Fires (code_program code limits) h k o ms vs) → served_among ((code_program code limits).is_sync o.class) f.0 ms ≡ call → IsTaskOf code limits t → views bodies.tasks.items i ≡ (view_of t).past → FitsCall (code_program code limits) (view_of t) call → IsResumable code t → MayResume code t.limits t n k o ms vs
may_resume code limits bodies h n i k o ms vs t call sound s so_long f serves task here fits room =
    let p = code_program code limits in
    subst (λ l. MayResume code l t n k o ms vs) (sym task.limited) (record {
      may = subst (λ z. FitsCall p (view_of t) (served_among (p.is_sync o.class) (or_none z) ms)) (sym f.1) (subst (λ z. FitsCall p (view_of t) z) (sym serves) fits);
      begins = fire_defined code limits bodies h n i k o ms vs t sound s so_long f here;
      above = subst (λ z. AllBelow z (view_of t).past) so_long (subst (λ (l : List Entry). AllBelow (length h) l) here (task_below code limits bodies h i s));
      room = room;
    })

-- the task whose call a firing serves
pub record IsCaller (code : Parts) (limits : Limits) (bodies : CodeBodies) (n k : ℕ) (o : Object) (ms : List ℕ) (vs : List Value) (call : ℕ) : Type 0 where
  pub task : Task
  pub there : slice_get bodies.tasks.items (home bodies.homes.items call) ≡ Some task
  pub is : IsTaskOf code limits task
  pub waits : waits_of call task ≡ true
  pub may : MayResume code task.limits task n k o ms vs
  pub member : has call ms ≡ true
  pub homed : call < length bodies.homes.items

-- the call that a firing serves is that of a task that waits for it, in which the new body may begin
pub caller : {over : List ℕ} (code : Parts) (limits : Limits) (bodies : CodeBodies) (h : List Entry) (n k : ℕ) (o : Object) (ms : List ℕ) (vs : List Value) (call : ℕ) → IsSound (code_program code limits) → StandsWith code limits bodies over h → length h ≡ n → (f : Fires (code_program code limits) h k o ms vs) → served_among ((code_program code limits).is_sync o.class) f.0 ms ≡ Some call → IsCaller code limits bodies n k o ms vs call
caller code limits bodies h n k o ms vs call sound s so_long f serves =
    let p = code_program code limits in
    let m = served_member (p.is_sync o.class) h o f.0 ms vs call f.2 serves in
    let x = m.1 in
    let a = s.calls call x.0 x.1 (ap (λ (d : Object). p.is_sync d.class x.0.method) x.2 ∙ x.3) in
    let l = pending_under p h call x.0 s.past x.1 in
    let k' = s.tasks (home bodies.homes.items call) a.0 a.1 in
    record {
      task = a.0;
      there = a.1;
      is = k';
      waits = a.2;
      may = may_resume code limits bodies h n (home bodies.homes.items call) k o ms vs a.0 (Some call) sound s so_long f serves k' (ap past_of a.1) (waits_yes code limits a.0 call k' a.2) (resumable code limits a.0 call k' a.2);
      member = m.0;
      homed = omega (arith, l, s.homed);
    }

-- a firing that serves no call may begin in a task without entries
pub may_begin : (code : Parts) (limits : Limits) (bodies : CodeBodies) (h : List Entry) (n k : ℕ) (o : Object) (ms : List ℕ) (vs : List Value) (t : Task) → IsSound (code_program code limits) → StandsAfter code limits bodies h → length h ≡ n → (f : Fires (code_program code limits) h k o ms vs) → served_among ((code_program code limits).is_sync o.class) f.0 ms ≡ None → IsTaskOf code limits t → (view_of t).top ≡ None → (view_of t).past ≡ [] → IsResumable code t → MayResume code t.limits t n k o ms vs
may_begin code limits bodies h n k o ms vs t sound s so_long f serves task top none room =
    may_resume code limits bodies h n (length bodies.tasks.items) k o ms vs t None sound s so_long f serves task (ap past_of (past_end bodies.tasks.items (length bodies.tasks.items) (omega arith)) ∙ sym none) top room

-- a task that is over, in which a firing that serves no call may begin
pub record IsOverAt (code : Parts) (limits : Limits) (bodies : CodeBodies) (at n k : ℕ) (o : Object) (ms : List ℕ) (vs : List Value) : Type 0 where
  pub task : Task
  pub there : slice_get bodies.tasks.items at ≡ Some task
  pub is : IsTaskOf code limits task
  pub over : task.top ≡ None
  pub may : MayResume code task.limits task n k o ms vs

-- a place of a task that is over has a task without a body
pub over_task : (tasks : List Task) (i : ℕ) → over_at tasks i ≡ true → (t : Task) × (slice_get tasks i ≡ Some t) × (t.top ≡ None)
unfolding over_at
over_task tasks i e = by_task (slice_get tasks i) refl e
  where
    by_top : (x : Option Body) → is_none (body_number x) ≡ true → x ≡ None
    by_top None r = refl
    by_top (Some b) r = (let z : false ≡ true = r in cc)

    by_task : (x : Option Task) → slice_get tasks i ≡ x → over_in x ≡ true → (t : Task) × (slice_get tasks i ≡ Some t) × (t.top ≡ None)
    by_task None g r = (let z : false ≡ true = r in cc)
    by_task (Some t) g r = (t, g, by_top t.top r)

-- a firing that serves no call may begin in a task that is over
pub over_again : {over : List ℕ} (code : Parts) (limits : Limits) (bodies : CodeBodies) (h : List Entry) (at n k : ℕ) (o : Object) (ms : List ℕ) (vs : List Value) → IsSound (code_program code limits) → StandsWith code limits bodies over h → length h ≡ n → (f : Fires (code_program code limits) h k o ms vs) → served_among ((code_program code limits).is_sync o.class) f.0 ms ≡ None → over_at bodies.tasks.items at ≡ true → IsOverAt code limits bodies at n k o ms vs
over_again code limits bodies h at n k o ms vs sound s so_long f serves over =
    let t = over_task bodies.tasks.items at over in
    let is = s.tasks at t.0 t.1 in
    record {
      task = t.0;
      there = t.1;
      is = is;
      over = t.2;
      may = may_resume code limits bodies h n at k o ms vs t.0 None sound s so_long f serves is (ap past_of t.1) (ap body_number t.2) (subst (λ (x : Option Body). HasRoomIf code t.0 x) t.2 is.room);
    }

-- the task in which a firing begins its body
pub record IsHost (code : Parts) (limits : Limits) (bodies : CodeBodies) (at n k : ℕ) (o : Object) (ms : List ℕ) (vs : List Value) : Type 0 where
  pub task : Task
  pub there : slice_get bodies.tasks.items at ≡ Some task
  pub is : IsTaskOf code limits task
  pub may : MayResume code task.limits task n k o ms vs
  pub awaits : (q : ℕ) → waits_of q task ≡ true → has q ms ≡ true

-- the call that a firing serves, by any word for the methods of its chord
pub call_served : (code : Parts) (limits : Limits) (h : List Entry) (k : ℕ) (o : Object) (ms : List ℕ) (vs : List Value) (call : Option ℕ) → (f : Fires (code_program code limits) h k o ms vs) → Serves (code_program code limits) k o ms call → served_among ((code_program code limits).is_sync o.class) f.0 ms ≡ call
call_served code limits h k o ms vs call f s =
    ap (λ js. served_among ((code_program code limits).is_sync o.class) js ms) (one_some f.0 s.methods (slice_get ((code_program code limits).chords o.class) k) f.1 s.chord) ∙ s.is

-- the task of a place that fits is one in which the firing may begin
pub host : {over : List ℕ} (code : Parts) (limits : Limits) (bodies : CodeBodies) (h : List Entry) (at n k : ℕ) (o : Object) (ms : List ℕ) (vs : List Value) → IsSound (code_program code limits) → StandsWith code limits bodies over h → length h ≡ n → Fires (code_program code limits) h k o ms vs → FitsAt (code_program code limits) bodies k o ms at → IsHost code limits bodies at n k o ms vs
host code limits bodies h at n k o ms vs sound s so_long f fits = by_call fits.call (call_served code limits h k o ms vs fits.call f fits.serves) fits.hosts
  where
    by_call : (call : Option ℕ) → served_among ((code_program code limits).is_sync o.class) f.0 ms ≡ call → HostsCall bodies at call → IsHost code limits bodies at n k o ms vs
    by_call None serves over =
        let k' = over_again code limits bodies h at n k o ms vs sound s so_long f serves over in
        record {
          task = k'.task;
          there = k'.there;
          is = k'.is;
          may = k'.may;
          awaits = λ q w. let z : false ≡ true = sym (ap (body_waits q) k'.over) ∙ w in cc;
        }
    by_call (Some call) serves home_is =
        let k' = caller code limits bodies h n k o ms vs call sound s so_long f serves in
        record {
          task = k'.task;
          there = ap (slice_get bodies.tasks.items) home_is ∙ k'.there;
          is = k'.is;
          may = k'.may;
          awaits = λ q w. ap (λ i. has i ms) (one_call q call k'.task w k'.waits) ∙ k'.member;
        }

-- ---- the bodies after a firing

-- a firing is no message, and its members are pending no longer
fired_pending : (n k : ℕ) (o : Object) (ms : List ℕ) (vs : List Value) (h : List Entry) (q : ℕ) (m : Message) → pending q (fired n k o ms vs ∷ h) ≡ Some m → (pending q h ≡ Some m) × (has q ms ≡ false)
fired_pending n k o ms vs h q m e =
    elim (either (n == q)) [
      | inl y ↦ nothing_some m (rw y at e)
      | inr f ↦ elim (either (has q ms)) [ inl y ↦ nothing_some m (rw (f, y) at e) | inr g ↦ (rw (f, g) at e, g) ]
    ]

-- after a firing the bodies stand, wherever the new body began, if the tasks keep what they did and the rest waits on
pub stands_fired : {over : List ℕ} (code : Parts) (limits : Limits) (before after : CodeBodies) (h : List Entry) (n k at : ℕ) (o : Object) (ms : List ℕ) (vs : List Value) → IsRunOfLength (code_program code limits) n h → StandsWith code limits before over h → Fires (code_program code limits) h k o ms vs → after.entries.items ≡ before.entries.items ++ fired n k o ms vs ∷ [] → after.homes.items ≡ before.homes.items ++ at ∷ [] → ((j : ℕ) → grown (views before.tasks.items) at (fired n k o ms vs) j ≡ views after.tasks.items j) → ((i : ℕ) (t : Task) → slice_get after.tasks.items i ≡ Some t → IsTaskOf code limits t) → AreReady after.tasks.items (reverse after.ready.items) → ((q : ℕ) → has q ms ≡ false → Awaits before.tasks.items q (home before.homes.items q) → Awaits after.tasks.items q (home before.homes.items q)) → length after.tasks.items ≤ suc (length h) → AreOver after.tasks.items (reverse after.over.items) → StandsAfter code limits after (fired n k o ms vs ∷ h)
stands_fired code limits before after h n k at o ms vs played s f listed homes grows tasks ready awaits few ends =
    let p = code_program code limits in
    let e = fired n k o ms vs in
    let one : OneMore before.homes.items after.homes.items (length h) at = more_home before.homes.items after.homes.items at (length h) s.homed homes in
    record {
      past = (s.past, record { numbered = sym played.so_long; comes = (refl, f) });
      journal = journal_more before.entries.items after.entries.items h e s.journal listed;
      keeps = λ i. keeps_more p before.homes.items after.homes.items (views before.tasks.items) h e at s.past (sym played.so_long) one s.keeps i ∙ grows i;
      tasks = tasks;
      ready = ready;
      calls =
          λ q m is sync.
          let old = fired_pending n k o ms vs h q m is in
          let l = pending_under p h q m s.past old.0 in
          subst (λ j. Awaits after.tasks.items q j) (sym (one.old q l)) (awaits q old.1 (s.calls q m old.0 sync));
      homed = ap length homes ∙ length-append before.homes.items (at ∷ []) ∙ omega (arith, s.homed);
      few = few;
      over = ends;
    }

-- a place that is put on top stands in the list
topped_has : (at : ℕ) (list : List ℕ) → has at (topped_by at list) ≡ true
topped_has at [] = has_first at []
topped_has at (i ∷ list) =
    elim (either (i == at)) [
      | inl y ↦ rw y (subst (λ z. has z (i ∷ list) ≡ true) (eqb-true i at y) (has_first i list))
      | inr o ↦ rw o (has_first at (i ∷ list))
    ]

-- and so does each that stood there
topped_keeps : (at j : ℕ) (list : List ℕ) → has j list ≡ true → has j (topped_by at list) ≡ true
topped_keeps at j list e = elim (either (is_on_top at list)) [ inl y ↦ rw y e | inr o ↦ rw o (has_later j at list e) ]

-- the place that was put on top is the first
pub topped_first : (at : ℕ) (list : List ℕ) → take 1 (topped_by at list) ≡ at ∷ []
topped_first at [] = refl
topped_first at (i ∷ list) = elim (either (i == at)) [ inl y ↦ rw y (ap (λ z. z ∷ []) (eqb-true i at y)) | inr o ↦ rw o refl ]

-- the task of the newest entry is that which was put on top
pub home_topped : (homes homes' ready ready' : List ℕ) (at n : ℕ) → length homes ≡ n → ready' ≡ topped_by at ready → homes' ≡ homes ++ take 1 ready' → home homes' n ≡ at
home_topped homes homes' ready ready' at n long top is =
    let here : homes' ≡ homes ++ at ∷ [] = is ∙ ap (λ z. homes ++ z) (ap (λ (z : List ℕ). take 1 z) top ∙ topped_first at ready) in
    ap (λ z. home z n) here ∙ ap home_in (subst (λ k. slice_get (homes ++ at ∷ []) k ≡ Some at) long (end_at homes at))

-- the place that was put on top is that of the newest entry's task
pub topped_home : (homes homes' ready ready' : List ℕ) (at n : ℕ) → length homes ≡ n → ready' ≡ topped_by at ready → homes' ≡ homes ++ take 1 ready' → ready' ≡ topped_by (home homes' n) ready
topped_home homes homes' ready ready' at n long top is =
    let here : homes' ≡ homes ++ at ∷ [] = is ∙ ap (λ z. homes ++ z) (ap (λ (z : List ℕ). take 1 z) top ∙ topped_first at ready) in
    let place : home homes' n ≡ at = ap (λ z. home z n) here ∙ ap home_in (subst (λ k. slice_get (homes ++ at ∷ []) k ≡ Some at) long (end_at homes at)) in
    subst (λ z. ready' ≡ topped_by z ready) (sym place) top

-- a task that begins a body is put on top of the list of the ready ones
ready_topped : (tasks : List Task) (at : ℕ) (t : Task) (ready : List ℕ) → AreReady tasks ready → AreReady (set tasks at t) (topped_by at ready)
unfolding ready_at
ready_topped tasks at t ready a =
    record {
      all =
          λ j e.
          elim (either (at == j)) [
            | inl y ↦ subst (λ z. has z (topped_by at ready) ≡ true) (eqb-true at j y) (topped_has at ready)
            | inr o ↦ topped_keeps at j ready (a.all j (sym (ap ready_in (set_other tasks at j t (eqb-false at j o))) ∙ e))
          ];
    }

-- the new body is in a task that was there
pub fired_at : (code : Parts) (limits : Limits) (before after : CodeBodies) (h : List Entry) (at n k : ℕ) (o : Object) (ms : List ℕ) (vs : List Value) (t : Task) → IsRunOfLength (code_program code limits) n h → StandsWith code limits before (at ∷ reverse before.over.items) h → Fires (code_program code limits) h k o ms vs → (c : IsHost code limits before at n k o ms vs) → IsTaskOf code limits t → (view_of t).past ≡ fired n k o ms vs ∷ (view_of c.task).past → (view_of t).top ≡ Some n → after.entries.items ≡ before.entries.items ++ fired n k o ms vs ∷ [] → after.tasks.items ≡ set before.tasks.items at t → reverse after.ready.items ≡ topped_by at (reverse before.ready.items) → after.over.items ≡ before.over.items → after.homes.items ≡ before.homes.items ++ at ∷ [] → StandsAfter code limits after (fired n k o ms vs ∷ h)
fired_at code limits before after h at n k o ms vs t played s f c task past top listed tasks ready over homes =
    let xs = before.tasks.items in
    stands_fired code limits before after h n k at o ms vs played s f listed homes
    (λ j. views_set xs at t c.task (fired n k o ms vs) c.there past j ∙ ap (λ z. views z j) (sym tasks))
    (subst (λ z. (i : ℕ) (x : Task) → slice_get z i ≡ Some x → IsTaskOf code limits x) (sym tasks) (tasks_set code limits xs at t c.task c.there task s.tasks))
    (subst (λ z. AreReady z (reverse after.ready.items)) (sym tasks) (subst (λ (z : List ℕ). AreReady (set xs at t) z) (sym ready) (ready_topped xs at t (reverse before.ready.items) s.ready)))
    (λ q out a.
    subst (λ z. Awaits z q (home before.homes.items q)) (sym tasks)
    (awaits_set xs at t c.task q (home before.homes.items q) c.there (λ w. let z : true ≡ false = sym (c.awaits q w) ∙ out in cc) a))
    (let i = ap length tasks in let l = length-set xs at t in let m = s.few in omega (arith, i, l, m))
    (subst (λ z. AreOver z (reverse after.over.items)) (sym tasks) (subst (λ (z : List ℕ). AreOver (set xs at t) (reverse z)) (sym over) (over_begun xs at n t c.task (reverse before.over.items) c.there top s.over)))

-- one more task keeps its one entry, and the others what they kept
views_new : (tasks : List Task) (t : Task) (e : Entry) → (view_of t).past ≡ e ∷ [] → (j : ℕ) → grown (views tasks) (length tasks) e j ≡ views (tasks ++ t ∷ []) j
views_new tasks t e p j =
    elim (either (length tasks == j)) [
      | inl y ↦
          (let i = eqb-true (length tasks) j y in
          let none : slice_get tasks j ≡ None = past_end tasks j (omega (arith, i)) in
          let here : slice_get (tasks ++ t ∷ []) j ≡ Some t = subst (λ z. slice_get (tasks ++ t ∷ []) z ≡ Some t) i (end_at tasks t) in
          rw (y, none, here) (sym p))
      | inr o ↦ rw (o, before_end tasks t j (eqb-false (length tasks) j o))
    ]

-- one more task of the code beside those that are
tasks_more : (code : Parts) (limits : Limits) (tasks : List Task) (t : Task) → IsTaskOf code limits t → ((i : ℕ) (x : Task) → slice_get tasks i ≡ Some x → IsTaskOf code limits x) → (i : ℕ) (x : Task) → slice_get (tasks ++ t ∷ []) i ≡ Some x → IsTaskOf code limits x
tasks_more code limits tasks t k f i x e =
    elim (either (length tasks == i)) [
      | inl y ↦
          (let here : slice_get (tasks ++ t ∷ []) i ≡ Some t = subst (λ z. slice_get (tasks ++ t ∷ []) z ≡ Some t) (eqb-true (length tasks) i y) (end_at tasks t) in
          subst (λ (z : Task). IsTaskOf code limits z) (one_some t x (slice_get (tasks ++ t ∷ []) i) here e) k)
      | inr o ↦ f i x (sym (before_end tasks t i (eqb-false (length tasks) i o)) ∙ e)
    ]

-- one more task is put on top of the list of the ready ones
ready_new : (tasks : List Task) (t : Task) (ready : List ℕ) → AreReady tasks ready → AreReady (tasks ++ t ∷ []) (topped_by (length tasks) ready)
unfolding ready_at
ready_new tasks t ready a =
    record {
      all =
          λ j e.
          elim (either (length tasks == j)) [
            | inl y ↦ subst (λ z. has z (topped_by (length tasks) ready) ≡ true) (eqb-true (length tasks) j y) (topped_has (length tasks) ready)
            | inr o ↦ topped_keeps (length tasks) j ready (a.all j (sym (ap ready_in (before_end tasks t j (eqb-false (length tasks) j o))) ∙ e))
          ];
    }

-- the new body has a task of its own
pub fired_alone : (code : Parts) (limits : Limits) (before after : CodeBodies) (h : List Entry) (n k : ℕ) (o : Object) (ms : List ℕ) (vs : List Value) (t : Task) → IsRunOfLength (code_program code limits) n h → StandsAfter code limits before h → Fires (code_program code limits) h k o ms vs → IsTaskOf code limits t → (view_of t).past ≡ fired n k o ms vs ∷ [] → (view_of t).top ≡ Some n → after.entries.items ≡ before.entries.items ++ fired n k o ms vs ∷ [] → after.tasks.items ≡ before.tasks.items ++ t ∷ [] → reverse after.ready.items ≡ topped_by (length before.tasks.items) (reverse before.ready.items) → after.over.items ≡ before.over.items → after.homes.items ≡ before.homes.items ++ length before.tasks.items ∷ [] → StandsAfter code limits after (fired n k o ms vs ∷ h)
fired_alone code limits before after h n k o ms vs t played s f task past top listed tasks ready over homes =
    let xs = before.tasks.items in
    stands_fired code limits before after h n k (length xs) o ms vs played s f listed homes
    (λ j. views_new xs t (fired n k o ms vs) past j ∙ ap (λ z. views z j) (sym tasks))
    (subst (λ z. (i : ℕ) (x : Task) → slice_get z i ≡ Some x → IsTaskOf code limits x) (sym tasks) (tasks_more code limits xs t task s.tasks))
    (subst (λ z. AreReady z (reverse after.ready.items)) (sym tasks) (subst (λ (z : List ℕ). AreReady (xs ++ t ∷ []) z) (sym ready) (ready_new xs t (reverse before.ready.items) s.ready)))
    (λ q out a.
    subst (λ z. Awaits z q (home before.homes.items q)) (sym tasks)
    (let l = slice_get_within xs (home before.homes.items q) a.0 a.1 in
    (a.0, before_end xs t (home before.homes.items q) (λ d. omega (arith, d, l)) ∙ a.1, a.2)))
    (let i = ap length tasks in let l = length-append xs (t ∷ []) in let m = s.few in omega (arith, i, l, m))
    (subst (λ z. AreOver z (reverse after.over.items)) (sym tasks) (subst (λ (z : List ℕ). AreOver (xs ++ t ∷ []) (reverse z)) (sym over) (over_more xs t n (reverse before.over.items) top s.over)))
