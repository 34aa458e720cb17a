-- When no task may go on.
use Rattle.std.proofs.Common.{◌≡◌, ℕ, false, List, ◌∷◌, Option, Some, None, refl, sym, ap, ◌∙◌, reverse, Vec, Global}
use Rattle.std.specs.Prelude.{slice_get}
use Rattle.chord_base.specs.declared.event.Entry.{Entry}
use Rattle.chord_base.specs.declared.event.Limits.{Limits}
use Rattle.chord_base.specs.Bodies.{Unplaced, doing, asked}
use Rattle.chord_base.specs.Machine.{NoneAsks}
use Rattle.chord_base.proofs.Merged.{merged_quiet}
use Rattle.chord_code.specs.declared.parts.Parts.{Parts}
use Rattle.chord_code.specs.Meaning.{code_program}
use Rattle.chord_task.specs.declared.task.Task.{Task}
use Rattle.chord_task.specs.Standing.{is_ready_of}
use Rattle.chord_task.proofs.Parcels.{parked_quiet}
use Rattle.chord_lists.specs.declared.code_bodies.CodeBodies.{CodeBodies}
use Rattle.chord_lists.specs.CodeStands.{past_of, views, ready_in, ready_at, AreReady, AreOver, StandsWith, StandsAfter}
use Rattle.chord_lists.proofs.CodeSteps.{stands_merged}
use Rattle.chord_lists.proofs.OverTasks.{over_later}

-- a task whose place may not go on may not go on
not_ready : (tasks : List Task) (i : ℕ) (t : Task) → slice_get tasks i ≡ Some t → ready_at tasks i ≡ false → is_ready_of t ≡ false
unfolding ready_at
not_ready tasks i t s e = sym (ap ready_in s) ∙ e

-- in a place that may not go on no body has a next ask, and each body has its call
quiet_at : (code : Parts) (limits : Limits) (bodies : CodeBodies) (h : List Entry) → StandsAfter code limits bodies h → ((i : ℕ) → ready_at bodies.tasks.items i ≡ false) → (i b : ℕ) (o : Option Task) → slice_get bodies.tasks.items i ≡ o → (asked (code_program code limits) (doing (code_program code limits) (past_of o) b) ≡ None) × (doing (code_program code limits) (past_of o) b ≡ Unplaced → ⊥)
quiet_at code limits bodies h s none i b None e = (refl, λ d. cc)
quiet_at code limits bodies h s none i b (Some t) e = parked_quiet code limits t (s.tasks i t e) (not_ready bodies.tasks.items i t e (none i)) b

-- where no task may go on, no body has a next ask
pub none_asks : (code : Parts) (limits : Limits) (bodies : CodeBodies) (h : List Entry) → StandsAfter code limits bodies h → ((i : ℕ) → ready_at bodies.tasks.items i ≡ false) → NoneAsks (code_program code limits) h
none_asks code limits bodies h s none b =
    merged_quiet (code_program code limits) (views bodies.tasks.items) h (stands_merged code limits bodies h s)
    (λ i c. quiet_at code limits bodies h s none i c (slice_get bodies.tasks.items i) refl) b

-- another list of ready tasks
pub stands_ready : (code : Parts) (limits : Limits) (before : CodeBodies) (ready : Vec ℕ Global) (h : List Entry) → StandsAfter code limits before h → AreReady before.tasks.items (reverse ready.items) → StandsAfter code limits (record { tasks = before.tasks; ready = ready; entries = before.entries; homes = before.homes; over = before.over }) h
stands_ready code limits before ready h s r =
    record { past = s.past; journal = s.journal; keeps = s.keeps; tasks = s.tasks; ready = r; calls = s.calls; homed = s.homed; few = s.few; over = s.over }

-- other places of tasks that are over, whatever list they are to stand in
pub stands_over : {over : List ℕ} (code : Parts) (limits : Limits) (before : CodeBodies) (list : Vec ℕ Global) (places : List ℕ) (h : List Entry) → StandsWith code limits before over h → AreOver before.tasks.items places → StandsWith code limits (record { tasks = before.tasks; ready = before.ready; entries = before.entries; homes = before.homes; over = list }) places h
stands_over code limits before list places h s o =
    record { past = s.past; journal = s.journal; keeps = s.keeps; tasks = s.tasks; ready = s.ready; calls = s.calls; homed = s.homed; few = s.few; over = o }

-- one more place that need not be of a task that is over
pub stands_later : {over : List ℕ} (code : Parts) (limits : Limits) (bodies : CodeBodies) (at : ℕ) (h : List Entry) → StandsWith code limits bodies over h → StandsWith code limits bodies (at ∷ over) h
stands_later {over} code limits bodies at h s =
    record { past = s.past; journal = s.journal; keeps = s.keeps; tasks = s.tasks; ready = s.ready; calls = s.calls; homed = s.homed; few = s.few; over = over_later bodies.tasks.items at over s.over }

-- where no task may go on the engine is told so, and the bodies stand as before
pub went_over : (code : Parts) (limits : Limits) (before : CodeBodies) (ready : Vec ℕ Global) (h : List Entry) → StandsAfter code limits before h → ((i : ℕ) → ready_at before.tasks.items i ≡ false) → AreReady before.tasks.items (reverse ready.items) → NoneAsks (code_program code limits) h × StandsAfter code limits (record { tasks = before.tasks; ready = ready; entries = before.entries; homes = before.homes; over = before.over }) h
went_over code limits before ready h s none r = (none_asks code limits before h s none, stands_ready code limits before ready h s r)
