-- What stands in the parcels of a firing's members, and the firing's body before it is played or posted.
use Rattle.std.specs.Prelude.{◌≡◌, ℕ, ◌<◌, true, false, List, [], ◌∷◌, Option, Some, None}
use Rattle.chord_base.specs.declared.event.Entry.{Entry}
use Rattle.chord_base.specs.declared.event.Limits.{Limits}
use Rattle.chord_base.specs.declared.event.What.TheVariants.{Fired}
use Rattle.chord_base.specs.declared.value.Object.{Object}
use Rattle.chord_base.specs.declared.value.Value as value
use Rattle.chord_base.specs.Meaning.{Program}
use Rattle.chord_base.specs.Story.{IsIn, IsTold, IsRising}
use Rattle.chord_code.specs.declared.parts.Parts.{Parts}
use Rattle.chord_code.specs.Meaning.{code_program}
use Rattle.chord_rule.specs.declared.view.View.{View}
use Rattle.chord_rule.specs.Kinds.{entry, left_by, MayGo}
use Rattle.chord_rule.specs.Parcels.{BeginsThere}
use Rattle.chord_space.specs.declared.space.Space.{Space}
use Rattle.chord_space.specs.Desks.{view, space_code, space_limits, program_of, IsDeskOf}
use Rattle.chord_task.specs.declared.args.Args.{Args}
use Rattle.chord_task.specs.declared.parcel.Opened.{Opened as Parcel}
use Rattle.chord_task.specs.declared.task.Task.{Task}
use Rattle.chord_task.specs.Gathering.{AreGathered}
use Rattle.chord_task.specs.Standing.{view_of, IsTaskOf, MayResume, is_ready_of}
use Rattle.chord_worker.specs.declared.worker.Worker.{Worker}
use Rattle.chord_worker.specs.Resting.{IsHandFree, IsInMemory, MayContinue, IsStock, AreListed}

-- the first task, if there is one, else the second
abbrev pub first_of : Option Task → Option Task → Option Task
first_of (Some t) u = Some t
first_of None u = u

-- the first task in these parcels
abbrev pub first_task : List Parcel → Option Task
first_task [] = None
first_task (q ∷ qs) = first_of q.task (first_task qs)

-- the arguments in these parcels, parcel by parcel
abbrev pub arguments_in : List Parcel → List Args
arguments_in [] = []
arguments_in (q ∷ qs) = q.arguments ∷ arguments_in qs

-- the arguments in the parcels were gathered, and this is the first task in them
pub record HasUnpacked (one : Args) (more : Option (List Args)) (caller : Option Task) (qs : List Parcel) : Type 0 where
  pub gathered : AreGathered one more (arguments_in qs)
  pub caller_is : caller ≡ first_task qs

-- the task of a caller, if there is one, else the one in stock
abbrev pub caller_or : Option Task → Task → Task
caller_or (Some t) stock = t
caller_or None stock = stock

-- what a desk keeps is what it kept before, and the past of a body that begins
pub record HasBoth (p : Program) (before begun kept : List Entry) : Type 0 where
  pub rises : IsRising kept
  pub told : IsTold p kept
  pub goes : MayGo p kept begun
  pub left : left_by begun kept ≡ before

-- the firing f may begin its body in the task, and then what the desk keeps now is what it kept before and the task's past
pub record FitsFiring (code : Parts) (limits : Limits) (before now : List Entry) (f k : ℕ) (o : Object) (ms : List ℕ) (vs : List value.Value) (t : Task) : Type 0 where
  pub task : IsTaskOf code limits t
  pub may : MayResume code limits t f k o ms vs
  pub both : HasBoth (code_program code limits) before (entry f f (Fired k o ms vs) ∷ (view_of t).past) now

-- the task has the body of the firing f on top, whose entry the worker has listed, and what the desk keeps beside the task's past is what it kept before
pub record HasBegun (s : Space Parcel) (w : Worker) (v : View) (f : ℕ) (t : Task) : Type 0 where
  pub desk : IsDeskOf s w.desk
  pub untold : w.spent ≡ false
  pub room : v.spent ≡ false
  pub free : IsHandFree v
  pub memory : IsInMemory (space_code s) (space_limits s) v.kept false w.task
  pub goes_on : MayContinue w.task
  pub stock : IsStock (space_code s) (space_limits s) w.spare
  pub duties : (view w.desk).duties ≡ []
  pub low : f < s.events
  pub listed : AreListed w.draws.items w.taken.items (view w.desk).draws
  pub seen : view w.desk ≡ record v { kept = (view w.desk).kept; draws = (view w.desk).draws; claims = []; unposted = f ∷ v.unposted; drawn = true; duties = (view w.desk).duties; looked = (view w.desk).looked }
  pub task : IsTaskOf (space_code s) (space_limits s) t
  pub ready : is_ready_of t ≡ true
  pub top : (view_of t).top ≡ Some f
  pub both : HasBoth (program_of s) v.kept (view_of t).past (view w.desk).kept
  pub begins : BeginsThere f (view_of t).past
  pub only : (e : Entry) → IsIn e (view_of t).past → e.body ≡ f → e.number ≡ f
