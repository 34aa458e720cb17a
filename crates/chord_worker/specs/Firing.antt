-- A worker between a firing that it drew, whose parcels it was handed, and the beginning of the firing's body.
use Rattle.std.specs.Prelude.{◌≡◌, ℕ, false, List, [], Some, None}
use Rattle.chord_base.specs.declared.event.What.TheVariants.{Fired}
use Rattle.chord_base.specs.declared.value.Object.{Object}
use Rattle.chord_base.specs.Bodies.{served}
use Rattle.chord_match.specs.Fires.{IsFired, laid_together}
use Rattle.chord_rule.specs.declared.view.View.{View}
use Rattle.chord_space.specs.declared.space.Space.{Space}
use Rattle.chord_space.specs.Desks.{view, space_code, space_limits, program_of, IsDeskOf}
use Rattle.chord_task.specs.declared.parcel.Opened.{Opened as Parcel}
use Rattle.chord_task.specs.declared.task.Task.{Task}
use Rattle.chord_task.specs.Parcels.{entries_of, arguments_of, IsParcelOf}
use Rattle.chord_worker.specs.declared.worker.Worker.{Worker}
use Rattle.chord_worker.specs.Resting.{IsHandFree, IsInMemory, MayContinue, IsStockTask, AreListed}

-- before the firing the worker had nothing in hand but the message that it minded, and its lists had what its desk drew; the firing was drawn, and none of its duties is left
pub record HasFired (s : Space Parcel) (w : Worker) (v : View) (object : Object) (chord : ℕ) (members : List ℕ) (f : ℕ) (parcels : List Parcel) : Type 0 where
  pub desk : IsDeskOf s w.desk
  pub untold : w.spent ≡ false
  pub room : v.spent ≡ false
  pub free : IsHandFree v
  pub memory : IsInMemory (space_code s) (space_limits s) v.kept false w.task
  pub goes_on : MayContinue w.task
  pub stock : Task
  pub spare : w.spare ≡ Some stock
  pub is_stock : IsStockTask (space_code s) (space_limits s) stock
  pub listed : AreListed w.draws.items w.taken.items v.draws
  pub duties : (view w.desk).duties ≡ []
  pub fired : IsFired entries_of arguments_of (λ q. IsParcelOf q (space_code s) (space_limits s)) (program_of s) s.events v (view w.desk) object chord members f parcels

-- the firing of this chord with these members and parcels serves no call
abbrev pub ServesNone : Space Parcel → Object → ℕ → List ℕ → List Parcel → Type 0
ServesNone s object chord members parcels = served (program_of s) (Fired chord object members (laid_together arguments_of parcels)) ≡ None
