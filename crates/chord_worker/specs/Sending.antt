-- A message is sent off: linked with its parcel, and armed; and then the worker minds it.
use Rattle.std.specs.Prelude.{◌≡◌, ℕ, false, List, [], ◌∷◌, Some, None}
use Rattle.chord_bag.specs.Reads.{messages_and_bags}
use Rattle.chord_base.specs.declared.event.Entry.{Entry}
use Rattle.chord_base.specs.Story.{IsIn}
use Rattle.chord_rule.specs.declared.view.View.{View}
use Rattle.chord_rule.specs.Duties.{duty_on}
use Rattle.chord_rule.specs.Kinds.{left_by, without}
use Rattle.chord_space.specs.declared.space.Space.{Space}
use Rattle.chord_space.specs.Desks.{view, space_code, space_limits, IsDeskOf}
use Rattle.chord_task.specs.declared.parcel.Opened.{Opened as Parcel}
use Rattle.chord_task.specs.declared.task.Task.{Task}
use Rattle.chord_worker.specs.declared.worker.Worker.{Worker}
use Rattle.chord_worker.specs.Resting.{IsHandFree, IsInMemory, MayContinue, IsStockTask, IsSameRole, AreListed}
use Rattle.chord_worker.specs.Stepping.{WasMinded}

-- the message m was linked in the bag k and armed, and these entries went with its parcel
pub record IsSentOff (v w : View) (m k : ℕ) (es : List Entry) : Type 0 where
  pub kept : w.kept ≡ left_by es v.kept
  pub draws : w.draws ≡ v.draws
  pub fresh : w.fresh ≡ without m v.fresh
  pub claims : w.claims ≡ v.claims
  pub flight : w.flight ≡ None
  pub duties : w.duties ≡ duty_on m k ∷ v.duties
  pub spent : w.spent ≡ v.spent
  pub role : IsSameRole v w

-- the worker minds the message m in the bag k: it is at rest but for its duty on m, and has a task in stock
pub record Minds (s : Space Parcel) (w : Worker) (m k : ℕ) : Type 0 where
  pub desk : IsDeskOf s w.desk
  pub untold : w.spent ≡ false
  pub room : (view w.desk).spent ≡ false
  pub free : IsHandFree (view w.desk)
  pub duty : messages_and_bags (view w.desk).duties ≡ (m, k) ∷ []
  pub memory : IsInMemory (space_code s) (space_limits s) (view w.desk).kept false w.task
  pub goes_on : MayContinue w.task
  pub stock : Task
  pub spare : w.spare ≡ Some stock
  pub is_stock : IsStockTask (space_code s) (space_limits s) stock
  pub listed : AreListed w.draws.items w.taken.items (view w.desk).draws

-- the worker, whose desk kept these entries, ended its last body and then minded the message m
abbrev pub WasMindedLast : (ℕ → Type 0) → List Entry → Worker → ℕ → Type 0
WasMindedLast knows before w m = (es : List Entry) × ((e : Entry) → IsIn e before → IsIn e es) × WasMinded knows es None w m
