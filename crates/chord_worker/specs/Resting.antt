-- A worker at rest: its lists have what its desk drew, its task may go on, and every other body that its desk keeps has ended or waits.
use Rattle.std.specs.Prelude.{◌≡◌, ℕ, Bool, true, false, List, [], ◌∷◌, ◌++◌, Option, Some, None, Vec, flat_map, reverse, IsPermutation}
use Rattle.std.specs.Global.{Global}
use Rattle.chord_base.specs.declared.event.Entry.{Entry}
use Rattle.chord_base.specs.declared.event.Limits.{Limits}
use Rattle.chord_base.specs.Story.{IsRising, IsTold}
use Rattle.chord_code.specs.declared.parts.Parts.{Parts}
use Rattle.chord_code.specs.Meaning.{code_program}
use Rattle.chord_rule.specs.declared.view.View.{View}
use Rattle.chord_rule.specs.Closing.{AreQuiet}
use Rattle.chord_rule.specs.Kinds.{left_by, MayGo}
use Rattle.chord_rule.specs.Ways.{LastSeen}
use Rattle.chord_space.specs.declared.space.Space.{Space}
use Rattle.chord_space.specs.Desks.{view, space_code, space_limits, IsDeskOf}
use Rattle.chord_task.specs.declared.parcel.Opened.{Opened as Parcel}
use Rattle.chord_task.specs.declared.task.Task.{Task}
use Rattle.chord_task.specs.Standing.{view_of, IsTaskOf, IsResumable, is_ready_of}
use Rattle.chord_word.specs.declared.cells.Cell.TheVariants.{Ready}
use Rattle.chord_word.specs.declared.cells.Word.{Word}
use Rattle.chord_worker.specs.declared.worker.Worker.{Worker}

-- of what a desk keeps, what is not of the past of the task
abbrev pub beside_task : Option Task → List Entry → List Entry
beside_task None es = es
beside_task (Some t) es = left_by (view_of t).past es

-- the task, if there is one, is of the code under the limits, and its past is a part of what the desk keeps that may go
abbrev pub MayBePlayed : Parts → Limits → List Entry → Option Task → Type 0
MayBePlayed code limits es None = Unit {0}
MayBePlayed code limits es (Some t) = IsTaskOf code limits t × MayGo (code_program code limits) es (view_of t).past

-- the past of the task is a part of what the desk keeps, and the rest is quiet, unless the run is full
pub record IsInMemory (code : Parts) (limits : Limits) (kept : List Entry) (spent : Bool) (task : Option Task) : Type 0 where
  pub rises : IsRising kept
  pub told : IsTold (code_program code limits) kept
  pub played : MayBePlayed code limits kept task
  pub quiet : spent ≡ false → AreQuiet (code_program code limits) (beside_task task kept)

-- the task, if there is one, may go on
abbrev pub MayContinue : Option Task → Type 0
MayContinue None = Unit {0}
MayContinue (Some t) = is_ready_of t ≡ true

-- the desk has nothing in hand, but for firings that it plays itself
pub record IsHandFree (v : View) : Type 0 where
  pub claims : v.claims ≡ []
  pub flight : v.flight ≡ None
  pub fresh : v.fresh ≡ []

-- a task in stock has no body, and room for one
pub record IsStockTask (code : Parts) (limits : Limits) (t : Task) : Type 0 where
  pub task : IsTaskOf code limits t
  pub past : (view_of t).past ≡ []
  pub top : (view_of t).top ≡ None
  pub room : IsResumable code t

-- there is no task in stock, or it is one
abbrev pub IsStock : Parts → Limits → Option Task → Type 0
IsStock code limits None = Unit {0}
IsStock code limits (Some t) = IsStockTask code limits t

-- the entries in these lists
abbrev pub all_in : List (Vec Entry Global) → List Entry
all_in lists = flat_map (λ (list : Vec Entry Global). list.items) lists

-- a worker's own list and those that it took over have what its desk drew; where none was taken over, its own has it in the order in which it was drawn
pub record AreListed (own : List Entry) (taken : List (Vec Entry Global)) (drawn : List Entry) : Type 0 where
  pub moved : IsPermutation (own ++ all_in taken) drawn
  pub in_order : taken ≡ [] → own ≡ reverse drawn

-- the worker is at rest
pub record IsAtRest (s : Space Parcel) (w : Worker) : Type 0 where
  pub desk : IsDeskOf s w.desk
  pub told : w.spent ≡ (view w.desk).spent
  pub free : IsHandFree (view w.desk)
  pub duties : (view w.desk).spent ≡ false → (view w.desk).duties ≡ []
  pub memory : IsInMemory (space_code s) (space_limits s) (view w.desk).kept (view w.desk).spent w.task
  pub goes_on : MayContinue w.task
  pub stock : IsStock (space_code s) (space_limits s) w.spare
  -- its lists have what its desk drew, and what the desks of the workers that it took in drew
  pub listed : AreListed w.draws.items w.taken.items (view w.desk).draws

-- a worker that ran out of memory has no task, no claim and nothing in flight, and its lists have each entry that its desk drew
pub record IsOutOfMemory (s : Space Parcel) (w : Worker) : Type 0 where
  pub desk : IsDeskOf s w.desk
  pub none : w.task ≡ None
  pub free : IsHandFree (view w.desk)
  pub listed : AreListed w.draws.items w.taken.items (view w.desk).draws

-- both views are of one desk, which was neither split nor joined, and no draw is forgotten
pub record IsSameRole (v w : View) : Type 0 where
  pub first : w.first ≡ v.first
  pub lent : w.lent ≡ v.lent
  pub splits : w.splits ≡ v.splits
  pub drawn : v.drawn ≡ true → w.drawn ≡ true

-- a look at a cell: it is remembered, and nothing else that a worker at rest knows has changed
pub record IsSeen (v w : View) (i : ℕ) (x : Word) : Type 0 where
  pub role : IsSameRole v w
  pub spent : w.spent ≡ v.spent
  pub kept : w.kept ≡ v.kept
  pub draws : w.draws ≡ v.draws
  pub count : w.looked.count ≡ v.looked.count
  pub seen : w.looked.seen ≡ record { number = i; word = x } ∷ v.looked.seen

-- what the desk last read or wrote in the cell i is that a firing is ready
pub record LastSawReady (v : View) (i : ℕ) : Type 0 where
  pub word : Word
  pub last : LastSeen i word v.looked.seen
  pub ready : word.cell ≡ Ready
