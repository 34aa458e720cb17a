-- What a step leaves behind: an entry that the desk keeps, a task that is away with its call, or the word that the limit is reached.
use Rattle.std.specs.Prelude.{◌≡◌, ◌≢◌, ◌⊎◌, ◌<◌, ℕ, true, false, List, [], ◌∷◌, ◌++◌, Option, Some, None}
use Rattle.chord_base.specs.declared.event.Entry.{Entry}
use Rattle.chord_base.specs.declared.event.What.{What}
use Rattle.chord_base.specs.declared.event.What.TheVariants.{Begun}
use Rattle.chord_base.specs.Bodies.{served}
use Rattle.chord_base.specs.Meaning.{Program}
use Rattle.chord_base.specs.Messages.{message_of}
use Rattle.chord_base.specs.Printed.{is_end}
use Rattle.chord_base.specs.Story.{AllBelow, IsIn}
use Rattle.chord_rule.specs.Kinds.{entry}
use Rattle.chord_rule.specs.Stages.{IsFiringEntry}
use Rattle.chord_space.specs.Desks.{view}
use Rattle.chord_task.specs.declared.task.Task.{Task}
use Rattle.chord_task.specs.Standing.{view_of}
use Rattle.chord_worker.specs.declared.worker.Worker.{Worker}

-- one of these entries was drawn after all of those
abbrev pub HasNewer : List Entry → List Entry → Type 0
HasNewer before now = (e : Entry) × IsIn e now × AllBelow e.number before

-- none of these entries is among those
abbrev pub AreAway : List Entry → List Entry → Type 0
AreAway gone now = (e : Entry) → IsIn e gone → IsIn e now → ⊥

-- the worker, whose desk kept these entries, went on with the task: the desk keeps a newer entry, or the task is away with its entries, or the desk was told that the limit is reached
abbrev pub HasGoneOn : List Entry → Task → Worker → Type 0
HasGoneOn before t w = HasNewer before (view w.desk).kept ⊎ (((w.task ≡ None) × AreAway (view_of t).past (view w.desk).kept) ⊎ ((view w.desk).spent ≡ true))

-- no other task is played: none, or this one with one entry more
abbrev pub PlaysNoOther : Task → Option Task → Type 0
PlaysNoOther t None = Unit {0}
PlaysNoOther t (Some t') = (x : Entry) × ((view_of t').past ≡ x ∷ (view_of t).past)

-- the worker plays a task with this body on top
abbrev pub PlaysBody : ℕ → Worker → Type 0
PlaysBody b w = (t : Task) × (w.task ≡ Some t) × ((view_of t).top ≡ Some b)

-- the worker plays a body that began with an entry of its desk which was drawn after all of these, and of which the gate knows
abbrev pub PlaysKnownBody : (ℕ → Type 0) → List Entry → Worker → Type 0
PlaysKnownBody knows before w = (e : Entry) × IsIn e (view w.desk).kept × AllBelow e.number before × knows e.number × PlaysBody e.number w

-- the worker plays `Main`, whose beginning is all that its desk drew, and was not told that the limit is reached
pub record PlaysMain (w : Worker) : Type 0 where
  pub plays : PlaysBody 0 w
  pub room : w.spent ≡ false
  pub drawn : (view w.desk).draws ≡ entry 0 0 Begun ∷ []

-- the worker, whose desk kept these entries, plays no other task than this one, or a body of which the gate knows
abbrev pub PlaysNext : (ℕ → Type 0) → List Entry → Task → Worker → Type 0
PlaysNext knows before t w = PlaysNoOther t w.task ⊎ PlaysKnownBody knows before w

-- the worker still plays this task, and its desk keeps these entries
abbrev pub StillPlays : List Entry → Option Task → Worker → Type 0
StillPlays before x w = (w.task ≡ x) × ((view w.desk).kept ≡ before)

-- the worker, which had no task, plays the firing f, of which the gate knows, and whose entry its desk keeps beside all that it kept
pub record PlaysFiring (knows : ℕ → Type 0) (before : List Entry) (x : Option Task) (w : Worker) (f : ℕ) : Type 0 where
  pub idle : x ≡ None
  pub known : knows f
  pub on_top : PlaysBody f w
  pub fired : Entry
  pub numbered : fired.number ≡ f
  pub there : IsIn fired (view w.desk).kept
  pub stay : (e : Entry) → IsIn e before → IsIn e (view w.desk).kept

-- the firing f was posted by a worker that has a task, or is played
abbrev pub HasTakenOn : (ℕ → Type 0) → List Entry → Option Task → Worker → ℕ → Type 0
HasTakenOn knows before x w f = ((x ≢ None) × StillPlays before x w) ⊎ PlaysFiring knows before x w f

-- the message m was minded: nothing else is played than before, or a firing is played that was drawn after m, or the desk was told that the limit is reached
abbrev pub WasMinded : (ℕ → Type 0) → List Entry → Option Task → Worker → ℕ → Type 0
WasMinded knows before x w m = StillPlays before x w ⊎ (((f : ℕ) × (m < f) × PlaysFiring knows before x w f) ⊎ ((view w.desk).spent ≡ true))

-- after these entries a desk drew at most one, with which the body of a firing begins
abbrev pub DrewFiring : List Entry → List Entry → Type 0
DrewFiring before now = (now ≡ before) ⊎ ((f : Entry) × (now ≡ f ∷ before) × IsFiringEntry (Some f.what) × (f.body ≡ f.number))

-- after these entries a desk drew at most the end of the body b, and then at most one firing
abbrev pub DrewEnd : ℕ → List Entry → List Entry → Type 0
DrewEnd b before now = DrewFiring before now ⊎ ((e : Entry) × (e.body ≡ b) × (is_end e.what ≡ true) × DrewFiring (e ∷ before) now)

-- in a step of the task its desk, which had drawn these entries, drew nothing, or an entry of the body on top, then at most the end of this body, then at most one firing, and nothing else
abbrev pub DrewAStep : Task → List Entry → List Entry → Type 0
DrewAStep t before now = (now ≡ before) ⊎ ((e : Entry) × ((view_of t).top ≡ Some e.body) × DrewEnd e.body (e ∷ before) now)

-- after these entries a desk drew others, and last a firing that serves no call, with which its body begins
pub record DrewFiringLast (p : Program) (before now : List Entry) : Type 0 where
  pub others : List Entry
  pub fired : Entry
  pub drawn : now ≡ fired ∷ (others ++ before)
  pub is_firing : IsFiringEntry (Some fired.what)
  pub begins : fired.body ≡ fired.number
  pub serves_none : served p fired.what ≡ None

-- what the worker had in stock is there still, or its desk, which had drawn these entries, drew a firing last that serves no call
abbrev pub StillStocked : Program → List Entry → Option Task → Worker → Type 0
StillStocked p before x w = x ≢ None → (w.spare ≡ x) ⊎ DrewFiringLast p before (view w.desk).draws

-- after these entries a desk drew this one first, and perhaps others
abbrev pub DrewFirst : Entry → List Entry → List Entry → Type 0
DrewFirst e before now = (others : List Entry) × (now ≡ others ++ e ∷ before)

-- the entry that a desk drew first after these, if it drew any, says this
abbrev pub SaysFirst : What → List Entry → List Entry → Type 0
SaysFirst what before now = (e : Entry) → DrewFirst e before now → e.what ≡ what

-- what the worker has in stock after a step: before it x was in stock, and its desk had drawn these entries
pub record HasStockAfter (p : Program) (before : List Entry) (x : Option Task) (w : Worker) : Type 0 where
  -- what was there is there still, unless a firing that serves no call was drawn last
  pub still : StillStocked p before x w
  -- where the step's ask is a message, something is there then, unless such a firing was drawn last
  pub stocked : (e : Entry) → DrewFirst e before (view w.desk).draws → message_of e.what ≢ None → (w.spare ≢ None) ⊎ DrewFiringLast p before (view w.desk).draws
  -- where it is neither a message nor an end, nothing comes there
  pub unmade : (e : Entry) → DrewFirst e before (view w.desk).draws → message_of e.what ≡ None → is_end e.what ≡ false → w.spare ≡ x
