-- When the first worker may close the table.
use Rattle.std.specs.Prelude.{◌≡◌, ◌<◌, ◌≤◌, ◌⊎◌, ◌+◌, ℕ, true, false, ◌-◌, List, [], ◌∷◌, ◌++◌, length, Some, None, min}
use Rattle.chord_rule.specs.declared.view.Look.{Look}
use Rattle.chord_rule.specs.declared.view.View.{View}
use Rattle.chord_rule.specs.Closing.{IsAsleep, MayClose}
use Rattle.chord_rule.specs.Ways.{LastSeen}
use Rattle.chord_space.specs.declared.space.Space.{Space}
use Rattle.chord_space.specs.Desks.{view, events}
use Rattle.chord_task.specs.declared.parcel.Opened.{Opened as Parcel}
use Rattle.chord_task.specs.declared.task.Task.{Task}
use Rattle.chord_word.specs.declared.cells.Word.{Word}
use Rattle.chord_worker.specs.declared.worker.Worker.{Worker}
use Rattle.chord_worker.specs.Resting.{IsAtRest, IsOutOfMemory}
use Rattle.chord_worker.specs.Stepping.{DrewAStep, HasGoneOn, PlaysNext, PlaysFiring, StillPlays}
use Rattle.chord_pool.specs.declared.ending.Alone.{Alone}
use Rattle.chord_pool.specs.Players.{count_ready, AreAmong, AreLookedAt, IsSettled, IsUnready, LookedAtAll, LookedAtNone, LookedThrough}

-- each cell from `from` up to below `below` was looked at, and was last neither woken nor ready
abbrev pub AreAwake : (from below : ℕ) → List Look → Type 0
AreAwake from below looks = (i : ℕ) → from ≤ i → i < below → (x : Word) × LastSeen i x looks × (IsAsleep x.cell → ⊥)

-- one of these looks saw the cell i asleep
abbrev pub SawAsleep : ℕ → List Look → Type 0
SawAsleep i [] = ⊥
SawAsleep i (l ∷ ls) = ((i ≡ l.number) × IsAsleep l.word.cell) ⊎ SawAsleep i ls

-- between these views the desk looked at each cell from `from` up to `to` and at no other ones, and saw `to` asleep, and each cell before it was last neither woken nor ready: as many looks as these are read no firing ready, and at most as many more read one that was
pub record HasComeTo (from to : ℕ) (v w : View) : Type 0 where
  pub onward : from ≤ to
  pub looks : List Look
  pub seen : w.looked.seen ≡ looks ++ v.looked.seen
  pub among : AreAmong from (to + 1) looks
  pub each : AreLookedAt from (to + 1) looks
  pub asleep : SawAsleep to looks
  pub before : AreAwake from to w.looked.seen
  pub unready_looks : length looks ≡ ((to + 1) - from) + count_ready looks
  pub ready : count_ready looks ≤ (to + 1) - from

-- the worker, which had no task, plays the firing i, of which the gate knows, or has none and keeps what it kept, and last saw no firing ready in the cell i
abbrev pub IsStirred : (ℕ → Type 0) → ℕ → Worker → Worker → Type 0
IsStirred knows i v w = PlaysFiring knows (view v.desk).kept v.task w i ⊎ (StillPlays (view v.desk).kept None w × IsUnready i (view w.desk).looked.seen)

-- the first worker, which had no task, has none and keeps what it kept: it looked at the numbers from its place up to those that are given and at no other ones, nobody has to look after any of them, and it goes on at the first number, where it did not begin
pub record HasGoneBack (s : Space Parcel) (x y : Alone) : Type 0 where
  pub count : ℕ
  pub counted : (view y.worker.desk).looked.count ≡ Some count
  pub behind : 0 < x.place
  pub place : y.place ≡ 0
  pub still : StillPlays (view x.worker.desk).kept None y.worker
  pub awake : AreAwake x.place (min count (events s)) (view y.worker.desk).looked.seen
  pub through : LookedThrough x.place (min count (events s)) (view x.worker.desk) (view y.worker.desk)

-- the first worker, which had no task, has come from its place on to a cell that somebody had to look after, the first one, or went back to the first number
abbrev pub HasLookedAlone : (ℕ → Type 0) → Space Parcel → Alone → Alone → Type 0
HasLookedAlone knows s x y = (HasComeTo x.place y.place (view x.worker.desk) (view y.worker.desk) × IsStirred knows y.place x.worker y.worker) ⊎ HasGoneBack s x y

-- the first worker, alone, went on with its task, drew entries of the body on top and at most one firing, plays no other task but a body of which the gate knows, and stands where it stood, or it looked for a firing
pub record HadATurn (knows : ℕ → Type 0) (s : Space Parcel) (x y : Alone) : Type 0 where
  pub went : (t : Task) → x.worker.task ≡ Some t → HasGoneOn (view x.worker.desk).kept t y.worker
  pub plays : (t : Task) → x.worker.task ≡ Some t → PlaysNext knows (view x.worker.desk).kept t y.worker
  pub drew : (t : Task) → x.worker.task ≡ Some t → DrewAStep t (view x.worker.desk).draws (view y.worker.desk).draws
  pub stands : (t : Task) → x.worker.task ≡ Some t → y.place ≡ x.place
  pub looked : x.worker.task ≡ None → HasLookedAlone knows s x y

-- turns lead from x to y, and these are the workers before each of them, the newest first
abbrev pub AreTurns : (ℕ → Type 0) → Space Parcel → Alone → List Alone → Alone → Type 0
AreTurns knows s x [] y = x ≡ y
AreTurns knows s x (z ∷ zs) y = AreTurns knows s x zs z × HadATurn knows s z y

-- all that the first worker did was turns
pub record HadTurns (knows : ℕ → Type 0) (s : Space Parcel) (x y : Alone) : Type 0 where
  pub before_each : List Alone
  pub turns : AreTurns knows s x before_each y

-- the worker looked at the counter, which had reached the limit
abbrev pub SawLimit : ℕ → View → Type 0
SawLimit n v = (c : ℕ) × (v.looked.count ≡ Some c) × (min c n ≡ n)

-- the first worker, alone, found that the run is over: it plays what it played and keeps what it kept, and was told that the limit is reached, or saw it, and looked at no cell, or saw that it is not and looked at all numbers from the first on
pub record FoundRunOver (s : Space Parcel) (v w : Worker) : Type 0 where
  pub still : StillPlays (view v.desk).kept v.task w
  pub why : (((view w.desk).spent ≡ true) × LookedAtNone (view v.desk) (view w.desk)) ⊎ ((SawLimit (events s) (view w.desk) × LookedAtNone (view v.desk) (view w.desk)) ⊎ ((SawLimit (events s) (view w.desk) → ⊥) × LookedAtAll s (view v.desk) (view w.desk)))

-- the first worker had turns, and then found that the run is over
pub record HasLeftOffAlone (knows : ℕ → Type 0) (s : Space Parcel) (x : Alone) (w : Worker) : Type 0 where
  pub last : Alone
  pub had : HadTurns knows s x last
  pub off : FoundRunOver s last.worker w

-- the worker had one step of its task, and ran out of memory
pub record HasRunOut (s : Space Parcel) (v w : Worker) : Type 0 where
  pub task : Task
  pub had : v.task ≡ Some task
  pub short : IsOutOfMemory s w
  pub drew : DrewAStep task (view v.desk).draws (view w.desk).draws

-- the first worker had turns, and then one step of its task, and ran out of memory
pub record HasFailedAlone (knows : ℕ → Type 0) (s : Space Parcel) (x : Alone) (w : Worker) : Type 0 where
  pub last : Alone
  pub had : HadTurns knows s x last
  pub short : HasRunOut s last.worker w

-- the first worker is alone and at rest, and has nothing to play where it was told that the limit is reached
pub record IsAloneWorker (s : Space Parcel) (w : Worker) : Type 0 where
  pub settled : IsSettled s w
  pub first : (view w.desk).first ≡ true
  pub drawn : (view w.desk).drawn ≡ true
  pub lent : (view w.desk).lent ≡ 0

-- the first worker is alone and at rest, with nothing to play
pub record IsLast (s : Space Parcel) (w : Worker) : Type 0 where
  pub rest : IsAtRest s w
  pub task : w.task ≡ None
  pub first : (view w.desk).first ≡ true
  pub drawn : (view w.desk).drawn ≡ true
  pub lent : (view w.desk).lent ≡ 0

-- the run is over: the first worker was told that it is full, or saw it, or knows that nothing is left to do
pub record IsRunOver (s : Space Parcel) (w : Worker) : Type 0 where
  pub last : IsLast s w
  pub why : ((view w.desk).spent ≡ true) ⊎ (SawLimit (events s) (view w.desk) ⊎ (((view w.desk).spent ≡ false) × MayClose (view w.desk)))
