-- Workers of one run: which of them may draw, which have nothing to play, and how they are handed to threads and come back.
use Rattle.std.specs.Prelude.{◌≡◌, ◌≢◌, ◌⊎◌, ◌<◌, ◌≤◌, ◌+◌, ◌-◌, ℕ, Bool, false, true, if◌then◌else◌, ◌||◌, List, [], ◌∷◌, ◌++◌, length, min, Some, None, All}
use Rattle.atomic_table.specs.Seated.{TableId}
use Rattle.chord_base.specs.declared.event.Limits.{Limits}
use Rattle.chord_base.specs.declared.event.Entry.{Entry}
use Rattle.chord_base.specs.Story.{IsSound, together}
use Rattle.chord_code.specs.declared.parts.Parts.{Parts}
use Rattle.chord_rule.specs.declared.view.Look.{Look}
use Rattle.chord_rule.specs.declared.view.View.{View}
use Rattle.chord_rule.specs.Ways.{LastSeen}
use Rattle.chord_roll.specs.declared.card.Card.{Card}
use Rattle.chord_roll.specs.Cards.{counts, ended, hired, last_read, reads, times_asked, stops, tells, roll_of, IsFirstCard, IsSameCard}
use Rattle.chord_roll.specs.Roll.{counted_as}
use Rattle.chord_space.specs.declared.space.Space.{Space}
use Rattle.chord_space.specs.Desks.{view, space_code, space_limits, program_of}
use Rattle.chord_task.specs.declared.parcel.Opened.{Opened as Parcel}
use Rattle.chord_task.specs.declared.task.Task.{Task}
use Rattle.chord_word.specs.declared.cells.Cell.{Cell}
use Rattle.chord_word.specs.declared.cells.Cell.TheVariants.{Ready}
use Rattle.chord_word.specs.declared.cells.Word.{Word}
use Rattle.chord_worker.specs.declared.worker.Worker.{Worker}
use Rattle.chord_worker.specs.Resting.{IsAtRest, IsOutOfMemory, IsSameRole}
use Rattle.chord_worker.specs.Stepping.{DrewAStep, HasGoneOn, PlaysNext, PlaysFiring, StillPlays}
use Rattle.chord_pool.specs.declared.player.Player.{Player}

-- the code and the limits are those of the space, and its runs are those of a sound program
pub record IsOneRun (s : Space Parcel) (code : Parts) (limits : Limits) : Type 0 where
  pub code_is : space_code s ≡ code
  pub limits_are : space_limits s ≡ limits
  pub sound : IsSound (program_of s)

-- the worker is at rest, and was not told that the limit is reached
pub record IsFit (s : Space Parcel) (w : Worker) : Type 0 where
  pub rest : IsAtRest s w
  pub room : (view w.desk).spent ≡ false

-- the worker is at rest, and one that was told that the limit is reached has nothing to play
pub record IsSettled (s : Space Parcel) (w : Worker) : Type 0 where
  pub rest : IsAtRest s w
  pub over : (view w.desk).spent ≡ true → w.task ≡ None

-- the worker is at rest, and has nothing to play
pub record HasStopped (s : Space Parcel) (w : Worker) : Type 0 where
  pub rest : IsAtRest s w
  pub task : w.task ≡ None

-- a player that failed has told all to stop, or was told that they are to
abbrev pub TellsIfItFails : Player → Type 0
TellsIfItFails x = x.failed ≡ true → stops x.card ≡ true

-- a player that plays a task counts among those at work
abbrev pub CountsIfItPlays : Player → Type 0
CountsIfItPlays x = x.worker.task ≢ None → counts x.card ≡ true

-- how often the worker of a card began to count among those at work
abbrev pub began : Card → ℕ
began c = ended c + counted_as (counts c)

-- whether the worker counts is as it was, and it was not counted off in between
pub record CountsAsBefore (c d : Card) : Type 0 where
  pub same : counts d ≡ counts c
  pub throughout : ended d ≡ ended c

-- the cell i was last seen in another state than ready
abbrev pub IsUnready : ℕ → List Look → Type 0
IsUnready i looks = (x : Word) × LastSeen i x looks × (x.cell ≢ Ready)

-- each cell from `from` up to below `to` was last seen in another state than ready
abbrev pub AreUnready : ℕ → ℕ → List Look → Type 0
AreUnready from to looks = (i : ℕ) → from ≤ i → i < to → IsUnready i looks

-- whether this is the cell of a firing that is ready
abbrev pub is_ready : Cell → Bool
is_ready Ready = true
is_ready _ = false

-- how many of these looks read that a firing is ready
abbrev pub count_ready : List Look → ℕ
count_ready [] = 0
count_ready (l ∷ ls) = (if is_ready l.word.cell then 1 else 0) + count_ready ls

-- these looks were at numbers from `from` up to below `below`
abbrev pub AreAmong : ℕ → ℕ → List Look → Type 0
AreAmong from below [] = Unit {0}
AreAmong from below (l ∷ ls) = (from ≤ l.number) × (l.number < below) × AreAmong from below ls

-- one of these looks was at the number i
abbrev pub IsLookedAt : ℕ → List Look → Type 0
IsLookedAt i [] = ⊥
IsLookedAt i (l ∷ ls) = (i ≡ l.number) ⊎ IsLookedAt i ls

-- these looks were at each number from `from` up to below `below`
abbrev pub AreLookedAt : ℕ → ℕ → List Look → Type 0
AreLookedAt from below looks = (i : ℕ) → from ≤ i → i < below → IsLookedAt i looks

-- between these views the desk looked at cells from `from` up to below `below` and at no other ones
pub record LookedAmong (from below : ℕ) (v w : View) : Type 0 where
  pub looks : List Look
  pub seen : w.looked.seen ≡ looks ++ v.looked.seen
  pub among : AreAmong from below looks

-- between these views the desk looked once, at the cell i, and what it saw there is no ready firing: of a start that starts one, the word that it wrote
pub record LookedOnce (i : ℕ) (v w : View) : Type 0 where
  pub word : Word
  pub unready : word.cell ≢ Ready
  pub seen : w.looked.seen ≡ record { number = i; word = word } ∷ v.looked.seen

-- between these views the desk looked at each cell from `from` up to below `below` and at no other ones: as many looks as these are read no firing ready, and at most as many more read one that was
pub record LookedThrough (from below : ℕ) (v w : View) : Type 0 where
  pub looks : List Look
  pub seen : w.looked.seen ≡ looks ++ v.looked.seen
  pub among : AreAmong from below looks
  pub each : AreLookedAt from below looks
  pub unready_looks : length looks ≡ (below - from) + count_ready looks
  pub ready : count_ready looks ≤ below - from

-- between these views and cards a worker that did not count began to count once for each look that read a firing ready, and one that counted began no more
pub record BeganForEach (v w : View) (c d : Card) : Type 0 where
  pub looks : List Look
  pub seen : w.looked.seen ≡ looks ++ v.looked.seen
  pub began_is : began d ≡ began c + (if counts c then 0 else count_ready looks)

-- the desk looked at the counter, and last saw no firing ready among the numbers that are given, from `from` up to below `below`
pub record FoundNoneBelow (s : Space Parcel) (from below : ℕ) (v : View) : Type 0 where
  pub count : ℕ
  pub counted : v.looked.count ≡ Some count
  pub unready : AreUnready from (min below (min count s.events)) v.looked.seen

-- the desk looked at the counter, and last saw no firing ready below it, from this number on
abbrev pub FoundNone : Space Parcel → ℕ → View → Type 0
FoundNone s from v = FoundNoneBelow s from s.events v

-- a player may stop where it was told that the limit is reached, or last found no firing to start among all numbers and last read that nobody is at work
abbrev pub MayStop : Space Parcel → Player → Type 0
MayStop s x = ((view x.worker.desk).spent ≡ true) ⊎ (FoundNone s 0 (view x.worker.desk) × (last_read x.card ≡ Some 0))

-- between these views the cell i was seen, last in another state than ready, and no other cell and no counter, and the desk kept what it kept
pub record SawUnready (v w : View) (i : ℕ) : Type 0 where
  pub kept : w.kept ≡ v.kept
  pub word : Word
  pub last : LastSeen i word w.looked.seen
  pub unready : word.cell ≢ Ready
  pub count : w.looked.count ≡ v.looked.count
  pub others : (k : ℕ) (x : Word) → k ≢ i → LastSeen k x v.looked.seen → LastSeen k x w.looked.seen

-- a player that has not failed may go on
abbrev pub MayPlay : Space Parcel → Player → Type 0
MayPlay s x = x.failed ≡ false → IsSettled s x.worker

-- a player that has not failed has nothing to play, and may stop
abbrev pub HasPlayed : Space Parcel → Player → Type 0
HasPlayed s x = x.failed ≡ false → HasStopped s x.worker × MayStop s x

-- the player knows how many numbers the counter said were given
abbrev pub KnowsCount : Space Parcel → Player → Type 0
KnowsCount s x = (count : ℕ) × ((view x.worker.desk).looked.count ≡ Some count) × (x.known ≡ min count s.events)

-- a worker that had no task plays a firing of which the gate knows, and whose entry its desk keeps beside all that it kept
abbrev pub HasStarted : (ℕ → Type 0) → Worker → Worker → Type 0
HasStarted knows v w = (f : ℕ) × PlaysFiring knows (view v.desk).kept v.task w f

-- a player stands where it stood: it has the same place, knows of as many numbers, and as many of its last looks found none
pub record StandsStill (x y : Player) : Type 0 where
  pub place : y.place ≡ x.place
  pub known : y.known ≡ x.known
  pub misses : y.misses ≡ x.misses

-- where a look begins, and how many before it found none: at the place of the player, but at the first number, and none, where 32 of them did
pub record BeginsLook (x : Player) (from misses : ℕ) : Type 0 where
  pub near : x.misses ≢ 32 → (from ≡ x.place) × (misses ≡ x.misses)
  pub far : x.misses ≡ 32 → (from ≡ 0) × (misses ≡ 0)

-- between these views the desk looked at no cell
abbrev pub LookedAtNone : View → View → Type 0
LookedAtNone v w = w.looked.seen ≡ v.looked.seen

-- between these views the desk looked at the numbers that the counter said were given, from the first on, and at no other ones
abbrev pub LookedAtAll : Space Parcel → View → View → Type 0
LookedAtAll s v w = (count : ℕ) × (w.looked.count ≡ Some count) × LookedThrough 0 (min count s.events) v w

-- a player that did not count looked from where its look begins, which is here, up to the numbers that the counter said were given, and at no other ones, and last saw no firing ready among them
pub record LookedInVain (s : Space Parcel) (x : Player) (from : ℕ) (v : View) : Type 0 where
  pub uncounted : counts x.card ≡ false
  pub misses : ℕ
  pub begins : BeginsLook x from misses
  pub count : ℕ
  pub counted : v.looked.count ≡ Some count
  pub through : LookedThrough from (min count s.events) (view x.worker.desk) v
  pub unready : AreUnready from (min count s.events) v.looked.seen

-- a look of the player began there with this view: where it begins a look, with no look before it, or at the first number, where it read that nobody is at work and had looked in vain from a later one on
abbrev pub LooksFrom : Space Parcel → Player → Player → ℕ → View → Type 0
LooksFrom s x y from v =
    ((misses : ℕ) × BeginsLook x from misses × LookedAtNone (view x.worker.desk) v)
    ⊎ ((from ≡ 0) × (last_read y.card ≡ Some 0) × (near : ℕ) × (0 < near) × LookedInVain s x near v)

-- a player that had no task plays the firing at its place now, of which the gate knows, and whose entry its desk keeps beside all that it kept: each cell from where its last look began up to that one was last seen in another state than ready, it looked at these, at that one and at no other ones, one that does not count took none that was drawn since its last look, unless it read that nobody is at work, and one that counts was not counted off
pub record HasFound (knows : ℕ → Type 0) (s : Space Parcel) (x y : Player) : Type 0 where
  pub from : ℕ
  pub onward : from ≤ y.place
  pub before : AreUnready from y.place (view y.worker.desk).looked.seen
  pub through : (v : View) × LooksFrom s x y from v × LookedThrough from (y.place + 1) v (view y.worker.desk)
  pub fresh : counts x.card ≡ false → last_read y.card ≢ Some 0 → y.place < x.known
  pub plays : PlaysFiring knows (view x.worker.desk).kept x.worker.task y.worker y.place
  pub misses : y.misses ≡ 0
  pub throughout : counts x.card ≡ true → ended y.card ≡ ended x.card

-- a player that had no task has none and keeps what it kept: it looked at the numbers from where its look begins up to those that it knew of, or all that are given if it counts, found no firing to start there, does not count, goes on at most 256 below their end, knows how many are given now, and if it did not count has read that some are at work
pub record HasFoundNone (s : Space Parcel) (x y : Player) : Type 0 where
  pub from : ℕ
  pub misses : ℕ
  pub below : ℕ
  pub begins : BeginsLook x from misses
  pub below_is : below ≡ (if counts x.card then y.known else min x.known y.known)
  pub through : LookedThrough from below (view x.worker.desk) (view y.worker.desk)
  pub none : FoundNoneBelow s from x.known (view y.worker.desk)
  pub place : y.place ≡ below - 256
  pub missed : counts x.card ≡ false → misses < 32 → y.misses ≡ misses + 1
  pub uncounted : counts x.card ≡ true → y.misses ≡ misses
  pub off : counts y.card ≡ false
  pub still : StillPlays (view x.worker.desk).kept x.worker.task y.worker
  pub knows_count : KnowsCount s y
  pub others : counts x.card ≡ false → last_read y.card ≢ Some 0

-- a player that had no task has found a firing to play, or looked from its place on and found none
abbrev pub HasLooked : (ℕ → Type 0) → Space Parcel → Player → Player → Type 0
HasLooked knows s x y = HasFound knows s x y ⊎ HasFoundNone s x y

-- a player that asked once whether all are to stop, was told by nobody and told nobody, went on with its task and counted all the while, without a read of how many do, drew entries of the body on top and at most one firing, plays no other task but a body of which the gate knows, and stands where it stood, or it read once how many are at work and looked for a firing, and if it did not count it began to once for each that it read ready
pub record HadARound (knows : ℕ → Type 0) (s : Space Parcel) (x y : Player) : Type 0 where
  pub asked : times_asked y.card ≡ times_asked x.card + 1
  pub told_nothing : stops x.card ≡ false
  pub went : (t : Task) → x.worker.task ≡ Some t → HasGoneOn (view x.worker.desk).kept t y.worker
  pub plays : (t : Task) → x.worker.task ≡ Some t → PlaysNext knows (view x.worker.desk).kept t y.worker
  pub drew : (t : Task) → x.worker.task ≡ Some t → DrewAStep t (view x.worker.desk).draws (view y.worker.desk).draws
  pub stands : (t : Task) → x.worker.task ≡ Some t → StandsStill x y
  pub counted : (t : Task) → x.worker.task ≡ Some t → (counts x.card ≡ true) × CountsAsBefore x.card y.card
  pub unread : (t : Task) → x.worker.task ≡ Some t → reads y.card ≡ reads x.card
  pub read : x.worker.task ≡ None → reads y.card ≡ reads x.card + 1
  pub looked : x.worker.task ≡ None → HasLooked knows s x y
  pub began_so : x.worker.task ≡ None → BeganForEach (view x.worker.desk) (view y.worker.desk) x.card y.card
  pub untold : stops y.card ≡ false

-- it has the same card, and plays at the same desk unless it fails
abbrev pub PlaysOn : Player → Player → Type 0
PlaysOn x y = IsSameCard x.card y.card × (y.failed ≡ false → IsSameRole (view x.worker.desk) (view y.worker.desk))

-- a player that went on so far from the first one: it has the same card, plays at the same desk, has not failed and may go on, counts if it plays, and read that nobody told it to stop
pub record IsOnTheWay (s : Space Parcel) (x y : Player) : Type 0 where
  pub on : PlaysOn x y
  pub sane : y.failed ≡ false
  pub settled : IsSettled s y.worker
  pub counts_so : CountsIfItPlays y
  pub told_nothing : stops y.card ≡ false

-- between two rounds a player has the same worker, stands where it stood, counts as before, does not ask whether all are to stop, and tells nobody so
pub record IsBetweenRounds (x y : Player) : Type 0 where
  pub worker : y.worker ≡ x.worker
  pub stands : StandsStill x y
  pub counted : CountsAsBefore x.card y.card
  pub asks : times_asked y.card ≡ times_asked x.card
  pub told : stops y.card ≡ stops x.card

-- rounds lead from x to y, and these are the players after each of them, the newest first
abbrev pub AreRounds : (ℕ → Type 0) → Space Parcel → Player → List Player → Player → Type 0
AreRounds knows s x [] y = IsBetweenRounds x y
AreRounds knows s x (z ∷ zs) y = (u : Player) × AreRounds knows s x zs u × HadARound knows s u z × IsBetweenRounds z y

-- all that the player did was rounds
pub record HadRounds (knows : ℕ → Type 0) (s : Space Parcel) (x y : Player) : Type 0 where
  pub after_each : List Player
  pub rounds : AreRounds knows s x after_each y

-- a player that leaves off began to count once for each look that read a firing ready if it did not count, and no more if it counted or failed: so it was counted off as often, and once more if it counted and does no longer
abbrev pub BeganToTheEnd : Player → Player → Type 0
BeganToTheEnd x y = (y.failed ≡ false → BeganForEach (view x.worker.desk) (view y.worker.desk) x.card y.card) × (y.failed ≡ true → began y.card ≡ began x.card)

-- a player that failed left its worker alone and told nobody, or it had read that nobody told it to stop, had one step of its task, ran out of memory, and told all to stop
abbrev pub HasFailed : Space Parcel → Player → Player → Type 0
HasFailed s x y = y.failed ≡ true → ((y.worker ≡ x.worker) × (tells y.card ≡ tells x.card)) ⊎ ((stops x.card ≡ false) × (tells y.card ≡ true) × IsOutOfMemory s y.worker × (t : Task) × (x.worker.task ≡ Some t) × DrewAStep t (view x.worker.desk).draws (view y.worker.desk).draws)

-- after a look in vain that began here the desk looked at no cell if it began at the first number, and else at all numbers that are given
abbrev pub LookedAgain : Space Parcel → ℕ → View → View → Type 0
LookedAgain s from v w = ((from ≡ 0) × LookedAtNone v w) ⊎ ((0 < from) × LookedAtAll s v w)

-- a player that goes was told that the limit is reached and left its worker alone, or it read once how many are at work, and that nobody is, looked in vain, and looked again where that look left numbers out
abbrev pub HasGone : Space Parcel → Player → Player → Type 0
HasGone s x y =
    (((view y.worker.desk).spent ≡ true) × (y.worker ≡ x.worker))
    ⊎ ((reads y.card ≡ reads x.card + 1) × (last_read y.card ≡ Some 0) × (near : ℕ) × (v : View) × LookedInVain s x near v × LookedAgain s near v (view y.worker.desk))

-- the player had rounds and left off, after it asked once more whether all are to stop: it failed and had one step of its task at most, or it plays what it played after them, keeps what it kept and went, told by nobody to stop; and it began to count no more often than it saw a firing to start
pub record HasLeftOff (knows : ℕ → Type 0) (s : Space Parcel) (x y : Player) : Type 0 where
  pub last : Player
  pub had : HadRounds knows s x last
  pub asked : times_asked y.card ≡ times_asked last.card + 1
  pub off : y.failed ≡ false → StillPlays (view last.worker.desk).kept last.worker.task y.worker
  pub began_so : BeganToTheEnd last y
  pub short : HasFailed s last y
  pub gone : y.failed ≡ false → HasGone s last y
  pub untold : y.failed ≡ false → stops y.card ≡ false

-- each of these players, in this order, had rounds and left off
abbrev pub HaveAllLeftOff : (ℕ → Type 0) → Space Parcel → List Player → List Player → Type 0
HaveAllLeftOff knows s [] [] = Unit {0}
HaveAllLeftOff knows s [] (y ∷ ys) = ⊥
HaveAllLeftOff knows s (x ∷ xs) [] = ⊥
HaveAllLeftOff knows s (x ∷ xs) (y ∷ ys) = HasLeftOff knows s x y × HaveAllLeftOff knows s xs ys

-- whether one of these players failed
abbrev pub any_failed : List Player → Bool
any_failed [] = false
any_failed (x ∷ xs) = x.failed || any_failed xs

-- these entries together with all that the desks of these players drew
abbrev pub with_draws : List Entry → List Player → List Entry
with_draws es [] = es
with_draws es (x ∷ xs) = with_draws (together es (view x.worker.desk).draws) xs

-- a player that was hired may go on, has nothing to play yet, has drawn nothing and was not told that the limit is reached, does not count among those at work, has not read how many do and was told by nobody to stop: it knows of no number, and none of its looks found none
pub record IsHired (s : Space Parcel) (x : Player) : Type 0 where
  pub may : MayPlay s x
  pub task : x.worker.task ≡ None
  pub undrawn : (view x.worker.desk).draws ≡ []
  pub room : (view x.worker.desk).spent ≡ false
  pub sane : x.failed ≡ false
  pub uncounted : counts x.card ≡ false
  pub unread : last_read x.card ≡ None
  pub place : x.place ≡ 0
  pub known : x.known ≡ 0
  pub misses : x.misses ≡ 0
  pub untold : stops x.card ≡ false

-- each of these was hired
abbrev pub AreHired : Space Parcel → List Player → Type 0
AreHired s [] = Unit {0}
AreHired s (x ∷ xs) = IsHired s x × AreHired s xs

-- each of these that has not failed has nothing to play, and may stop
abbrev pub HaveAllPlayed : Space Parcel → List Player → Type 0
HaveAllPlayed s [] = Unit {0}
HaveAllPlayed s (x ∷ xs) = HasPlayed s x × HaveAllPlayed s xs

-- the cards of these players are of this roll
abbrev pub AreOfRoll : TableId → List Player → Type 0
AreOfRoll r xs = All (λ x. roll_of x.card ≡ r) xs

-- the first card of a roll, and those of others, which were all made from it
pub record AreCards (main : Card) (others : List Player) : Type 0 where
  pub first : IsFirstCard main
  pub count : hired main ≡ length others
  pub all : AreOfRoll (roll_of main) others

-- the first worker, which may go on, and the others that it has hired
pub record IsCrew (s : Space Parcel) (main : Worker) (others : List Player) : Type 0 where
  pub settled : IsSettled s main
  pub first : (view main.desk).first ≡ true
  pub drawn : (view main.desk).drawn ≡ true
  pub lent : (view main.desk).lent ≡ length others
  pub all : AreHired s others

-- the first worker, and others that have come back from their threads
pub record IsBack (s : Space Parcel) (main : Worker) (others : List Player) : Type 0 where
  pub stopped : HasStopped s main
  pub first : (view main.desk).first ≡ true
  pub drawn : (view main.desk).drawn ≡ true
  pub lent : (view main.desk).lent ≡ length others
  pub all : HaveAllPlayed s others

-- a player with the task of this worker, which has drawn what this one has, stands at the first number, knows of none and has not looked in vain, and as many others that it hired as make so many workers had rounds and left off, none of them failed, and what their desks drew is all that the desk of the last worker drew
pub record HavePlayedTogether (knows : ℕ → Type 0) (s : Space Parcel) (workers : ℕ) (main last : Worker) : Type 0 where
  pub before : Player
  pub after : Player
  pub others : List Player
  pub backs : List Player
  pub task : before.worker.task ≡ main.task
  pub drawn : (view before.worker.desk).draws ≡ (view main.desk).draws
  pub count : length others + 1 ≡ workers
  pub all : AreHired s others
  pub sane : after.failed ≡ false
  pub all_sane : any_failed backs ≡ false
  pub off : HasLeftOff knows s before after
  pub all_off : HaveAllLeftOff knows s others backs
  pub draws : (view last.desk).draws ≡ with_draws (view after.worker.desk).draws backs
  pub fresh : (before.place ≡ 0) × (before.known ≡ 0) × (before.misses ≡ 0)
