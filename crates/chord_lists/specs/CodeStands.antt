-- What the bodies of a run of a code are after a history: its entries in order, and tasks, each of which made some of them.
use Rattle.std.specs.Prelude.{is_none, ◌≡◌, ℕ, ◌+◌, ◌≤◌, ◌⊎◌, ◌==◌, List, [], ◌∷◌, ◌++◌, reverse, length, set, Bool, true, false, Option, Some, None, slice_get, if◌then◌else◌}
use Rattle.chord_base.specs.declared.event.Entry.{Entry}
use Rattle.chord_base.specs.declared.event.Limits.{Limits}
use Rattle.chord_base.specs.declared.event.What.{What}
use Rattle.chord_base.specs.declared.value.Value.{Value}
use Rattle.chord_base.specs.declared.value.Object.{Object}
use Rattle.chord_base.specs.Meaning.{Program}
use Rattle.chord_base.specs.Bodies.{served_among}
use Rattle.chord_base.specs.Messages.{Message, message_of, pending, has}
use Rattle.chord_base.specs.Machine.{IsPast, MayFollow}
use Rattle.chord_base.specs.Bounds.{AreWithin}
use Rattle.chord_base.specs.Story.{IsOwn, kept}
use Rattle.chord_code.specs.declared.parts.Parts.{Parts}
use Rattle.chord_code.specs.Meaning.{code_program}
use Rattle.chord_task.specs.declared.task.Task.{Task}
use Rattle.chord_task.specs.Standing.{view_of, IsTaskOf, is_ready_of, waits_of}
use Rattle.chord_task.specs.Turning.{HasTurned}
use Rattle.chord_lists.specs.Engine.{IsRunOfLength, Made}
use Rattle.chord_lists.specs.declared.engine.Turn.{Turn}
use Rattle.chord_lists.specs.declared.engine.Turn.TheVariants as a_turn
use Rattle.chord_lists.specs.declared.code_bodies.CodeBodies.{CodeBodies}

-- ## Tasks and the entries that they made

-- place i keeps what task i did
abbrev pub past_of : Option Task → List Entry
past_of None = []
past_of (Some t) = (view_of t).past

-- what each place keeps, by its number
abbrev pub views : List Task → ℕ → List Entry
views tasks i = past_of (slice_get tasks i)

-- the task that made the entry of a number
abbrev pub home_in : Option ℕ → ℕ
home_in None = 0
home_in (Some task) = task

-- the task that made the entry of this number
abbrev pub home : List ℕ → ℕ → ℕ
home homes n = home_in (slice_get homes n)

-- ## Lists of places

-- the last places of the list went, or none
pub record IsCut (old new : List ℕ) : Type 0 where
  pub gone : List ℕ
  pub is : old ≡ new ++ gone

-- whether this place, if there is one, is that one
abbrev pub is_place : ℕ → Option ℕ → Bool
is_place at None = false
is_place at (Some i) = i == at

-- whether the place is on top of the list, whose first item is the topmost
abbrev pub is_on_top : ℕ → List ℕ → Bool
is_on_top at list = is_place at (slice_get list 0)

-- the list with the place on top, where it stays if it is there
abbrev pub topped_by : ℕ → List ℕ → List ℕ
topped_by at list = if is_on_top at list then list else at ∷ list

-- ## Tasks that may go on, and tasks that wait

-- whether a task, if there is one, may go on
abbrev pub ready_in : Option Task → Bool
ready_in None = false
ready_in (Some t) = is_ready_of t

-- whether the task of this place may go on
unfoldable pub ready_at : List Task → ℕ → Bool
ready_at tasks i = ready_in (slice_get tasks i)

-- each task that may go on stands in the list; others may stand there too
pub record AreReady (tasks : List Task) (ready : List ℕ) : Type 0 where
  pub all : (i : ℕ) → ready_at tasks i ≡ true → has i ready ≡ true

-- the task of this place waits for the call
abbrev pub Awaits : List Task → ℕ → ℕ → Type 0
Awaits tasks q i = (t : Task) × (slice_get tasks i ≡ Some t) × (waits_of q t ≡ true)

-- ## Tasks that are over

-- whether a task, if there is one, has no body left
abbrev pub over_in : Option Task → Bool
over_in None = false
over_in (Some t) = is_none (view_of t).top

-- whether the task of this place has no body left
unfoldable pub over_at : List Task → ℕ → Bool
over_at tasks i = over_in (slice_get tasks i)

-- each task that has no body left stands in the list; others may stand there too
pub record AreOver (tasks : List Task) (over : List ℕ) : Type 0 where
  pub all : (i : ℕ) → over_at tasks i ≡ true → has i over ≡ true

-- the list with the place of a task on top once more, if the task is over
abbrev pub with_over : List Task → ℕ → List ℕ → List ℕ
with_over tasks at over = if over_at tasks at then at ∷ over else over

-- the list after a turn of the task at this place, or as it was where no task had a turn
abbrev pub over_after : List Task → Option ℕ → List ℕ → List ℕ
over_after tasks None over = over
over_after tasks (Some at) over = with_over tasks at over

-- a body begins in a task that stood there, or in one more, where it serves no call and no task was over
abbrev pub StoodOrAlone : List Task → List Task → Option ℕ → Type 0
StoodOrAlone old new served = (length new ≡ length old) ⊎ ((length new ≡ length old + 1) × (served ≡ None) × ((i : ℕ) → over_at old i ≡ false))

-- ## The whole

-- what the bodies are after a history, where these places are of the tasks that are over: its entries stand in one list, and each is of the past of its task; each pending call has its caller
pub record StandsWith (code : Parts) (limits : Limits) (bodies : CodeBodies) (places : List ℕ) (h : List Entry) : Type 0 where
  pub past : IsPast (code_program code limits) h
  pub journal : reverse bodies.entries.items ≡ h
  pub keeps : (i : ℕ) → kept (λ n. home bodies.homes.items n == i) h ≡ views bodies.tasks.items i
  pub tasks : (i : ℕ) (t : Task) → slice_get bodies.tasks.items i ≡ Some t → IsTaskOf code limits t
  pub ready : AreReady bodies.tasks.items (reverse bodies.ready.items)
  pub calls : (q : ℕ) (m : Message) → pending q h ≡ Some m → (code_program code limits).is_sync m.object.class m.method ≡ true → Awaits bodies.tasks.items q (home bodies.homes.items q)
  pub homed : length bodies.homes.items ≡ length h
  pub few : length bodies.tasks.items ≤ length h
  pub over : AreOver bodies.tasks.items places

-- what the bodies are after a history
abbrev pub StandsAfter : Parts → Limits → CodeBodies → List Entry → Type 0
StandsAfter code limits bodies = StandsWith code limits bodies (reverse bodies.over.items)

-- ## A task goes on

-- what an entry with this message, or none, is to the engine
abbrev pub turn_by : Option Message → Turn
turn_by None = a_turn.Plain
turn_by (Some m) = a_turn.Message m.object m.method

-- what an entry is to the engine
abbrev pub turn_of : What → Turn
turn_of w = turn_by (message_of w)

-- what an entry is to the engine that is a message to this, or none
abbrev pub turn_to : Option (Object × ℕ) → Turn
turn_to None = a_turn.Plain
turn_to (Some to) = a_turn.Message to.0 to.1

-- the task of this place has made an entry, its next ask
pub record WentAt (p : Program) (tasks : List Task) (at : ℕ) (after : List Entry → Type 0) (h : List Entry) (turn : Turn) : Type 0 where
  pub entry : Entry
  pub made : Made p after h entry
  pub own : IsOwn entry.what
  pub top : (t : Task) × (slice_get tasks at ≡ Some t) × ((view_of t).top ≡ Some entry.body)
  pub is : turn ≡ turn_of entry.what

-- all tasks but that of this place are what they were
abbrev pub KeepsOthers : List Task → List Task → ℕ → Type 0
KeepsOthers old new at = (i : ℕ) → (at == i) ≡ false → slice_get new i ≡ slice_get old i

-- the task of this place had a turn, by which its next ask became the entry of this number, and no other task has changed
pub record HasTurnedAt (code : Parts) (limits : Limits) (old new : List Task) (at n : ℕ) : Type 0 where
  pub before : Task
  pub after : Task
  pub sent : Option (Object × ℕ)
  pub there : slice_get old at ≡ Some before
  pub turned : HasTurned code limits before after n sent
  pub is : new ≡ set old at after

-- the task of this place, if there is one, had a turn, and no other task has changed
abbrev pub HasTurnedIfAny : Parts → Limits → List Task → List Task → Option ℕ → ℕ → Type 0
HasTurnedIfAny code limits old new None n = new ≡ old
HasTurnedIfAny code limits old new (Some at) n = HasTurnedAt code limits old new at n

-- ## What a firing takes

-- the message of an entry, if there is an entry
abbrev pub entry_message : Option Entry → Option Message
entry_message None = None
entry_message (Some e) = message_of e.what

-- the message that is the entry of this number
abbrev pub message_at : List Entry → ℕ → Option Message
message_at entries n = entry_message (slice_get entries n)

-- the entry of this number is a message
abbrev pub IsMessageAt : List Entry → ℕ → Type 0
IsMessageAt entries n = (m : Message) × (message_at entries n ≡ Some m)

-- the entry of each of these numbers is a message
abbrev pub AreMessagesAt : List Entry → List ℕ → Type 0
AreMessagesAt entries [] = Unit {0}
AreMessagesAt entries (n ∷ ns) = IsMessageAt entries n × AreMessagesAt entries ns

-- the arguments of a message, and none where there is none
abbrev pub sent_arguments : Option Message → List Value
sent_arguments None = []
sent_arguments (Some m) = m.arguments

-- the arguments of these messages, one after another
abbrev pub sent_values : List Entry → List ℕ → List Value
sent_values entries [] = []
sent_values entries (n ∷ ns) = sent_arguments (message_at entries n) ++ sent_values entries ns

-- a firing serves this call, if it serves one
pub record Serves (p : Program) (k : ℕ) (o : Object) (ms : List ℕ) (call : Option ℕ) : Type 0 where
  pub methods : List ℕ
  pub chord : slice_get (p.chords o.class) k ≡ Some methods
  pub is : served_among (p.is_sync o.class) methods ms ≡ call

-- the task of this place waits for the call, if there is one, and else has no body left
abbrev pub HostsCall : CodeBodies → ℕ → Option ℕ → Type 0
HostsCall bodies at None = over_at bodies.tasks.items at ≡ true
HostsCall bodies at (Some call) = at ≡ home bodies.homes.items call

-- the body of a firing may begin in the task of this place
pub record FitsAt (p : Program) (bodies : CodeBodies) (k : ℕ) (o : Object) (ms : List ℕ) (at : ℕ) : Type 0 where
  pub call : Option ℕ
  pub serves : Serves p k o ms call
  pub hosts : HostsCall bodies at call

-- ## A run that is made again

-- the bodies stand after a run, and this entry may follow
abbrev pub MayReplay : Program → (List Entry → Type 0) → Entry → Type 0
MayReplay p stands e = (h : List Entry) × IsRunOfLength p e.number h × stands h × MayFollow p h e × AreWithin (e ∷ h)

-- the bodies have made the entry
abbrev pub Replayed : Program → (List Entry → Type 0) → (List Entry → Type 0) → Entry → Type 0
Replayed p before after e = (h : List Entry) → IsRunOfLength p e.number h → before h → MayFollow p h e → AreWithin (e ∷ h) → after (e ∷ h)

-- the entry is the next ask of a body
abbrev pub IsOwnEntry : Entry → Type 0
IsOwnEntry e = IsOwn e.what

-- an entry of this kind begins a body
abbrev pub BeginsABody : What → Type 0
BeginsABody w = IsOwn w → ⊥
