-- What the bodies of a task stand for: where the code of each stands after the answers that its story has.
use Rattle.std.specs.Prelude.{◌≡◌, ◌≢◌, ◌+◌, ◌-◌, ◌<◌, ◌++◌, ◌⊎◌, vec_len, vec_capacity, Vec, ℕ, List, [], ◌∷◌, Bool, true, false, ◌==◌, Option, Some, None, reverse, IsSome, IsSomeAnd, Box}
use Rattle.std.specs.Global.{Global}
use Rattle.chord_base.specs.declared.value.Object.{Object}
use Rattle.chord_base.specs.declared.value.Value.{Value}
use Rattle.chord_base.specs.declared.value.Value.TheVariants as a_value
use Rattle.chord_base.specs.declared.event.End.{End}
use Rattle.chord_base.specs.declared.event.End.TheVariants.{Gives, Traps}
use Rattle.chord_base.specs.declared.event.Entry.{Entry}
use Rattle.chord_base.specs.declared.event.Limits.{Limits}
use Rattle.chord_base.specs.declared.event.What.{What}
use Rattle.chord_base.specs.declared.event.What.TheVariants.{Begun, Made, Sent, Called, Printed, Fired, Ended}
use Rattle.chord_base.specs.Meaning.{Start, Main}
use Rattle.chord_base.specs.Bodies.{Ready, Waits, doing, serves}
use Rattle.chord_base.specs.Story.{AllBelow, IsOwn, IsDefined as StaysDefinedAt}
use Rattle.chord_code.specs.declared.parts.Parts.{Parts}
use Rattle.chord_code.specs.declared.awaited.Awaited.TheVariants.{ForValue}
use Rattle.chord_code.specs.Machine.{Machine, Asking, with_answer, ComesToAsk, IsForward}
use Rattle.chord_code.specs.Fuel.{comes_to}
use Rattle.chord_code.specs.Meaning.{Point, At, FailsBy, code_program, stands, asked_of}
use Rattle.chord_vm.specs.declared.frames.Frames.{Frames}
use Rattle.chord_vm.specs.Frames.{machine_of, waiting_of, what_of_ask, Advanced, IsReady, IsRoomFor, AreBlank, KeepsRoom}
use Rattle.chord_vm.specs.declared.ask.Ask.{Ask}
use Rattle.chord_task.specs.Arguments.{IsList, MayBeList}
use Rattle.chord_base.specs.Printed.{is_end}
use Rattle.chord_base.specs.Room.{HasGrown}
use Rattle.chord_task.specs.declared.body.Next.{Next}
use Rattle.chord_task.specs.declared.body.Next.TheVariants as nexts
use Rattle.chord_task.specs.declared.body.Body.{Body}
use Rattle.chord_task.specs.declared.body.Caller.{Caller}
use Rattle.chord_task.specs.declared.task.Task.{Task}
use Rattle.chord_task.specs.Stacks.{TaskView, IsTask, StaysDefined, BeginsDefined, MayBeginBody}

-- the number of a body, if there is one
abbrev pub body_number : Option Body → Option ℕ
body_number None = None
body_number (Some b) = Some b.number

-- the past with its newest entry first, and the body on top
abbrev pub view_of : Task → TaskView
view_of t = record { past = reverse t.past; top = body_number t.top }

-- the ask of a body at this point is this one, and its frames wait for the answer
abbrev pub GaveAt : Parts → What → Frames → Point → Type 0
GaveAt code w f point = (m : Machine) × (point ≡ At m) × (comes_to code m ≡ Asking w (waiting_of f))

-- what the state of a body says of the point where it stands
abbrev pub NextIs : Parts → Limits → Next → Frames → Point → Type 0
NextIs code limits nexts.Runs f point = point ≡ At (machine_of f)
NextIs code limits (nexts.Gave (Ended e)) f point = ⊥
NextIs code limits (nexts.Gave Begun) f point = ⊥
NextIs code limits (nexts.Gave (Fired k o ms vs)) f point = ⊥
NextIs code limits (nexts.Gave (Made c)) f point = GaveAt code (Made c) f point
NextIs code limits (nexts.Gave (Sent o j vs)) f point = GaveAt code (Sent o j vs) f point
NextIs code limits (nexts.Gave (Called o j vs)) f point = GaveAt code (Called o j vs) f point
NextIs code limits (nexts.Gave (Printed t)) f point = GaveAt code (Printed t) f point
NextIs code limits (nexts.Ends e e') f point = (l : ℕ) × (asked_of code limits point ≡ Some (record { what = Ended e; depth = l })) × (e' ≡ e)
NextIs code limits (nexts.Fails t) f point = point ≡ FailsBy t
NextIs code limits (nexts.Waits q) f point = ⊥

-- a body that may make its next entry
pub record IsUp (code : Parts) (limits : Limits) (h : List Entry) (b : Body) : Type 0 where
  pub start : Start
  pub depth : ℕ
  pub answers : List End
  pub is : doing (code_program code limits) h b.number ≡ Ready start depth answers
  pub next : NextIs code limits b.next b.frames.value (stands code limits start depth answers)

-- a body that waits for this call, with room for its answer
pub record IsParked (code : Parts) (limits : Limits) (h : List Entry) (b : Body) (q : ℕ) : Type 0 where
  pub start : Start
  pub depth : ℕ
  pub answers : List End
  pub machine : Machine
  pub what : What
  pub waits : b.next ≡ nexts.Waits q
  pub is : doing (code_program code limits) h b.number ≡ Waits start depth answers q (limits.depth - b.frames.value.top.room)
  pub at : stands code limits start depth answers ≡ At machine
  pub comes : comes_to code machine ≡ Asking what (waiting_of b.frames.value)
  pub awaited : b.frames.value.awaited ≡ ForValue
  pub ready : IsReady ForValue b.frames.value

-- what is known of the body on top: it waits for a call, or may make its next entry
abbrev pub IsTop : Parts → Limits → List Entry → Next → Body → Type 0
IsTop code limits h (nexts.Waits q) b = IsParked code limits h b q
IsTop code limits h nexts.Runs b = IsUp code limits h b
IsTop code limits h (nexts.Gave w) b = IsUp code limits h b
IsTop code limits h (nexts.Ends e e') b = IsUp code limits h b
IsTop code limits h (nexts.Fails t) b = IsUp code limits h b

-- each body waits for the call that the one above it serves; the topmost stands first
abbrev pub AreParked : Parts → Limits → List Entry → Option ℕ → ℕ → List Body → Type 0
AreParked code limits h call above [] = call ≡ None
AreParked code limits h call above (b ∷ bs) =
    ((q : ℕ) × (call ≡ Some q) × IsParked code limits h b q) × (b.number < above)
    × AreParked code limits h (serves (code_program code limits) b.number h) b.number bs

-- what is known of a stack of bodies
abbrev pub AreStacked : Parts → Limits → List Entry → Option Body → List Body → Type 0
AreStacked code limits h None bs = bs ≡ []
AreStacked code limits h (Some b) bs =
    IsTop code limits h b.next b × AreParked code limits h (serves (code_program code limits) b.number h) b.number bs

-- the body that waits as this caller
abbrev pub waiting_body : Caller → Body
waiting_body c = record { number = c.number; frames = c.frames; next = nexts.Waits c.call }

-- the bodies that wait as these callers
abbrev pub waiting_bodies : List Caller → List Body
waiting_bodies [] = []
waiting_bodies (c ∷ cs) = waiting_body c ∷ waiting_bodies cs

-- what is known of a body on top and the callers below it
abbrev pub IsBodyStack : Parts → Limits → List Entry → Option Body → List Caller → Type 0
IsBodyStack code limits h top cs = AreStacked code limits h top (waiting_bodies cs)

-- the call that a body waits for
abbrev pub awaited_call : Next → ℕ
awaited_call nexts.Runs = 0
awaited_call (nexts.Gave w) = 0
awaited_call (nexts.Ends e e') = 0
awaited_call (nexts.Fails t) = 0
awaited_call (nexts.Waits q) = q

-- the body on top as a caller, if there is one
abbrev pub callers_of : Option Body → List Caller
callers_of None = []
callers_of (Some b) = record { number = b.number; call = awaited_call b.next; frames = b.frames } ∷ []

-- the body on top waits for a call, if there is one
abbrev pub WaitsIfAny : Option Body → Type 0
WaitsIfAny None = Unit {0}
WaitsIfAny (Some b) = (q : ℕ) × (b.next ≡ nexts.Waits q)

-- frames of no body for this code under these limits, with room for each block
pub record IsSpareOf (code : Parts) (limits : Limits) (f : Frames) : Type 0 where
  pub room : IsRoomFor code f
  pub limited : f.limits ≡ limits

-- there is room for a firing
pub record IsResumable (code : Parts) (t : Task) : Type 0 where
  pub below : vec_len t.below < vec_capacity t.below
  pub frames : Box Frames Global
  pub spare : t.spare ≡ Some frames
  pub room : IsSpareOf code t.limits frames.value
  pub values : IsList t.values

-- there is room for a firing, if this body on top waits for one, or none is left
abbrev pub HasRoomIf : Parts → Task → Option Body → Type 0
HasRoomIf code t None = IsResumable code t
HasRoomIf code t (Some b) = (q : ℕ) → b.next ≡ nexts.Waits q → IsResumable code t

-- frames in stock are for this code under these limits
abbrev pub HasRoomFor : Parts → Limits → Option (Box Frames Global) → Type 0
HasRoomFor code limits None = Unit {0}
HasRoomFor code limits (Some f) = IsSpareOf code limits f.value

-- frames for the next body were seen to: those in stock stay, and where there are none, those of a body that has ended serve if they have room for each block;
-- where these do not serve, new ones were made
pub record IsStocked (code : Parts) (limits : Limits) (spare ended spare' ended' : Option (Box Frames Global)) : Type 0 where
  pub stays : (spare ≡ None → ⊥) → (spare' ≡ spare) × (ended' ≡ ended)
  pub again : spare ≡ None → IsSomeAnd ended (λ f. IsSpareOf code limits f.value) → (spare' ≡ ended) × (ended' ≡ None)
  pub fresh : spare ≡ None → (IsSomeAnd ended (λ f. IsSpareOf code limits f.value) → ⊥) → IsSomeAnd spare' (λ f. AreBlank code f.value)

-- no frames were lost: those in stock and those of a body that has ended stay, or the latter came to a stock that had none
pub record LosesNoFrames (spare ended spare' ended' : Option (Box Frames Global)) : Type 0 where
  pub stays : (spare ≡ None → ⊥) → (spare' ≡ spare) × (ended' ≡ ended)
  pub comes : spare ≡ None → (ended' ≡ ended) ⊎ ((spare' ≡ ended) × (ended' ≡ None))

-- a list of values that is there stays
abbrev pub KeepsList : Option (Vec Value Global) → Option (Vec Value Global) → Type 0
KeepsList before after = (before ≡ None → ⊥) → after ≡ before

-- the frames in stock, those of a body that has ended, the list of values and the callers are as they were, and so is the room for callers
abbrev pub KeepsStock : Task → Task → Type 0
KeepsStock before after = (after.spare ≡ before.spare) × (after.ended ≡ before.ended) × (after.values ≡ before.values) × (after.below ≡ before.below)

-- after the entry of this ask the frames in stock and the list of values are as they were, and the frames of the body on top are kept for another body, if it ended
pub record KeepsFrames (w : What) (before after : Task) : Type 0 where
  pub values : after.values ≡ before.values
  pub spare : after.spare ≡ before.spare
  pub ends : is_end w ≡ true → (b : Body) → before.top ≡ Some b → after.ended ≡ Some b.frames
  pub goes : is_end w ≡ false → after.ended ≡ before.ended

-- a task of this code under these limits
pub record IsTaskOf (code : Parts) (limits : Limits) (t : Task) : Type 0 where
  pub forward : IsForward code
  pub limited : t.limits ≡ limits
  pub task : IsTask (code_program code limits) (view_of t)
  pub is_defined : (b : ℕ) → StaysDefinedAt (code_program code limits) (doing (code_program code limits) (view_of t).past b)
  pub stack : IsBodyStack code limits (view_of t).past t.top (reverse t.below.items)
  pub room : HasRoomIf code t t.top
  pub kept : HasRoomFor code t.limits t.spare
  pub kept_values : MayBeList t.values

-- the body can go on to an ask
abbrev pub IsRunnable : Parts → Body → Type 0
IsRunnable code b = (b.next ≡ nexts.Runs → ComesToAsk code (machine_of b.frames.value)) × ((q : ℕ) → b.next ≡ nexts.Waits q → ⊥)

-- what a body does next once it came to this ask
abbrev pub GivenBy : What → Next → Type 0
GivenBy (Ended e) n = n ≡ nexts.Ends e e
GivenBy Begun n = n ≡ nexts.Gave Begun
GivenBy (Made c) n = n ≡ nexts.Gave (Made c)
GivenBy (Sent o j vs) n = n ≡ nexts.Gave (Sent o j vs)
GivenBy (Called o j vs) n = n ≡ nexts.Gave (Called o j vs)
GivenBy (Printed t) n = n ≡ nexts.Gave (Printed t)
GivenBy (Fired k o ms vs) n = n ≡ nexts.Gave (Fired k o ms vs)

-- the frames of a body ran on to its ask
abbrev pub HasRun : Parts → Frames → Body → Type 0
HasRun code f b = (a : Ask) × Advanced code (machine_of f) a b.frames.value × GivenBy (what_of_ask a) b.next

-- how a body comes to its ask
abbrev pub AskedBy : Parts → Next → Body → Body → Type 0
AskedBy code nexts.Runs b b' = HasRun code b.frames.value b'
AskedBy code (nexts.Gave w) b b' = b' ≡ b
AskedBy code (nexts.Ends e e') b b' = b' ≡ b
AskedBy code (nexts.Fails t) b b' = b'.next ≡ nexts.Ends (Traps t) (Traps t)
AskedBy code (nexts.Waits q) b b' = ⊥

-- the body after it came to its ask
pub record AskedBody (code : Parts) (b b' : Body) : Type 0 where
  pub number : b'.number ≡ b.number
  pub by : AskedBy code b.next b b'

-- the body gave an ask
abbrev pub IsAskGiven : Next → Type 0
IsAskGiven (nexts.Gave w) = IsOwn w × (is_end w ≡ false)
IsAskGiven (nexts.Ends e e') = Unit {0}
IsAskGiven nexts.Runs = ⊥
IsAskGiven (nexts.Fails t) = ⊥
IsAskGiven (nexts.Waits q) = ⊥

-- the ask that a body gave
abbrev pub given_of : Next → Option What
given_of nexts.Runs = None
given_of (nexts.Gave w) = Some w
given_of (nexts.Ends e e') = Some (Ended e)
given_of (nexts.Fails t) = None
given_of (nexts.Waits q) = None

-- the ask that a body gave, if there is a body
abbrev pub given_by : Option Body → Option What
given_by None = None
given_by (Some b) = given_of b.next

-- the task gave this ask
abbrev pub HasGiven : Task → What → Type 0
HasGiven t w = given_by t.top ≡ Some w

-- a body may go on: it does not wait for a call
abbrev pub may_go : Next → Bool
may_go nexts.Runs = true
may_go (nexts.Gave w) = true
may_go (nexts.Ends e e') = true
may_go (nexts.Fails t) = true
may_go (nexts.Waits q) = false

-- there is a body, and it may go on
abbrev pub body_may_go : Option Body → Bool
body_may_go None = false
body_may_go (Some b) = may_go b.next

-- a body is left, and the top one does not wait
abbrev pub is_ready_of : Task → Bool
is_ready_of t = body_may_go t.top

-- a body waits for this call
abbrev pub waits_on : ℕ → Next → Bool
waits_on q nexts.Runs = false
waits_on q (nexts.Gave w) = false
waits_on q (nexts.Ends e e') = false
waits_on q (nexts.Fails t) = false
waits_on q (nexts.Waits c) = c == q

-- there is a body, and it waits for this call
abbrev pub body_waits : ℕ → Option Body → Bool
body_waits q None = false
body_waits q (Some b) = waits_on q b.next

-- the body on top of a task waits for this call
abbrev pub waits_of : ℕ → Task → Bool
waits_of q t = body_waits q t.top

-- the value that answers an ask whose entry has this number; none for a call, which is answered by an end
abbrev pub answer_of : ℕ → What → Option Value
answer_of n (Made c) = Some (a_value.Ref (record { number = n; class = c }))
answer_of n (Sent o j vs) = Some a_value.Unit
answer_of n (Printed t) = Some a_value.Unit
answer_of n (Called o j vs) = None
answer_of n Begun = None
answer_of n (Fired k o ms vs) = None
answer_of n (Ended e) = None

-- frames can be answered by this value, if there is one
abbrev pub MayAnswer : Option Value → Frames → Type 0
MayAnswer None f = Unit {0}
MayAnswer (Some v) f = IsReady f.awaited f × (with_answer (machine_of f) f.awaited v ≢ None)

-- the body that was answered by this value runs on; one that was not waits for the call of this number
abbrev pub AnsweredWith : Option Value → ℕ → Frames → Body → Type 0
AnsweredWith None n f b = (b.next ≡ nexts.Waits n) × (b.frames.value ≡ f)
AnsweredWith (Some v) n f b = (b.next ≡ nexts.Runs) × (with_answer (machine_of f) f.awaited v ≡ Some (machine_of b.frames.value))

-- the caller after the end of the body that it called
abbrev pub CalledBack : End → Body → Body → Type 0
CalledBack (Gives v) b b' = (b'.number ≡ b.number) × AnsweredWith (Some v) 0 b.frames.value b'
CalledBack (Traps t) b b' = (b'.number ≡ b.number) × (b'.next ≡ nexts.Fails t)

-- the last of these callers can be answered by a value
abbrev pub LastIsReady : List Caller → Type 0
LastIsReady cs = (rest : List Caller) (c : Caller) → cs ≡ rest ++ c ∷ [] → IsReady ForValue c.frames.value × (c.frames.value.awaited ≡ ForValue)

-- a body ended so: the last of the callers came back on top, if there was one
abbrev pub HasReturned : End → Vec Caller Global → Vec Caller Global → Option Body → Type 0
HasReturned x before after None = (vec_len before ≡ 0) × (vec_len after ≡ 0)
HasReturned x before after (Some b) = (c : Caller) × (before.items ≡ after.items ++ c ∷ []) × CalledBack x (waiting_body c) b

-- there is room for the answer of a body, if there is a body
abbrev pub IsReadyFor : Option Body → Type 0
IsReadyFor None = Unit {0}
IsReadyFor (Some b) = IsReady b.frames.value.awaited b.frames.value

-- there is room for the next note and for a firing after it
pub record IsReserved (code : Parts) (t : Task) : Type 0 where
  pub below : vec_len t.below < vec_capacity t.below
  pub frames : Box Frames Global
  pub spare : t.spare ≡ Some frames
  pub room : IsSpareOf code t.limits frames.value
  pub values : IsList t.values
  pub top : IsReadyFor t.top

-- the ask that was given may become the entry of this number
pub record MayNote (code : Parts) (limits : Limits) (t : Task) (n : ℕ) : Type 0 where
  pub what : What
  pub gave : HasGiven t what
  pub reserved : IsReserved code t
  pub stays : StaysDefined (code_program code limits) (view_of t) n what
  pub above : AllBelow n (view_of t).past

-- the firing of this number may begin its body
pub record MayResume (code : Parts) (limits : Limits) (t : Task) (n k : ℕ) (o : Object) (ms : List ℕ) (vs : List Value) : Type 0 where
  pub may : MayBeginBody (code_program code limits) (view_of t) k o ms vs
  pub begins : BeginsDefined (code_program code limits) (view_of t) n k o ms vs
  pub above : AllBelow n (view_of t).past
  pub room : IsResumable code t

-- an ask that is answered at its note, or later
abbrev pub IsAnsweredByNote : What → Type 0
IsAnsweredByNote (Made c) = Unit {0}
IsAnsweredByNote (Sent o j vs) = Unit {0}
IsAnsweredByNote (Printed t) = Unit {0}
IsAnsweredByNote (Called o j vs) = Unit {0}
IsAnsweredByNote Begun = ⊥
IsAnsweredByNote (Fired k o ms vs) = ⊥
IsAnsweredByNote (Ended e) = ⊥

-- the ask that a task gave may become the entry of this number, for some code and limits of the task
abbrev pub CanNote : Task → ℕ → Type 0
CanNote t n = (code : Parts) × (limits : Limits) × IsTaskOf code limits t × MayNote code limits t n

-- the room of a body that is put on top of this one
abbrev pub room_of : Limits → Option Body → ℕ
room_of limits None = limits.depth - 1
room_of limits (Some b) = limits.depth - ((limits.depth - b.frames.value.top.room) + 1)

-- the body on top with more room, where there was none, and the same state
abbrev pub IsRoomier : Body → Body → Type 0
IsRoomier b b' = (b'.number ≡ b.number) × (b'.next ≡ b.next) × (machine_of b'.frames.value ≡ machine_of b.frames.value) × (b'.frames.value.awaited ≡ b.frames.value.awaited) × KeepsRoom b.frames.value b'.frames.value

-- the body on top, if there is one, with more room
abbrev pub IsRoomierTop : Option Body → Option Body → Type 0
IsRoomierTop None None = Unit {0}
IsRoomierTop (Some b) (Some b') = IsRoomier b b'
IsRoomierTop None (Some b') = ⊥
IsRoomierTop (Some b) None = ⊥

-- there is room for one more entry, and for a firing after it, and nothing else of the task has changed
pub record HasMadeRoom (code : Parts) (before after : Task) : Type 0 where
  pub past : after.past ≡ before.past
  pub below : after.below.items ≡ before.below.items
  pub top : IsRoomierTop before.top after.top
  pub spare : HasRoomFor code before.limits after.spare
  pub values : MayBeList after.values
  pub limits : after.limits ≡ before.limits
  pub ready : IsReserved code after
  pub stocked : IsStocked code before.limits before.spare before.ended after.spare after.ended
  pub list : KeepsList before.values after.values
  pub callers : HasGrown (vec_len before.below) (vec_capacity before.below) (vec_capacity after.below)
  pub frames : LosesNoFrames before.spare before.ended after.spare after.ended
  pub enclosed : after.enclosed ≡ before.enclosed

-- nothing of the task was lost: it may have more room, and nothing else of it has changed
pub record LosesNothing (code : Parts) (before after : Task) : Type 0 where
  pub past : after.past ≡ before.past
  pub below : after.below.items ≡ before.below.items
  pub room : vec_len before.below < vec_capacity before.below → after.below ≡ before.below
  pub top : IsRoomierTop before.top after.top
  pub spare : HasRoomFor code before.limits after.spare
  pub frames : LosesNoFrames before.spare before.ended after.spare after.ended
  pub values : MayBeList after.values
  pub list : KeepsList before.values after.values
  pub limits : after.limits ≡ before.limits
  pub enclosed : after.enclosed ≡ before.enclosed

-- `Main` begins
abbrev pub MainBegins : Parts → Limits → Type 0
MainBegins code limits = IsSome ((code_program code limits).next Main 1 [])

-- frames for the next body were seen to, and none were lost; a list of values that was there stayed. Then this ask became an entry, and the frames of the body that
-- it ended, if it is an end, are kept. The list of callers has grown as it may
pub record SettlesFrames (code : Parts) (before : Task) (w : What) (after : Task) : Type 0 where
  pub between : Task
  pub roomier : IsRoomierTop before.top between.top
  pub stocked : IsStocked code before.limits before.spare before.ended between.spare between.ended
  pub list : KeepsList before.values between.values
  pub kept : KeepsFrames w between after
  pub frames : LosesNoFrames before.spare before.ended between.spare between.ended
  pub callers : HasGrown (vec_len before.below) (vec_capacity before.below) (vec_capacity after.below)

-- frames for the next body were seen to, and none were lost; a list of values that was there stayed, and the body of that number stayed on top. Then this ask became
-- an entry, and the frames that were on top are kept, if it is an end. The list of callers has grown as it may
pub record WasStocked (code : Parts) (before : Task) (w : What) (after : Task) : Type 0 where
  pub between : Task
  pub top : body_number between.top ≡ body_number before.top
  pub stocked : IsStocked code before.limits before.spare before.ended between.spare between.ended
  pub list : KeepsList before.values between.values
  pub kept : KeepsFrames w between after
  pub frames : LosesNoFrames before.spare before.ended between.spare between.ended
  pub callers : HasGrown (vec_len before.below) (vec_capacity before.below) (vec_capacity after.below)
