-- A turn of a task: its next ask becomes an entry.
use Rattle.std.specs.Prelude.{◌≡◌, ℕ, List, [], ◌∷◌, Option, Some, None, false}
use Rattle.chord_base.specs.declared.event.End.{End}
use Rattle.chord_base.specs.declared.event.End.TheVariants.{Gives}
use Rattle.chord_base.specs.declared.event.Limits.{Limits}
use Rattle.chord_base.specs.declared.event.What.{What}
use Rattle.chord_base.specs.declared.event.What.TheVariants.{Begun, Made, Sent, Called, Printed, Fired, Ended}
use Rattle.chord_base.specs.declared.value.Object.{Object}
use Rattle.chord_base.specs.declared.value.Value.{Value}
use Rattle.chord_base.specs.declared.value.Value.TheVariants as a_value
use Rattle.chord_base.specs.Meaning.{Program}
use Rattle.chord_base.specs.Printed.{is_end}
use Rattle.chord_base.specs.Story.{AllBelow}
use Rattle.chord_code.specs.declared.parts.Parts.{Parts}
use Rattle.chord_code.specs.Meaning.{code_program}
use Rattle.chord_vm.specs.Frames.{what_of_ask}
use Rattle.chord_vm.specs.declared.ask.Ask.{Ask}
use Rattle.chord_vm.specs.declared.ask.Ask.TheVariants as asks
use Rattle.chord_task.specs.declared.body.Next.{Next}
use Rattle.chord_task.specs.declared.body.Next.TheVariants as nexts
use Rattle.chord_task.specs.declared.body.Body.{Body}
use Rattle.chord_task.specs.declared.task.Task.{Task}
use Rattle.chord_task.specs.Stacks.{TaskView, IsNext, StaysDefined, task_noted}
use Rattle.chord_task.specs.Standing.{view_of, IsTaskOf, GivenBy, HasMadeRoom, WasStocked}

-- what is known of an ask before it becomes the entry of this number
pub record MayTurn (p : Program) (t : TaskView) (n : ℕ) : Type 0 where
  pub stays : (w : What) → IsNext p t w → StaysDefined p t n w
  pub above : AllBelow n t.past

-- the task before and after its next ask became the entry of this number
pub record Turned (code : Parts) (limits : Limits) (before after : Task) (n : ℕ) (w : What) : Type 0 where
  pub task : IsTaskOf code limits after
  pub next : IsNext (code_program code limits) (view_of before) w
  pub noted : task_noted (view_of before) n w (view_of after)
  pub top : is_end w ≡ false → (view_of after).top ≡ (view_of before).top

-- what the message of an entry is to, if the entry is one: a method of an object
abbrev pub sent_to : What → Option (Object × ℕ)
sent_to Begun = None
sent_to (Made c) = None
sent_to (Sent o j vs) = Some (o, j)
sent_to (Called o j vs) = Some (o, j)
sent_to (Printed t) = None
sent_to (Fired k o ms vs) = None
sent_to (Ended e) = None

-- what the message is to that an ask says, if there is an ask and it is one
abbrev pub sent_of : Option What → Option (Object × ℕ)
sent_of None = None
sent_of (Some w) = sent_to w

-- its next ask became the entry of this number, this is what its message is to, and frames for the next body were seen to before that
abbrev pub HasTurned : Parts → Limits → Task → Task → ℕ → Option (Object × ℕ) → Type 0
HasTurned code limits before after n sent = (w : What) × Turned code limits before after n w × (sent ≡ sent_to w) × WasStocked code before w after

-- the frames of a body run
abbrev pub RunsOn : Option Body → Type 0
RunsOn top = (b : Body) × (top ≡ Some b) × (b.next ≡ nexts.Runs)

-- the frames of the body on top came to this ask, which is with its caller: once the body has it, this is a task again
pub record IsAskedFor (code : Parts) (t : Task) (w : What) : Type 0 where
  pub body : Body
  pub asked : Body
  pub on_top : t.top ≡ Some body
  pub runs : body.next ≡ nexts.Runs
  pub number : asked.number ≡ body.number
  pub frames : asked.frames ≡ body.frames
  pub given : GivenBy w asked.next
  pub task : IsTaskOf code t.limits (record { past = t.past; top = Some asked; below = t.below; spare = t.spare; ended = t.ended; values = t.values; limits = t.limits; enclosed = t.enclosed })

-- what is known of an ask that is with its caller, before it becomes the entry of this number
pub record MaySettle (code : Parts) (t : Task) (n : ℕ) (w : What) : Type 0 where
  pub stays : StaysDefined (code_program code t.limits) (view_of t) n w
  pub above : AllBelow n (view_of t).past

-- an ask waits for its number: it is with its caller, and room was made for its entry; what is known of it is said of the task before that
pub record AwaitsNumber (code : Parts) (before roomy : Task) (n : ℕ) (ask : Option Ask) : Type 0 where
  pub room : HasMadeRoom code before roomy
  pub asked : (a : Ask) → ask ≡ Some a → IsAskedFor code before (what_of_ask a)
  pub may : (a : Ask) → ask ≡ Some a → MaySettle code before n (what_of_ask a)

-- the text that an end gives, if it gives one
abbrev pub text_of_end : End → Option (List ℕ)
text_of_end (Gives (a_value.Text t)) = Some t
text_of_end _ = None

-- the text with which an ask ends its body, if it is such an end
abbrev pub text_of_ask : Option Ask → Option (List ℕ)
text_of_ask (Some (asks.End e)) = text_of_end e
text_of_ask _ = None

-- the ask became the entry of this number
pub record HasSettled (code : Parts) (before : Task) (n : ℕ) (w : What) (after : Task) : Type 0 where
  pub task : IsTaskOf code before.limits after
  pub noted : task_noted (view_of before) n w (view_of after)
  pub top : is_end w ≡ false → (view_of after).top ≡ (view_of before).top

-- of arguments that were taken no value is left, or a lone number
abbrev pub AreBare : List Value → Type 0
AreBare [] = Unit {0}
AreBare (a_value.Int n ∷ []) = Unit {0}
AreBare _ = ⊥

-- of an end that was taken a number or no value is left
abbrev pub IsBareEnd : End → Type 0
IsBareEnd (Gives a_value.Unit) = Unit {0}
IsBareEnd (Gives (a_value.Int n)) = Unit {0}
IsBareEnd _ = ⊥

-- what is left of an ask, if anything: a class, a message without values but a lone number, or an end by a number or without a value. Such values may still lie in a list with memory of its own, since contracts see the values alone
abbrev pub OwnsNothing : Option Ask → Type 0
OwnsNothing None = Unit {0}
OwnsNothing (Some (asks.Make c)) = Unit {0}
OwnsNothing (Some (asks.Send o j vs)) = AreBare vs
OwnsNothing (Some (asks.Call o j vs)) = AreBare vs
OwnsNothing (Some (asks.Print t)) = ⊥
OwnsNothing (Some (asks.End e)) = IsBareEnd e

-- the body keeps an ask
abbrev pub IsKept : Next → Type 0
IsKept nexts.Runs = ⊥
IsKept (nexts.Gave Begun) = ⊥
IsKept (nexts.Gave (Made c)) = Unit {0}
IsKept (nexts.Gave (Sent o j vs)) = Unit {0}
IsKept (nexts.Gave (Called o j vs)) = Unit {0}
IsKept (nexts.Gave (Printed t)) = Unit {0}
IsKept (nexts.Gave (Fired k o ms vs)) = ⊥
IsKept (nexts.Gave (Ended e)) = ⊥
IsKept (nexts.Ends e e') = e' ≡ e
IsKept (nexts.Fails t) = ⊥
IsKept (nexts.Waits q) = ⊥

-- the task came to this ask, which is its next one and is with its caller
pub record HasCome (code : Parts) (limits : Limits) (before after : Task) (w : What) : Type 0 where
  pub asked : IsAskedFor code after w
  pub next : IsNext (code_program code limits) (view_of before) w
  pub view : view_of after ≡ view_of before
  pub past : after.past ≡ before.past
  pub limited : after.limits ≡ limits
