-- What a task is while it is played: its next ask, and the entry that this becomes.
use Rattle.std.specs.Prelude.{◌≡◌, ◌<◌, ◌+◌, ℕ, Bool, false, List, [], ◌∷◌, ◌++◌, Option, Some}
use Rattle.chord_base.specs.declared.event.Entry.{Entry}
use Rattle.chord_base.specs.declared.event.Limits.{Limits}
use Rattle.chord_base.specs.declared.event.What.{What}
use Rattle.chord_base.specs.declared.value.Object.{Object}
use Rattle.chord_base.specs.Bodies.{Asks}
use Rattle.chord_base.specs.Printed.{is_end}
use Rattle.chord_base.specs.Story.{AllBelow}
use Rattle.chord_code.specs.declared.parts.Parts.{Parts}
use Rattle.chord_code.specs.Meaning.{code_program}
use Rattle.chord_rule.specs.declared.view.View.{View}
use Rattle.chord_rule.specs.Coming.{IsPlace}
use Rattle.chord_rule.specs.Kinds.{entry, drew, saw_count, was_told, fresh_after}
use Rattle.chord_rule.specs.Made.{Names}
use Rattle.chord_space.specs.declared.space.Space.{Space}
use Rattle.chord_space.specs.Desks.{space_code, space_limits, program_of}
use Rattle.chord_space.specs.Ruled.{IsOfCode}
use Rattle.chord_task.specs.declared.parcel.Opened.{Opened as Parcel}
use Rattle.chord_task.specs.declared.task.Task.{Task}
use Rattle.chord_task.specs.Standing.{view_of, IsTaskOf}
use Rattle.chord_task.specs.Turning.{HasCome}
use Rattle.chord_vm.specs.declared.ask.Ask.{Ask}
use Rattle.chord_vm.specs.Frames.{what_of_ask}
use Rattle.chord_worker.specs.Resting.{IsInMemory}

-- what is asked is no message
abbrev pub IsNoMessage : What → Type 0
IsNoMessage w = (x : ℕ) (xs : List ℕ) → fresh_after x w xs ≡ xs

-- the desk drew this as the entry n of a body
pub record IsDrawnAs (s : Space Parcel) (v w : View) (n body : ℕ) (what : What) : Type 0 where
  pub within : n < s.events
  pub drawn : w ≡ saw_count (drew v n body what) (n + 1)
  pub below : AllBelow n v.kept
  pub named : (o : Object) → Names what o → o.number < n
  pub of_code : IsOfCode (space_code s) what
  pub place : IsPlace (program_of s) (entry n body what ∷ v.kept)

-- the ask became the entry n of the desk and of the task
pub record IsNotedAs (code : Parts) (limits : Limits) (v w : View) (t t' : Task) (n : ℕ) (what : What) : Type 0 where
  pub body : ℕ
  pub on_top : (view_of t).top ≡ Some body
  pub asks : Asks (code_program code limits) (view_of t).past body what
  pub drawn : w ≡ saw_count (drew v n body what) (n + 1)
  pub below : AllBelow n v.kept
  pub task : IsTaskOf code limits t'
  pub past : (view_of t').past ≡ entry n body what ∷ (view_of t).past
  pub top : is_end what ≡ false → (view_of t').top ≡ Some body
  pub memory : (spent : Bool) → IsInMemory code limits v.kept spent (Some t) → IsInMemory code limits (entry n body what ∷ v.kept) spent (Some t')
  pub named : (o : Object) → Names what o → o.number < n
  pub of_code : IsOfCode code what

-- the desk was told that the limit is reached
abbrev pub HeardOfLimit : View → View → Type 0
HeardOfLimit v w = (count : ℕ) × (w ≡ saw_count (was_told v) count)

-- what a desk drew and a list got the same entry
pub record DrawsOne (vs vs' ds ds' : List Entry) : Type 0 where
  pub entry : Entry
  pub drawn : vs' ≡ entry ∷ vs
  pub list : ds' ≡ ds ++ entry ∷ []

-- whatever the ask and the task before it are, the ask became the entry n of the desk and of the task
abbrev pub IsNotedFrom : Space Parcel → View → View → Option Ask → Task → Task → ℕ → Type 0
IsNotedFrom s v w asked t t' n = (a : Ask) (before : Task) → asked ≡ Some a → HasCome (space_code s) (space_limits s) before t (what_of_ask a) → IsNotedAs (space_code s) (space_limits s) v w before t' n (what_of_ask a)
