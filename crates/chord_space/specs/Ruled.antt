-- The rule of a space: that of chord_rule, for the runs of a sound code.
use Rattle.std.specs.Prelude.{◌≡◌, ◌<◌, ℕ, List, length, Option}
use Rattle.atomic_table.specs.Table.{State, Me, Step}
use Rattle.chord_base.specs.declared.event.Entry.{Entry}
use Rattle.chord_base.specs.declared.event.Limits.{Limits}
use Rattle.chord_base.specs.declared.event.What.{What}
use Rattle.chord_base.specs.declared.value.Object.{Object}
use Rattle.chord_base.specs.declared.value.Value as value
use Rattle.chord_code.specs.declared.parts.Parts.{Parts}
use Rattle.chord_code.specs.Meaning.{code_program}
use Rattle.chord_code.specs.Sound.{IsSoundUnder, NamesMethod}
use Rattle.chord_code.specs.Valid.{IsValid}
use Rattle.chord_rule.specs.declared.view.View.{View}
use Rattle.chord_rule.specs.Bags.{head_number}
use Rattle.chord_rule.specs.Heading.{WasHead, WasPlace}
use Rattle.chord_rule.specs.Kinds.{looked_head}
use Rattle.chord_rule.specs.Made.{Names}
use Rattle.chord_rule.specs.Moment.{Place}
use Rattle.chord_rule.specs.Tells.{draws}
use Rattle.chord_rule.specs.Whole.{Held}
use Rattle.chord_space.specs.Widest.{widest}

-- the table holds the rule for the runs of a code that is valid and sound
abbrev pub Ruled : {P : Type 0} → (P → List Entry) → (P → List value.Value) → (P → Parts → Limits → Type 0) → Parts → Limits → State (Option P) View → Type 0
Ruled entries arguments keeps_to code limits s = Held entries arguments (λ q. keeps_to q code limits) (code_program code limits) limits.events (widest code) s × IsValid code × IsSoundUnder code limits

-- what an entry says is of the code: the objects that it names are of its classes, and a message names a method of its object's class, with its parameters
pub record IsOfCode (code : Parts) (what : What) : Type 0 where
  pub classes : (o : Object) → Names what o → o.class < length code.classes
  pub method : NamesMethod code what

-- what a draw tells, and that the entry is of the code
abbrev pub draws_of_code : {S : Type 0} → Parts → Limits → ℕ → What → Step S → Me S View → ℕ → Me S View → Type 0
draws_of_code code limits body what s m x w = draws (code_program code limits) body what s m x w × (x < s.slots → IsOfCode code what)

-- a look at the head of the bag k read h: a way begins there, and knows which messages had been linked in the bag at that moment
pub record LooksAtHead {P : Type 0} (entries : P → List Entry) (arguments : P → List value.Value) (keeps_to : P → Parts → Limits → Type 0) (code : Parts) (limits : Limits) (v w : View) (k : ℕ) (h : Option ℕ) : Type 0 where
  pub linked : List ℕ
  pub is : w ≡ looked_head v k linked h
  pub moment : WasHead entries arguments (λ q. keeps_to q code limits) (code_program code limits) limits.events v (head_number k) h linked

-- a look at the place word of the message i read this place, which stood there at that moment
pub record LooksAtPlace {P : Type 0} (entries : P → List Entry) (arguments : P → List value.Value) (keeps_to : P → Parts → Limits → Type 0) (code : Parts) (limits : Limits) (v : View) (i : ℕ) (place : Option Place) : Type 0 where
  pub moment : WasPlace entries arguments (λ q. keeps_to q code limits) (code_program code limits) limits.events v i place
