-- Stacks of bodies of any program: what they did, and the body on top.
use Rattle.std.specs.Prelude.{◌≡◌, ℕ, List, ◌∷◌, Option, Some, None}
use Rattle.chord_base.specs.declared.value.Object.{Object}
use Rattle.chord_base.specs.declared.value.Value as value
use Rattle.chord_base.specs.declared.event.End.{End}
use Rattle.chord_base.specs.declared.event.Entry.{Entry}
use Rattle.chord_base.specs.declared.event.What.{What}
use Rattle.chord_base.specs.declared.event.What.TheVariants.{Fired}
use Rattle.chord_base.specs.Meaning.{Program, Start}
use Rattle.chord_base.specs.Bodies.{Doing, Absent, Unplaced, Ready, Waits, Over, served, serves, doing, asked, Asks}
use Rattle.chord_base.specs.Story.{IsTold, IsOwn, IsDefined}

-- a stack of bodies: what they did, the newest entry first, and the body on top
pub record TaskView : Type 0 where
  pub past : List Entry
  pub top : Option ℕ

-- a body that waits, waits for a call that a body of these entries serves
abbrev pub IsServedThere : Program → List Entry → Doing → Type 0
IsServedThere p h (Waits s d rs q l) = (c : ℕ) × (serves p c h ≡ Some q)
IsServedThere p h (Ready s d rs) = Unit {0}
IsServedThere p h Absent = Unit {0}
IsServedThere p h Unplaced = Unit {0}
IsServedThere p h (Over x) = Unit {0}

-- only the body on top may ask, each body's call is in the past, and each body below waits for a call that a body of the past serves
pub record IsTask (p : Program) (t : TaskView) : Type 0 where
  pub told : IsTold p t.past
  pub quiet : (b : ℕ) → (t.top ≡ Some b → ⊥) → asked p (doing p t.past b) ≡ None
  pub placed : (b : ℕ) → doing p t.past b ≡ Unplaced → ⊥
  pub below : (b : ℕ) → (t.top ≡ Some b → ⊥) → IsServedThere p t.past (doing p t.past b)

-- the next ask of the body on top
pub record IsNext (p : Program) (t : TaskView) (w : What) : Type 0 where
  pub body : ℕ
  pub on_top : t.top ≡ Some body
  pub own : IsOwn w
  pub asks : Asks p t.past body w

-- the task after it has noted an entry
abbrev pub task_noted : TaskView → ℕ → What → TaskView → Type 0
task_noted t n w t' = (b : ℕ) × (t.top ≡ Some b) × (t'.past ≡ record { number = n; body = b; what = w } ∷ t.past)

-- the body on top has a next ask
abbrev pub CanAsk : Program → TaskView → Type 0
CanAsk p t = (w : What) × IsNext p t w

-- the body on top has no next ask
abbrev pub AsksNothing : Program → TaskView → Type 0
AsksNothing p t = (b : ℕ) → t.top ≡ Some b → asked p (doing p t.past b) ≡ None

-- the body on top waits for this call
pub record TopWaitsFor (p : Program) (t : TaskView) (q : ℕ) : Type 0 where
  pub body : ℕ
  pub on_top : t.top ≡ Some body
  pub start : Start
  pub depth : ℕ
  pub answers : List End
  pub place : ℕ
  pub is : doing p t.past body ≡ Waits start depth answers q place

-- the task fits the call that a firing serves: it is over where none is served, and else its top body waits for the call
abbrev pub FitsCall : Program → TaskView → Option ℕ → Type 0
FitsCall p t None = t.top ≡ None
FitsCall p t (Some q) = TopWaitsFor p t q

-- the task is the caller's, or one that is over where no call is served
abbrev pub MayBeginBody : Program → TaskView → ℕ → Object → List ℕ → List value.Value → Type 0
MayBeginBody p t k o ms vs = FitsCall p t (served p (Fired k o ms vs))

-- the task after a firing began a body in it
abbrev pub task_begun : TaskView → ℕ → ℕ → Object → List ℕ → List value.Value → TaskView → Type 0
task_begun t n k o ms vs t' = t'.past ≡ record { number = n; body = n; what = Fired k o ms vs } ∷ t.past

-- every trace is still defined after this entry
abbrev pub StaysDefined : Program → TaskView → ℕ → What → Type 0
StaysDefined p t n w = (c : ℕ) → t.top ≡ Some c → (b : ℕ) → IsDefined p (doing p (record { number = n; body = c; what = w } ∷ t.past) b)

-- every trace is still defined after this firing
abbrev pub BeginsDefined : Program → TaskView → ℕ → ℕ → Object → List ℕ → List value.Value → Type 0
BeginsDefined p t n k o ms vs = (b : ℕ) → IsDefined p (doing p (record { number = n; body = n; what = Fired k o ms vs } ∷ t.past) b)
