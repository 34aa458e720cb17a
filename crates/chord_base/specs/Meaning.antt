-- What a program means to the join machine: how its bodies go on, and which methods its chords have.
use Rattle.std.specs.Prelude.{◌≡◌, ℕ, ◌<◌, Bool, true, false, List, [], ◌∷◌, length, Option, Some, slice_get}
use Rattle.chord_base.specs.declared.value.Object.{Object}
use Rattle.chord_base.specs.declared.value.Value as value
use Rattle.chord_base.specs.declared.event.End.{End}
use Rattle.chord_base.specs.declared.event.What.{What}

-- a body begins as `Main`, or as the body of a chord of an object, with the arguments of the messages taken
pub data Start : Type 0 where
  Main : Start
  Chord : (chord : ℕ) (object : Object) (arguments : List value.Value) → Start

-- an ask of a body: what its next entry says, and how deep the place of the ask is
pub record Asked : Type 0 where
  pub what : What
  pub depth : ℕ

-- a program's meaning is three functions, and every definition of the machine takes it as its first argument
pub record Program : Type 0 where
  -- the next ask of a body that began so at this depth and got these answers, oldest first;
  -- nothing where the meaning of the body is not defined
  pub next : Start → ℕ → List End → Option Asked
  -- the effective chords of a class, each as its methods in header order
  pub chords : ℕ → List (List ℕ)
  -- whether callers of this method of the class wait
  pub is_sync : ℕ → ℕ → Bool

-- none of these methods has callers that wait
abbrev pub NoneSync : (ℕ → Bool) → List ℕ → Type 0
NoneSync sync [] = Unit {0}
NoneSync sync (j ∷ js) = (sync j ≡ false) × NoneSync sync js

-- at most one of these methods has callers that wait
abbrev pub OneSync : (ℕ → Bool) → List ℕ → Type 0
OneSync sync [] = Unit {0}
OneSync sync (j ∷ js) = (sync j ≡ true → NoneSync sync js) × OneSync sync js

-- each chord has at most one method with callers that wait
abbrev pub HasOneSync : Program → Type 0
HasOneSync p = (class k : ℕ) (js : List ℕ) → slice_get (p.chords class) k ≡ Some js → OneSync (p.is_sync class) js

-- each chord has a method
abbrev pub HaveMethods : Program → Type 0
HaveMethods p = (class k : ℕ) (js : List ℕ) → slice_get (p.chords class) k ≡ Some js → 0 < length js
