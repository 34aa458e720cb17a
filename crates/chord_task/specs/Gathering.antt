-- What was gathered from the parcels of a firing.
use Rattle.std.specs.Prelude.{◌≡◌, ◌≤◌, ◌⊎◌, ℕ, List, [], ◌∷◌, Option, Some, None, length}
use Rattle.chord_vm.specs.Frames.{laid}
use Rattle.chord_task.specs.declared.args.Args.{Args}
use Rattle.chord_task.specs.Arguments.{for_entry, AreTwice}

-- the arguments of the one message that has values, or those of several
abbrev pub gathered_in : Args → Option (List Args) → List Args
gathered_in one None = one ∷ []
gathered_in one (Some several) = several

-- no more messages than came have arguments there
abbrev pub AreNoMore : Args → Option (List Args) → ℕ → Type 0
AreNoMore one None n = (one.first ≡ []) ⊎ (1 ≤ n)
AreNoMore one (Some several) n = length several ≤ n

-- where all messages have their arguments twice, these are the values of all, and twice
pub record AreGathered (one : Args) (more : Option (List Args)) (all : List Args) : Type 0 where
  pub twice : AreTwice all → AreTwice (gathered_in one more)
  pub values : AreTwice all → laid (for_entry (gathered_in one more)) ≡ laid (for_entry all)
  pub few : AreNoMore one more (length all)
