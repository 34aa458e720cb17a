-- Versions of a map from numbers to numbers, by their forks.
use Rattle.std.specs.Prelude.{◌≡◌, ℕ, zero, suc, ◌<◌, ◌≤◌, ◌+◌, ◌*◌, ◌^◌, ◌%◌, ◌/◌, List, [], ◌∷◌, ◌++◌, cond, nat_eq, length, slice_get, Option, Some, None}
use Rattle.chord_classes.specs.declared.versions.Fork.{Fork}

-- the fork of the empty version
abbrev pub empty_fork : Fork
empty_fork = record { value = None; odd = None; even = None }

-- a fork that is there
abbrev pub fork_or_empty : Option Fork → Fork
fork_or_empty None = empty_fork
fork_or_empty (Some fork) = fork

-- the fork of a version
abbrev pub fork_of : List Fork → Option ℕ → Fork
fork_of forks None = empty_fork
fork_of forks (Some at) = fork_or_empty (slice_get forks at)

-- the version in which a number other than 0 is
abbrev pub side : Fork → ℕ → Option ℕ
side fork number = cond (nat_eq (number % 2) 1) fork.odd fork.even

-- a fork with another version for a number other than 0
abbrev pub with_side : Fork → ℕ → Option ℕ → Fork
with_side fork number version = cond (nat_eq (number % 2) 1) (record { value = fork.value; odd = version; even = fork.even }) (record { value = fork.value; odd = fork.odd; even = version })

-- what a fork has under a number, by what the versions that it names have
abbrev pub under_in : (Option ℕ → ℕ → Option ℕ) → Fork → ℕ → Option ℕ
under_in below fork zero = fork.value
under_in below fork (suc number) = below (side fork (suc number)) (number / 2)

-- what a version has under a number that is less than a bound
abbrev pub under_within : ℕ → List Fork → Option ℕ → ℕ → Option ℕ
under_within zero forks version number = None
under_within (suc bound) forks version number = under_in (under_within bound forks) (fork_of forks version) number

-- what a version has under a number
abbrev pub under : List Fork → Option ℕ → ℕ → Option ℕ
under forks version number = under_within (suc number) forks version number

-- a version is the empty one, or one of as many
abbrev pub IsVersion : ℕ → Option ℕ → Type 0
IsVersion count version = (at : ℕ) → version ≡ Some at → at < count

-- forks name one another alone
pub record AreForks (forks : List Fork) : Type 0 where
  pub odd : (at : ℕ) → IsVersion (length forks) (fork_of forks (Some at)).odd
  pub even : (at : ℕ) → IsVersion (length forks) (fork_of forks (Some at)).even

-- a fork stands behind the others
pub record IsFork (old new : List Fork) (fork : Fork) (made : ℕ) : Type 0 where
  pub forks : new ≡ old ++ (fork ∷ [])
  pub last : made ≡ length old

-- a version was made of another, with this value under this number, by forks as many as the number has halves
pub record IsNextVersion (old new : List Fork) (version : Option ℕ) (number value made : ℕ) : Type 0 where
  pub more : List Fork
  pub forks : new ≡ old ++ more
  pub few : 2 ^ length more ≤ 2 * (number + 1)
  pub within : made < length new
  pub closed : AreForks new
  pub stays : (other : Option ℕ) → IsVersion (length old) other → (k : ℕ) → under new other k ≡ under old other k
  pub each : (k : ℕ) → under new (Some made) k ≡ cond (nat_eq k number) (Some value) (under old version k)
