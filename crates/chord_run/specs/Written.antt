-- What one call reads and writes. Contents are None where they are not specified.
use Rattle.std.specs.Prelude.{◌≡◌, ℕ, ◌≤◌, ◌⊎◌, List, length, Option, Some, None}
use Rattle.chord_io.specs.Pieces.{Gave, Took, TookProperPrefix}

-- these are the contents, where they are specified
abbrev pub IsGiven : Option (List ℕ) → List ℕ → Type 0
IsGiven None source = Unit {0}
IsGiven (Some left) source = left ≡ source

-- the contents are specified
abbrev pub IsSpecified : Option (List ℕ) → Type 0
IsSpecified None = ⊥
IsSpecified (Some bytes) = Unit {0}

-- a source gave at most this many bytes
abbrev pub GaveAtMost : ℕ → Option (List ℕ) → Option (List ℕ) → Type 0
GaveAtMost most before after = (given : List ℕ) × (length given ≤ most) × Gave before given after

-- what is due to be written: the status where all is written, and the text
pub record Due : Type 0 where
  pub status : ℕ
  pub text : List ℕ

-- all is written and the status is the one due, or the sink failed, a proper prefix was written, and the status is 5
abbrev pub IsWritten : Due → ℕ → Option (List ℕ) → Option (List ℕ) → Type 0
IsWritten due status before after = ((status ≡ due.status) × Took before due.text after) ⊎ ((status ≡ 5) × TookProperPrefix before due.text after)
