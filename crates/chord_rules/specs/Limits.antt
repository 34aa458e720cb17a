-- The limits, header by header.
use Rattle.std.specs.Prelude.{◌≡◌, ℕ, ◌+◌, ◌-◌, List, length, drop, slice_get, Option, Some, None, unwrap_or}
use Rattle.chord_tree.specs.Tree.{HeaderTree}
use Rattle.chord_classes.specs.ChordRules.{formal_tokens}
use Rattle.chord_classes.specs.Least.{least, keys}

-- the parameters of a header past the eighth
abbrev pub crowded_formals : HeaderTree → List ℕ
crowded_formals header = drop 8 (formal_tokens header.formals.parameters)

-- Names take room, one each, and those for which there is none are noted.
pub record TakesRoom (names : List ℕ) (room over : ℕ) (before after : Option ℕ) : Type 0 where
  pub left : over ≡ room - length names
  pub noted : after ≡ least before (keys 4 (drop room names))

-- how many classes are above a class with this base, where so many are above each
abbrev pub base_depth : List ℕ → Option ℕ → ℕ
base_depth depths None = 0
base_depth depths (Some base) = unwrap_or (slice_get depths base) 0 + 1
