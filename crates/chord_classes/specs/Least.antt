-- Breaks as numbers, and the least of those that are noted.
use Rattle.std.specs.Prelude.{ℕ, ◌+◌, ◌*◌, List, [], ◌∷◌, min, Option, Some, None}

-- a rule at tokens, each as one number: the token counts first
abbrev pub keys : ℕ → List ℕ → List ℕ
keys rule [] = []
keys rule (at ∷ more) = (32 * at + rule) ∷ keys rule more

-- the lesser of what was noted, if anything was, and a number
abbrev pub lesser : Option ℕ → ℕ → Option ℕ
lesser None k = Some k
lesser (Some m) k = Some (min m k)

-- the least of what was noted before and of these
abbrev pub least : Option ℕ → List ℕ → Option ℕ
least before [] = before
least before (k ∷ more) = least (lesser before k) more
