-- The counter passes the limit by at most one for each desk.
use Rattle.std.specs.Prelude.{◌≡◌, ℕ, ◌+◌, ◌<◌, ◌≤◌, List, [], ◌∷◌, length}
use mathlib.Core.Option.{some}
use lib.ListN.{get_elem?}
use Rattle.chord_rule.specs.declared.view.View.{View}
use Rattle.chord_rule.specs.Numbers.{one_if}

-- how many of these desks were told that the limit is reached
abbrev pub told : List View → ℕ
told [] = 0
told (v ∷ vs) = one_if v.spent + told vs

-- the counter passes the limit n by at most one for each desk that was told so, and the desks are the first one and those that were split from it
pub record Counting (n count : ℕ) (views : List View) : Type 0 where
  pub bound : count ≤ n + told views
  pub first : (v : View) → get_elem? views 0 ≡ some v → (length views ≡ 1 + v.splits) × (v.splits < 65536)
  pub some : 0 < length views
