-- Place words.
use Rattle.std.specs.Prelude.{◌≡◌, ◌<◌, ℕ, Option, Some}
use Rattle.chord_rule.specs.Moment.{Place}

-- a place word names an object of the table and one of its bags
pub record PlaceLaw (n : ℕ) (places : ℕ → Option Place) : Type 0 where
  pub within : (i : ℕ) (p : Place) → places i ≡ Some p → (p.0.number < n) × (p.1 < 16)
