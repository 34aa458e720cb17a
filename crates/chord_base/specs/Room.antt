-- How lists grow.
use Rattle.std.specs.Prelude.{◌≡◌, ◌<◌, ◌≤◌, ◌*◌, ℕ, suc}

-- room for one item more was seen to in a list of n items: where there was some, the list has as much room as before; where it was full, twice as much, or for one item more than that
abbrev pub HasGrown : ℕ → ℕ → ℕ → Type 0
HasGrown n room room' = (n < room → room' ≡ room) × (n ≡ room → (2 * room ≤ room') × (room' ≤ suc (2 * room)))
