-- What a count of faults tells: that one call failed, or that none did.
use Rattle.std.specs.Prelude.{◌≡◌, ℕ, ◌+◌, min}

-- the last value of u64
abbrev pub last_count : ℕ
last_count = 18446744073709551615

-- the count after one more: it stands still at the last value of u64
abbrev pub one_more : ℕ → ℕ
one_more count = min (count + 1) last_count

-- a count rose: it is the count after one more, as one failed call leaves it
abbrev pub Rose : ℕ → ℕ → Type 0
Rose before after = after ≡ one_more before
