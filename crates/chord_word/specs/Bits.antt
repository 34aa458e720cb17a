-- The bits of a word.
use Rattle.std.specs.Prelude.{ℕ, ◌+◌, ◌-◌, ◌/◌, ◌%◌, ◌^◌}

-- the number that stands in the bits of a word from one to another, both included
abbrev pub bits : ℕ → ℕ → ℕ → ℕ
bits word first last = word / 2 ^ first % 2 ^ (last + 1 - first)
