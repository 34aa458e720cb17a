-- What a source and a sink in memory are, as their callers see them.
use Rattle.std.specs.Prelude.{◌≡◌, ℕ, ◌<◌, List, length, Contains, ◌⊎◌}
use Rattle.chord_io.specs.Faults.{one_more}

-- the bytes that are left, the most that one call moves, the calls that are to fail, and how many calls and faults there were
pub record Supply : Type 0 where
  pub left : List ℕ
  pub piece : ℕ
  pub fails : List ℕ
  pub calls : ℕ
  pub faults : ℕ

-- the bytes that were taken, how many there may be, and the rest as for a source
pub record Store : Type 0 where
  pub taken : List ℕ
  pub room : ℕ
  pub piece : ℕ
  pub fails : List ℕ
  pub calls : ℕ
  pub faults : ℕ

-- the next read is one that is to fail
abbrev pub ReadFails : Supply → Type 0
ReadFails s = Contains s.fails (one_more s.calls)

-- the next write of these bytes fails: it is to fail, or there are bytes and no room for any
abbrev pub WriteFails : Store → List ℕ → Type 0
WriteFails s bytes = Contains s.fails (one_more s.calls) ⊎ ((s.room ≡ length s.taken) × (0 < length bytes))
