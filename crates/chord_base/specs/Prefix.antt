-- How much of a list of entries is a run.
use Rattle.std.specs.Prelude.{◌≡◌, ℕ, ◌≤◌, List, reverse, length, take, Some, slice_get}
use Rattle.chord_base.specs.Meaning.{Program}
use Rattle.chord_base.specs.Machine.{MayFollow, IsRun}
use Rattle.chord_base.specs.declared.event.Entry.{Entry}

-- the first n entries are a run, and the next entry, if there is one, may not follow them
pub record IsRunLength (p : Program) (entries : List Entry) (n : ℕ) : Type 0 where
  pub within : n ≤ length entries
  pub run : IsRun p (take n entries)
  pub ends : (e : Entry) → slice_get entries n ≡ Some e → MayFollow p (reverse (take n entries)) e → ⊥
