-- What a valid code gives a scheduler.
use Rattle.std.specs.Prelude.{◌≡◌, ◌<◌, ◌≤◌, ℕ, List, length, Some, slice_get, true}
use Rattle.chord_base.specs.Meaning.{Program, HasOneSync, HaveMethods}
use Rattle.chord_base.specs.Messages.{AreDifferent, has}

-- each class has at most 256 chords, of one to eight different methods below 16, at most one of which has callers that wait
pub record ChordsAreRight (p : Program) : Type 0 where
  pub one_sync : HasOneSync p
  pub some : HaveMethods p
  pub different : (c k : ℕ) (js : List ℕ) → slice_get (p.chords c) k ≡ Some js → AreDifferent js
  pub few : (c k j : ℕ) (js : List ℕ) → slice_get (p.chords c) k ≡ Some js → has j js ≡ true → j < 16
  pub few_headers : (c k : ℕ) (js : List ℕ) → slice_get (p.chords c) k ≡ Some js → length js ≤ 8
  pub few_chords : (c : ℕ) → length (p.chords c) ≤ 256
