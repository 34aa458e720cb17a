-- The entries of a journal, in any order.
use Rattle.std.specs.Prelude.{◌≡◌, ℕ, suc, ◌==◌, ◌<◌, ◌≤◌, false, cond, List, [], ◌∷◌, length, get_or, All, Any}
use Rattle.chord_base.specs.Bounds.{IsWhatWithin}
use Rattle.chord_base.specs.declared.event.Entry.{Entry}

-- an entry's body is below 65,536, and what it says is within its bounds
pub record IsEntryWithin (e : Entry) : Type 0 where
  pub body : e.body < 65536
  pub what : IsWhatWithin e.what

-- at most 65,536 entries within their bounds, whose numbers are those from 0 on: each number below their count is that of an entry, and so of one alone
pub record AreOfJournal (entries : List Entry) : Type 0 where
  pub few : length entries ≤ 65536
  pub within : All IsEntryWithin entries
  pub numbered : (n : ℕ) → n < length entries → Any (λ e. e.number ≡ n) entries

-- each entry below this place has the number of its place
abbrev pub StandInPlace : ℕ → List Entry → Type 0
StandInPlace n entries = (i : ℕ) (d : Entry) → i < n → (get_or entries i d).number ≡ i

-- those of the entries, which lie in places from this one on, that have the numbers of their places
abbrev pub in_places : ℕ → List Entry → List Entry
in_places place [] = []
in_places place (entry ∷ entries) = cond (entry.number == place) (entry ∷ in_places (suc place) entries) (in_places (suc place) entries)

-- another entry than the place's stands there
abbrev pub IsHole : ℕ → List Entry → Type 0
IsHole place entries = (place < length entries) × ((d : Entry) → ((get_or entries place d).number == place) ≡ false)

-- the next of the entries has this number
abbrev pub IsNumberNext : ℕ → List Entry → Type 0
IsNumberNext number entries = (entry : Entry) × (more : List Entry) × (entries ≡ entry ∷ more) × (entry.number ≡ number)
