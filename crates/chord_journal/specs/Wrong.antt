-- The least line of bytes that keeps them from being the text of a journal. Line 0 is the header, and line i + 1 that of entry i.
use Rattle.std.specs.Prelude.{◌≡◌, ◌≢◌, ℕ, zero, suc, ◌+◌, ◌<◌, ◌≤◌, ◌⊎◌, List, [], ◌∷◌, ◌++◌, length, codes, Result, Err}
use Rattle.std.specs.List.{flat_map}
use Rattle.chord_base.specs.Bounds.{IsWhatWithin}
use Rattle.chord_base.specs.declared.event.Entry.{Entry}
use Rattle.chord_journal.specs.Text.{header_text, entry_text}
use Rattle.chord_journal.specs.Typed.{IsTypedWhat}
use Rattle.chord_journal.specs.declared.reading.JournalFault.{JournalFault}
use Rattle.chord_journal.specs.declared.reading.JournalFault.TheVariants.{Memory}

-- an entry with this number, within the bounds of a journal
pub record IsEntryAt (place : ℕ) (e : Entry) : Type 0 where
  pub number : e.number ≡ place
  pub body : e.body < 65536
  pub what : IsWhatWithin e.what
  pub typed : IsTypedWhat e.what

-- entries with the numbers from this one on
abbrev pub AreEntriesFrom : ℕ → List Entry → Type 0
AreEntriesFrom place [] = Unit {0}
AreEntriesFrom place (e ∷ es) = IsEntryAt place e × AreEntriesFrom (place + 1) es

-- the bytes begin with a header and the lines of entries, and the rest stands behind them
pub record BeginsWithLines (bytes : List ℕ) (count : ℕ) (entries : List Entry) (rest : List ℕ) : Type 0 where
  pub counted : count ≤ 65536
  pub few : length entries ≤ count
  pub right : AreEntriesFrom 0 entries
  pub text : bytes ≡ header_text count ++ (flat_map entry_text entries ++ rest)

-- no header stands at the front
abbrev pub HasNoHeader : List ℕ → Type 0
HasNoHeader bytes = (count : ℕ) (rest : List ℕ) → count ≤ 65536 → bytes ≢ header_text count ++ rest

-- a header that counts at least one entry stands at the front
abbrev pub HasEntries : List ℕ → Type 0
HasEntries bytes = (count : ℕ) × (rest : List ℕ) × (0 < count) × (count ≤ 65536) × (bytes ≡ header_text count ++ rest)

-- a header that counts an entry is followed by what does not begin with the number 0 of the first entry and a blank
abbrev pub HasNoFirst : List ℕ → Type 0
HasNoFirst bytes =
    (count : ℕ) × (rest : List ℕ) × (0 < count) × (count ≤ 65536) × (bytes ≡ header_text count ++ rest) × ((more : List ℕ) → rest ≢ codes "0 " ++ more)

-- the line of an entry with this number does not stand at the front
abbrev pub HasNoEntry : ℕ → List ℕ → Type 0
HasNoEntry place bytes = (e : Entry) (rest : List ℕ) → IsEntryAt place e → bytes ≢ entry_text e ++ rest

-- behind right lines: the next entry's line is missing or wrong, or all entries are there and a byte follows
abbrev pub IsWrongBehind : ℕ → ℕ → List ℕ → Type 0
IsWrongBehind count place rest = ((place < count) × HasNoEntry place rest) ⊎ ((place ≡ count) × (0 < length rest))

-- line k is wrong, and those before it are right
abbrev pub IsWrongAt : List ℕ → ℕ → Type 0
IsWrongAt bytes zero = HasNoHeader bytes
IsWrongAt bytes (suc place) =
    (count : ℕ) × (entries : List Entry) × (rest : List ℕ) × BeginsWithLines bytes count entries rest × (length entries ≡ place) × IsWrongBehind count place rest

-- an answer is this one, unless memory ran out
abbrev pub UnlessMemory : Result (List Entry) JournalFault → Result (List Entry) JournalFault → Type 0
UnlessMemory answer this = (answer ≡ Err Memory) ⊎ (answer ≡ this)
