-- The rule of the roll, which holds between any two steps, and what each step makes of a card.
use Rattle.std.specs.Prelude.{◌≡◌, ◌≢◌, ◌⊎◌, ℕ, ◌+◌, ◌<◌, Bool, true, false, List, [], ◌∷◌, length, slice_index, None, Some}
use mathlib.Core.Option.{some}
use lib.ListN.{get_elem?}
use Rattle.atomic_table.specs.Table.{State, Me, Step}
use Rattle.chord_roll.specs.declared.turnout.Turnout.{Turnout}

-- 1 for a card that counts, else 0
abbrev pub counted_as : Bool → ℕ
counted_as true = 1
counted_as false = 0

-- how many of these cards count
abbrev pub at_work : List Turnout → ℕ
at_work [] = 0
at_work (t ∷ ts) = counted_as t.counts + at_work ts

-- one of these cards is of a worker that told all to stop
abbrev pub OneTells : List Turnout → Type 0
OneTells ts = (id : ℕ) × (t : Turnout) × (get_elem? ts id ≡ some t) × (t.tells ≡ true)

-- the first word is how many cards count; the second is 0 until a worker tells all to stop, and 1 from then on; and the cards are the first one and those that were made from it
pub record IsRoll (s : State (Unit {0}) Turnout) : Type 0 where
  pub words : length s.words ≡ 2
  pub count : slice_index s.words 0 ≡ at_work s.views
  pub told : (id : ℕ) (t : Turnout) → get_elem? s.views id ≡ some t → t.stops ≡ true → slice_index s.words 1 ≡ 1
  pub since : (slice_index s.words 1 ≡ 0) ⊎ ((slice_index s.words 1 ≡ 1) × OneTells s.views)
  pub any : 0 < length s.views
  pub first : (t : Turnout) → get_elem? s.views 0 ≡ some t → (length s.views ≡ 1 + t.hired) × (t.hired < 65536)

-- a card that does not count, and with which nothing was done yet
abbrev pub new_card : Turnout
new_card = record { counts = false; ended = 0; hired = 0; read = None; reads = 0; asks = 0; stops = false; tells = false }

-- the card from which one more was made
abbrev pub hired_one : Turnout → Turnout
hired_one t = record { counts = t.counts; ended = t.ended; hired = t.hired + 1; read = t.read; reads = t.reads; asks = t.asks; stops = t.stops; tells = t.tells }

-- the card of a worker that counts from here on
abbrev pub counting : Turnout → Turnout
counting t = record { counts = true; ended = t.ended; hired = t.hired; read = t.read; reads = t.reads; asks = t.asks; stops = t.stops; tells = t.tells }

-- the card of a worker that was counted off once more
abbrev pub counted_off : Turnout → Turnout
counted_off t = record { counts = false; ended = t.ended + 1; hired = t.hired; read = t.read; reads = t.reads; asks = t.asks; stops = t.stops; tells = t.tells }

-- the card of a worker that has read this number
abbrev pub having_read : ℕ → Turnout → Turnout
having_read n t = record { counts = t.counts; ended = t.ended; hired = t.hired; read = Some n; reads = t.reads + 1; asks = t.asks; stops = t.stops; tells = t.tells }

-- the card of a worker that has asked whether all are to stop
abbrev pub asking : Turnout → Turnout
asking t = record { counts = t.counts; ended = t.ended; hired = t.hired; read = t.read; reads = t.reads; asks = t.asks + 1; stops = t.stops; tells = t.tells }

-- the card of a worker that has asked, and read that all are to stop
abbrev pub stopping : Turnout → Turnout
stopping t = record { counts = t.counts; ended = t.ended; hired = t.hired; read = t.read; reads = t.reads; asks = t.asks + 1; stops = true; tells = t.tells }

-- the card of a worker that has told all to stop
abbrev pub telling : Turnout → Turnout
telling t = record { counts = t.counts; ended = t.ended; hired = t.hired; read = t.read; reads = t.reads; asks = t.asks; stops = true; tells = true }

-- a card, and no slots
abbrev Holder : Type 0
Holder = Me (Unit {0}) Turnout

-- the card counts from here on
abbrev pub count_begins : Step (Unit {0}) → Holder → ℕ → Holder → Type 0
count_begins st m n m' = m' ≡ (counting m.0, m.1)

-- the card is counted off
abbrev pub count_ends : Step (Unit {0}) → Holder → ℕ → Holder → Type 0
count_ends st m n m' = m' ≡ (counted_off m.0, m.1)

-- the number is read, of the first word, and is not 0 where the reader itself counts
abbrev pub reads_count : Step (Unit {0}) → Holder → ℕ → Holder → Type 0
reads_count st m n m' = (m' ≡ (having_read n m.0, m.1)) × (m.0.counts ≡ true → 0 < n) × (st.word ≡ 0)

-- all are told to stop
abbrev pub tells_all : Step (Unit {0}) → Holder → ℕ → Holder → Type 0
tells_all st m n m' = m' ≡ (telling m.0, m.1)

-- whether all are to stop is read: the worker knows it then, and where they are not it has told nobody
abbrev pub reads_stop : Step (Unit {0}) → Holder → ℕ → Holder → Type 0
reads_stop st m n m' = (n ≢ 0 → m' ≡ (stopping m.0, m.1)) × (n ≡ 0 → (m' ≡ (asking m.0, m.1)) × (m.0.stops ≡ false))
