-- The table at a moment, as plain data, and how its words show it.
use Rattle.std.specs.Prelude.{◌≡◌, ℕ, ◌+◌, ◌*◌, ◌<◌, List, length, Option, Some, None, slice_index}
use mathlib.Core.Option as maybe
use mathlib.Core.Option.{some}
use lib.ListN.{get_elem?}
use Rattle.atomic_table.specs.Table.{State}
use Rattle.chord_base.specs.declared.value.Object.{Object}
use Rattle.chord_word.specs.declared.cells.Cell.TheVariants.{Empty}
use Rattle.chord_word.specs.declared.cells.Word.{Word}
use Rattle.chord_word.specs.Cells.{word_of, link_of, WordFits}
use Rattle.chord_word.specs.Places.{place_word, PlaceFits}
use Rattle.chord_rule.specs.declared.view.View.{View}
use Rattle.chord_rule.specs.Layout.{cell_at, place_at, head_at, word_count}

-- the object and the method of a message
abbrev pub Place : Type 0
Place = Object × ℕ

-- the place word of a message, 0 where it is not set
abbrev pub word_at_place : Option Place → ℕ
word_at_place None = 0
word_at_place (Some p) = place_word p.0 p.1

-- the object and the method fit in a place word
abbrev pub PlaceOk : Option Place → Type 0
PlaceOk None = Unit {0}
PlaceOk (Some p) = PlaceFits p.0 p.1

-- the number fits in a link
abbrev pub LinkOk : Option ℕ → Type 0
LinkOk None = Unit {0}
LinkOk (Some x) = x < 65536

-- none: out with a desk; some None: at home and empty; some (Some p): at home with the parcel p
abbrev pub Home : Type 0 → Type 0
Home P = maybe.Option (Option P)

-- the table at a moment: the counter, the cell, place and slot of each number, the heads of the bags, and what each desk knows
pub record Moment (P : Type 0) : Type 0 where
  pub count : ℕ
  pub cells : ℕ → Word
  pub heads : ℕ → Option ℕ
  pub places : ℕ → Option Place
  pub homes : ℕ → Home P
  pub views : List View

-- the words and slots of the table show the moment: the counter, the cells, the place words, and so many heads for each object
pub record Shows {P : Type 0} (n width : ℕ) (m : Moment P) (s : State (Option P) View) : Type 0 where
  pub wide : length s.words ≡ word_count n width
  pub deep : length s.homes ≡ n
  pub count : slice_index s.words 0 ≡ m.count
  pub cells : (i : ℕ) → i < n → (slice_index s.words (cell_at i) ≡ word_of (m.cells i)) × WordFits (m.cells i)
  pub heads : (o j : ℕ) → o < n → j < width → (slice_index s.words (head_at n width o j) ≡ link_of (m.heads (16 * o + j))) × LinkOk (m.heads (16 * o + j))
  pub places : (i : ℕ) → i < n → (slice_index s.words (place_at n i) ≡ word_at_place (m.places i)) × PlaceOk (m.places i)
  pub homes : (i : ℕ) → i < n → get_elem? s.homes i ≡ some (m.homes i)
  pub views : s.views ≡ m.views

-- the word of a cell that was never used
abbrev pub empty_word : Word
empty_word = record { cell = Empty; next = None }

-- nothing has happened to the number i but its draw
pub record Blank {P : Type 0} (m : Moment P) (i : ℕ) : Type 0 where
  pub cell : m.cells i ≡ empty_word
  pub place : m.places i ≡ None
  pub home : m.homes i ≡ some None
