-- The place of a byte in a text. A line ends at CR LF, at LF or at CR. Lines and columns count from 1, and columns count bytes.
use Rattle.std.specs.Prelude.{ℕ, ◌+◌, Bool, false, ◌==◌, ◌||◌, ◌&&◌, not, List, [], ◌∷◌, take, count_by}
use Rattle.std.specs.List.{suffix_len}
use Rattle.chord_run.specs.declared.position.Position.{Position}

-- whether a text begins with LF
abbrev pub begins_with_feed : List ℕ → Bool
begins_with_feed [] = false
begins_with_feed (byte ∷ text) = byte == 10

-- whether a line ends after this byte, with this text behind it
abbrev pub breaks_after : ℕ → List ℕ → Bool
breaks_after byte text = (byte == 10) || ((byte == 13) && not (begins_with_feed text))

-- for each byte of a text, whether a line ends after it
abbrev pub breaks : List ℕ → List Bool
breaks [] = []
breaks (byte ∷ text) = breaks_after byte text ∷ breaks text

-- the line is one more than the number of lines that end before
abbrev pub line_after : List Bool → ℕ
line_after before = 1 + count_by (λ ends. ends) before

-- the column is one more than the number of bytes since the last line ended
abbrev pub column_after : List Bool → ℕ
column_after before = 1 + suffix_len not before

-- the place of byte k; where k is the length of the text, the place of its end
abbrev pub position_of : List ℕ → ℕ → Position
position_of text k = record { line = line_after (take k (breaks text)); column = column_after (take k (breaks text)) }
