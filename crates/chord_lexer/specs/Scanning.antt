-- What the scanner's own functions say of their answers. No definition of a reading stands on these.
use Rattle.std.specs.Prelude.{◌≡◌, ℕ, ◌+◌, ◌<◌, ◌≤◌, Bool, true, cond, ◌&&◌, List, [], ◌∷◌, ◌++◌, length, take, drop, nat_eq, Option, Some, None, filter, slice_index}
use Rattle.chord_lexer.specs.declared.token.Keyword.{Keyword}
use Rattle.chord_lexer.specs.declared.token.Mark.{Mark}
use Rattle.chord_lexer.specs.declared.token.Mark.TheVariants as marks
use Rattle.chord_lexer.specs.declared.token.Token.{Token}
use Rattle.chord_lexer.specs.declared.piece.Piece.{Piece}
use Rattle.chord_lexer.specs.declared.scan.ByteKind.{ByteKind}
use Rattle.chord_lexer.specs.declared.scan.ByteKind.TheVariants as byte_kinds
use Rattle.chord_lexer.specs.declared.scan.Lead.{Lead}
use Rattle.chord_lexer.specs.declared.scan.Lead.TheVariants as leads
use Rattle.chord_lexer.specs.declared.scan.Stop.{Stop}
use Rattle.chord_lexer.specs.declared.scan.Stop.TheVariants as stops
use Rattle.chord_lexer.specs.Identifiers.{reserved_words}
use Rattle.chord_lexer.specs.Letters.{is_blank, is_digit, is_letter, is_identifier_byte, all_pass, IsMaximalRun}
use Rattle.chord_lexer.specs.Numbers.{value_after}
use Rattle.chord_lexer.specs.Comments.{begins_comment, is_in_line, IsDelimited, IsUnclosed}
use Rattle.chord_lexer.specs.Literals.{is_plain, escaped}
use Rattle.chord_lexer.specs.Pieces.{IsLongest, IsNone}
use Rattle.chord_lexer.specs.Reading.{tokens_of}

-- the test of a kind of bytes
abbrev pub test_of : ByteKind → ℕ → Bool
test_of byte_kinds.Digit b = is_digit b
test_of byte_kinds.Identifier b = is_identifier_byte b
test_of byte_kinds.Line b = is_in_line b

-- what may begin a text, by its first bytes
abbrev pub lead_of : List ℕ → Lead
lead_of [] = leads.Mark
lead_of (b ∷ bs) = cond (is_digit b) leads.Digit (cond (is_letter b) leads.Letter (cond (is_blank b) leads.Blank (cond (nat_eq b 0x22) leads.Quote (cond (begins_comment (b ∷ bs)) leads.Comment leads.Mark))))

-- the piece is the longest that begins the text, and has n bytes
pub record Begins (text : List ℕ) (p : Piece) (n : ℕ) : Type 0 where
  pub within : n ≤ length text
  pub longest : IsLongest p (take n text) (drop n text)

-- the longest piece that begins the text has n bytes, and the token that it is, if it is one, stands at `start` and was added
pub record IsAdded (text : List ℕ) (start : ℕ) (before now : List Token) (n : ℕ) : Type 0 where
  pub piece : Piece
  pub begins : Begins text piece n
  pub tokens : now ≡ before ++ tokens_of piece start (start + n)

-- Why no piece was found: for want of memory, or because none begins the text.
abbrev pub IsStop : List ℕ → Stop → Type 0
IsStop text stops.Memory = Unit {0}
IsStop text stops.Nothing = IsNone text

-- the first n bytes are all the digits at the front, and their value is not too large
pub record IsValue (text : List ℕ) (value n : ℕ) : Type 0 where
  pub within : n ≤ length text
  pub run : IsMaximalRun is_digit (take n text) (drop n text)
  pub is : value ≡ value_after 0 (take n text)
  pub small : value ≤ 2147483648

-- some first bytes are digits whose value is too large
pub record IsTooLarge (text : List ℕ) : Type 0 where
  pub size : ℕ
  pub digits : all_pass is_digit (take size text) ≡ true
  pub large : 2147483648 < value_after 0 (take size text)

-- a literal's body, byte by byte: a byte of a longer character is no quote, no `\` and no end of a line
pub data Bytewise : List ℕ → List ℕ → Type 0 where
  end : Bytewise [] []
  byte : {b : ℕ} {body bytes : List ℕ} → is_plain b ≡ true → Bytewise body bytes → Bytewise (b ∷ body) (b ∷ bytes)
  pair : {b m : ℕ} {body bytes : List ℕ} → escaped b ≡ Some m → Bytewise body bytes → Bytewise (0x5C ∷ b ∷ body) (m ∷ bytes)

-- the bytes are the body of a literal, byte by byte
abbrev pub IsBody : List ℕ → Type 0
IsBody body = (bytes : List ℕ) × Bytewise body bytes

-- a body of n bytes and then a quote begin the text
abbrev pub IsQuoted : List ℕ → ℕ → Type 0
IsQuoted text n = IsBody (take n text) × ((rest : List ℕ) × (drop n text ≡ 0x22 ∷ rest))

-- no body of a literal with its quote begins the text
abbrev pub IsUnquoted : List ℕ → Type 0
IsUnquoted text = (body bytes rest : List ℕ) → text ≡ body ++ 0x22 ∷ rest → Bytewise body bytes → ⊥

-- `*/` stands after the first n bytes, and nowhere before
pub record IsClosedAt (text : List ℕ) (n : ℕ) : Type 0 where
  pub next : IsUnclosed (take n text)
  pub rest : List ℕ
  pub close : drop n text ≡ 0x2A ∷ 0x2F ∷ rest

-- the first n bytes are delimited as a comment, or no first bytes are
pub record IsExtent (text : List ℕ) (n : ℕ) : Type 0 where
  pub within : n ≤ length text
  pub is : IsDelimited (take n text) (drop n text)

-- nothing that is delimited as a comment begins the text
abbrev pub IsUndelimited : List ℕ → Type 0
IsUndelimited text = (comment rest : List ℕ) → comment ++ rest ≡ text → IsDelimited comment rest → ⊥

-- the mark of one byte, and that of two
abbrev pub single_mark : ℕ → Option Mark
single_mark b =
    cond (nat_eq b 0x7B) (Some marks.OpenBrace) (
    cond (nat_eq b 0x7D) (Some marks.CloseBrace) (
    cond (nat_eq b 0x28) (Some marks.OpenParenthesis) (
    cond (nat_eq b 0x29) (Some marks.CloseParenthesis) (
    cond (nat_eq b 0x3B) (Some marks.Semicolon) (
    cond (nat_eq b 0x2C) (Some marks.Comma) (
    cond (nat_eq b 0x2E) (Some marks.Dot) (
    cond (nat_eq b 0x3A) (Some marks.Colon) (
    cond (nat_eq b 0x3D) (Some marks.Assign) (
    cond (nat_eq b 0x3C) (Some marks.Less) (
    cond (nat_eq b 0x3E) (Some marks.Greater) (
    cond (nat_eq b 0x2B) (Some marks.Plus) (
    cond (nat_eq b 0x2D) (Some marks.Minus) (
    cond (nat_eq b 0x2A) (Some marks.Times) (
    cond (nat_eq b 0x2F) (Some marks.Divide) (
    cond (nat_eq b 0x25) (Some marks.Remainder) (
    cond (nat_eq b 0x21) (Some marks.Not) (
    cond (nat_eq b 0x26) (Some marks.Ampersand) None)))))))))))))))))

-- the mark of two bytes
abbrev pub pair_mark : ℕ → ℕ → Option Mark
pair_mark a b =
    cond (nat_eq a 0x3D && nat_eq b 0x3D) (Some marks.Equal) (
    cond (nat_eq a 0x21 && nat_eq b 0x3D) (Some marks.NotEqual) (
    cond (nat_eq a 0x3C && nat_eq b 0x3D) (Some marks.LessOrEqual) (
    cond (nat_eq a 0x3E && nat_eq b 0x3D) (Some marks.GreaterOrEqual) (
    cond (nat_eq a 0x26 && nat_eq b 0x26) (Some marks.And) (
    cond (nat_eq a 0x7C && nat_eq b 0x7C) (Some marks.Or) (
    cond (nat_eq a 0x2B && nat_eq b 0x2B) (Some marks.Increment) (
    cond (nat_eq a 0x2D && nat_eq b 0x2D) (Some marks.Decrement) None)))))))

-- the mark of the first two bytes
abbrev pub pair_mark_of : List ℕ → Option Mark
pair_mark_of (a ∷ b ∷ text) = pair_mark a b
pair_mark_of text = None

-- the mark, where this byte stands second
abbrev pub second_mark : List ℕ → ℕ → Mark → Option Mark
second_mark (a ∷ b ∷ text) second mark = cond (nat_eq b second) (Some mark) None
second_mark text second mark = None

-- the mark of the first two bytes, by the first one and then by the second
abbrev pub pair_after : ℕ → List ℕ → Option Mark
pair_after a text =
    cond (nat_eq a 0x3D) (second_mark text 0x3D marks.Equal) (
    cond (nat_eq a 0x21) (second_mark text 0x3D marks.NotEqual) (
    cond (nat_eq a 0x3C) (second_mark text 0x3D marks.LessOrEqual) (
    cond (nat_eq a 0x3E) (second_mark text 0x3D marks.GreaterOrEqual) (
    cond (nat_eq a 0x26) (second_mark text 0x26 marks.And) (
    cond (nat_eq a 0x7C) (second_mark text 0x7C marks.Or) (
    cond (nat_eq a 0x2B) (second_mark text 0x2B marks.Increment) (
    cond (nat_eq a 0x2D) (second_mark text 0x2D marks.Decrement) None)))))))

-- the reserved words that begin with the letter
abbrev pub begins_with : ℕ → List ℕ × Keyword → Bool
begins_with letter entry = nat_eq letter (slice_index entry.0 0)

-- the entries of the reserved words that begin with the letter
abbrev pub reserved_with : ℕ → List (List ℕ × Keyword)
reserved_with letter =
    cond (nat_eq letter 0x61) (filter (begins_with 0x61) reserved_words) (
    cond (nat_eq letter 0x62) (filter (begins_with 0x62) reserved_words) (
    cond (nat_eq letter 0x63) (filter (begins_with 0x63) reserved_words) (
    cond (nat_eq letter 0x64) (filter (begins_with 0x64) reserved_words) (
    cond (nat_eq letter 0x65) (filter (begins_with 0x65) reserved_words) (
    cond (nat_eq letter 0x66) (filter (begins_with 0x66) reserved_words) (
    cond (nat_eq letter 0x67) (filter (begins_with 0x67) reserved_words) (
    cond (nat_eq letter 0x69) (filter (begins_with 0x69) reserved_words) (
    cond (nat_eq letter 0x6C) (filter (begins_with 0x6C) reserved_words) (
    cond (nat_eq letter 0x6E) (filter (begins_with 0x6E) reserved_words) (
    cond (nat_eq letter 0x6F) (filter (begins_with 0x6F) reserved_words) (
    cond (nat_eq letter 0x70) (filter (begins_with 0x70) reserved_words) (
    cond (nat_eq letter 0x72) (filter (begins_with 0x72) reserved_words) (
    cond (nat_eq letter 0x73) (filter (begins_with 0x73) reserved_words) (
    cond (nat_eq letter 0x74) (filter (begins_with 0x74) reserved_words) (
    cond (nat_eq letter 0x75) (filter (begins_with 0x75) reserved_words) (
    cond (nat_eq letter 0x76) (filter (begins_with 0x76) reserved_words) (
    cond (nat_eq letter 0x77) (filter (begins_with 0x77) reserved_words) [])))))))))))))))))
