-- Comments.
use Rattle.std.specs.Prelude.{◌≡◌, ℕ, Bool, false, not, ◌&&◌, ◌||◌, ◌≢◌, ◌⊎◌, List, [], ◌∷◌, ◌++◌, nat_eq, IsUtf8}
use Rattle.chord_lexer.specs.Letters.{ends_line, IsMaximalRun}

-- `//` and `/*` always begin a comment where a token may begin.
abbrev pub begins_comment : List ℕ → Bool
begins_comment (a ∷ b ∷ text) = nat_eq a 0x2F && (nat_eq b 0x2F || nat_eq b 0x2A)
begins_comment text = false

-- the byte is within a line
abbrev pub is_in_line : ℕ → Bool
is_in_line b = not (ends_line b)

-- A line comment is `//` and what follows before the next 0D or 0A or the end of the text.
pub record IsLineComment (comment rest : List ℕ) : Type 0 where
  pub body : List ℕ
  pub begins : comment ≡ 0x2F ∷ 0x2F ∷ body
  pub line : IsMaximalRun is_in_line body rest

-- `*/` does not stand in these bytes
abbrev pub IsUnclosed : List ℕ → Type 0
IsUnclosed body = (front back : List ℕ) → body ≢ front ++ 0x2A ∷ 0x2F ∷ back

-- A block comment is `/*` and what follows through the next `*/`.
pub record IsBlockComment (comment : List ℕ) : Type 0 where
  pub body : List ℕ
  pub begins : comment ≡ 0x2F ∷ 0x2A ∷ (body ++ 0x2A ∷ 0x2F ∷ [])
  pub next : IsUnclosed body

-- What stands where a comment stands, whatever its bytes are.
abbrev pub IsDelimited : List ℕ → List ℕ → Type 0
IsDelimited comment rest = IsLineComment comment rest ⊎ IsBlockComment comment

-- A comment is one of the two, and its bytes are UTF-8.
abbrev pub IsComment : List ℕ → List ℕ → Type 0
IsComment comment rest = IsDelimited comment rest × IsUtf8 comment
