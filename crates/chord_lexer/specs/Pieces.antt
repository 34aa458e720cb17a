-- Tokens, blanks and comments, each as long as it can be.
use Rattle.std.specs.Prelude.{◌≡◌, ℕ, ◌≤◌, false, true, List, [], ◌∷◌, ◌++◌, length, Some, None}
use Rattle.chord_lexer.specs.declared.token.Kind.{Kind}
use Rattle.chord_lexer.specs.declared.token.Kind.TheVariants as kinds
use Rattle.chord_lexer.specs.declared.piece.Piece.{Piece}
use Rattle.chord_lexer.specs.declared.piece.Piece.TheVariants as pieces
use Rattle.chord_lexer.specs.Letters.{is_blank}
use Rattle.chord_lexer.specs.Identifiers.{IsIdentifier, keyword_of}
use Rattle.chord_lexer.specs.Numbers.{IsNumber}
use Rattle.chord_lexer.specs.Literals.{IsLiteral}
use Rattle.chord_lexer.specs.Comments.{IsComment, begins_comment}
use Rattle.chord_lexer.specs.Marks.{mark_bytes}

-- The bytes are a token of the kind, where the rest follows them. A name is an identifier that is not reserved.
abbrev pub IsKind : Kind → List ℕ → List ℕ → Type 0
IsKind (kinds.Word keyword) token rest = IsIdentifier token rest × (keyword_of token ≡ Some keyword)
IsKind (kinds.Name name) token rest = IsIdentifier token rest × (keyword_of token ≡ None) × (name ≡ token)
IsKind (kinds.Number n) token rest = IsNumber n token rest
IsKind (kinds.Literal bytes) token rest = IsLiteral bytes token
IsKind (kinds.Mark mark) token rest = (token ≡ mark_bytes mark) × (begins_comment (token ++ rest) ≡ false)

-- The bytes are a blank, a comment or a token, where the rest follows them.
abbrev pub IsPiece : Piece → List ℕ → List ℕ → Type 0
IsPiece pieces.Blank piece rest = (b : ℕ) × (piece ≡ b ∷ []) × (is_blank b ≡ true)
IsPiece pieces.Comment piece rest = IsComment piece rest
IsPiece (pieces.Token kind) piece rest = IsKind kind piece rest

-- Whatever begins the same text is not longer.
abbrev pub IsMost : List ℕ → List ℕ → Type 0
IsMost piece rest = (other : Piece) (bytes after : List ℕ) → bytes ++ after ≡ piece ++ rest → IsPiece other bytes after → length bytes ≤ length piece

-- The bytes are a blank, a comment or a token, as long as it can be in the whole text.
pub record IsLongest (p : Piece) (piece rest : List ℕ) : Type 0 where
  pub is : IsPiece p piece rest
  pub most : IsMost piece rest

-- No blank, comment or token begins the text.
abbrev pub IsNone : List ℕ → Type 0
IsNone text = (other : Piece) (bytes after : List ℕ) → bytes ++ after ≡ text → IsPiece other bytes after → ⊥
