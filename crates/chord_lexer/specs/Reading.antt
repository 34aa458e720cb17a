-- What a source reads as.
use Rattle.std.specs.Prelude.{◌≡◌, ℕ, ◌+◌, ◌<◌, cond, List, [], ◌∷◌, ◌++◌, length, take, drop, bytes_eq}
use Rattle.chord_lexer.specs.declared.token.Token.{Token}
use Rattle.chord_lexer.specs.declared.piece.Piece.{Piece}
use Rattle.chord_lexer.specs.declared.piece.Piece.TheVariants as pieces
use Rattle.chord_lexer.specs.declared.lexer.LexFault.{LexFault}
use Rattle.chord_lexer.specs.declared.lexer.LexFault.TheVariants as faults
use Rattle.chord_lexer.specs.Pieces.{IsLongest, IsNone}

-- A mark EF BB BF that leads a source is skipped, and no place counts it.
abbrev pub byte_order_mark : List ℕ
byte_order_mark = 0xEF ∷ 0xBB ∷ 0xBF ∷ []

-- the text of a source, after its byte order mark if it has one
abbrev pub after_byte_order_mark : List ℕ → List ℕ
after_byte_order_mark source = cond (bytes_eq byte_order_mark (take 3 source)) (drop 3 source) source

-- The token that a piece is, if it is one, with its place.
abbrev pub tokens_of : Piece → ℕ → ℕ → List Token
tokens_of pieces.Blank start stop = []
tokens_of pieces.Comment start stop = []
tokens_of (pieces.Token kind) start stop = record { kind = kind; start = start; end = stop } ∷ []

-- From byte `at` on the text is a chain of blanks, comments and tokens, each as long as it can be in the whole text, and then the rest.
pub data Chain : ℕ → List ℕ → List Token → List ℕ → Type 0 where
  none : {at : ℕ} {rest : List ℕ} → Chain at rest [] rest
  more : {at : ℕ} {p : Piece} {piece text : List ℕ} {tokens : List Token} {rest : List ℕ}
      → IsLongest p piece text → Chain (at + length piece) text tokens rest → Chain at (piece ++ text) (tokens_of p at (at + length piece) ++ tokens) rest

-- A source reads as these tokens where it is such a chain as a whole.
abbrev pub IsRead : List ℕ → List Token → Type 0
IsRead source tokens = Chain 0 (after_byte_order_mark source) tokens []

-- A source is refused at byte k where the bytes before it are such a chain, and nothing begins at it.
pub record IsRefused (source : List ℕ) (k : ℕ) : Type 0 where
  pub tokens : List Token
  pub rest : List ℕ
  pub chain : Chain 0 (after_byte_order_mark source) tokens rest
  pub place : k + length rest ≡ length (after_byte_order_mark source)
  pub there : 0 < length rest
  pub nothing : IsNone rest

-- What a fault says: `Memory` nothing, `Bad` that the source is refused there.
abbrev pub IsFault : List ℕ → LexFault → Type 0
IsFault source faults.Memory = Unit {0}
IsFault source (faults.Bad k) = IsRefused source k
