-- Each token of a source begins within its text.
use Rattle.std.proofs.Common.{◌≡◌, ℕ, zero, suc, ◌+◌, ◌≤◌, List, [], ◌∷◌, ◌++◌, length, length-append, arith}
use Rattle.chord_lexer.specs.Reading.{Chain, IsRead, after_byte_order_mark, more, none, tokens_of}
use Rattle.chord_lexer.specs.declared.piece.Piece.{Piece}
use Rattle.chord_lexer.specs.declared.piece.Piece.TheVariants as pieces
use Rattle.chord_lexer.specs.declared.token.Token.{Token}
use Rattle.chord_run.specs.Refusals.{IsTokenAt, IsWithin, token_start}
use Rattle.chord_run.specs.Sources.{IsShort}

-- each token begins at this byte or before it
abbrev pub BeginWithin : ℕ → List Token → Type 0
BeginWithin end [] = Unit {0}
BeginWithin end (token ∷ later) = (token.start ≤ end) × BeginWithin end later

-- where the tokens of two lists begin at a byte or before it, so do those of both joined
both_within : (end : ℕ) (left right : List Token) → BeginWithin end left → BeginWithin end right → BeginWithin end (left ++ right)
both_within end [] right l r = r
both_within end (token ∷ left) right l r = (l.0, both_within end left right l.1 r)

-- tokens that begin at a byte or before it begin at each later byte or before it
further_within : (near far : ℕ) (tokens : List Token) → near ≤ far → BeginWithin near tokens → BeginWithin far tokens
further_within near far [] h b = tt
further_within near far (token ∷ later) h b = (omega (arith, b.0), further_within near far later h b.1)

-- the token of a piece that begins at a byte or before it does so too
piece_within : (piece : Piece) (start stop end : ℕ) → start ≤ end → BeginWithin end (tokens_of piece start stop)
piece_within pieces.Blank start stop end h = tt
piece_within pieces.Comment start stop end h = tt
piece_within (pieces.Token kind) start stop end h = (h, tt)

-- the tokens of a chain begin within its text or at its end
chain_within : {at : ℕ} {text : List ℕ} {tokens : List Token} {rest : List ℕ} → Chain at text tokens rest → BeginWithin (at + length text) tokens
chain_within none = tt
chain_within (more {at = at} {p} {piece} {text} {tokens} longest chain) =
    let l = length-append piece text in
    both_within (at + length (piece ++ text)) (tokens_of p at (at + length piece)) tokens (piece_within p at (at + length piece) (at + length (piece ++ text)) (omega arith)) (further_within (at + length piece + length text) (at + length (piece ++ text)) tokens (omega arith) (chain_within chain))

-- where all tokens begin at a byte or before it, so does each by its number
start_within : (end : ℕ) (tokens : List Token) (k : ℕ) → BeginWithin end tokens → token_start tokens k end ≤ end
start_within end [] k b = omega arith
start_within end (token ∷ later) zero b = b.0
start_within end (token ∷ later) (suc k) b = start_within end later k b.1

-- the byte at which a token of a source begins is within the text
pub token_within : (source : List ℕ) (tokens : List Token) (k : ℕ) → IsRead source tokens → token_start tokens k (length (after_byte_order_mark source)) ≤ length (after_byte_order_mark source)
token_within source tokens k read =
    let b : BeginWithin (0 + length (after_byte_order_mark source)) tokens = chain_within read in
    start_within (length (after_byte_order_mark source)) tokens k (further_within (0 + length (after_byte_order_mark source)) (length (after_byte_order_mark source)) tokens (omega arith) b)

-- the byte at which token k begins is one at which the tokens of a source may refuse it
pub points_at_token : (source : List ℕ) (tokens : List Token) (k byte : ℕ) → IsShort source → IsRead source tokens → byte ≡ token_start tokens k (length (after_byte_order_mark source)) → IsWithin source byte × IsTokenAt source k byte
points_at_token source tokens k byte short read at =
    let w = token_within source tokens k read in
    (record { short = short; within = omega arith }, record { tokens = tokens; read = read; at = at })
