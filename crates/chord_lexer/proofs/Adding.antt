-- Tokens that are added to the list: what a call that adds one says of its answer.
use Rattle.std.proofs.Common.{◌≡◌, ℕ, ◌+◌, ◌<◌, List, [], ◌∷◌, ◌++◌, length, sym, subst, append-nil, Result, Ok, Err, IfOk, IfErr}
use Rattle.chord_lexer.specs.declared.token.Token.{Token}
use Rattle.chord_lexer.specs.declared.token.Kind.{Kind}
use Rattle.chord_lexer.specs.declared.piece.Piece.TheVariants as pieces
use Rattle.chord_lexer.specs.declared.scan.Stop.{Stop}
use Rattle.chord_lexer.specs.declared.scan.Stop.TheVariants as stops
use Rattle.chord_lexer.specs.declared.scan.Lead.TheVariants as leads
use Rattle.chord_lexer.specs.Scanning.{lead_of, Begins, IsAdded, IsStop}
use Rattle.chord_lexer.proofs.Leads.{blank_begins}

-- a token of the kind that begins the text was added
pub token_added : (text : List ℕ) (start n : ℕ) (kind : Kind) (before now : List Token) (r : Result ℕ Stop) → Begins text (pieces.Token kind) n → IfOk r (λ m. m ≡ n) → IfOk r (λ _. now ≡ before ++ record { kind = kind; start = start; end = start + n } ∷ [])
    → IfOk r (IsAdded text start before now)
token_added text start n kind before now (Ok m) b i e = record {
  piece = pieces.Token kind;
  begins = subst (λ z. Begins text (pieces.Token kind) z) (sym i) b;
  tokens = subst (λ z. now ≡ before ++ record { kind = kind; start = start; end = start + z } ∷ []) (sym i) e;
}
token_added text start n kind before now (Err stop) b i e = tt

-- want of memory says nothing of the text
pub for_memory : (text : List ℕ) (r : Result ℕ Stop) → IfErr r (λ stop. stop ≡ stops.Memory) → IfErr r (IsStop text)
for_memory text (Ok n) h = tt
for_memory text (Err stop) h = subst (λ z. IsStop text z) (sym h) tt

-- a blank adds no token
pub blank_added : (text : List ℕ) (start : ℕ) (tokens : List Token) → 0 < length text → lead_of text ≡ leads.Blank → IsAdded text start tokens tokens 1
blank_added text start tokens l h = record { piece = pieces.Blank; begins = blank_begins text l h; tokens = sym (append-nil tokens) }

-- a comment adds no token
pub comment_added : (text : List ℕ) (start : ℕ) (tokens : List Token) (r : Result ℕ Stop) → IfOk r (Begins text pieces.Comment) → IfOk r (IsAdded text start tokens tokens)
comment_added text start tokens (Ok n) b = record { piece = pieces.Comment; begins = b; tokens = sym (append-nil tokens) }
comment_added text start tokens (Err stop) b = tt
