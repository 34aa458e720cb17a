-- Identifiers: the longest is the whole run.
use Rattle.std.proofs.Common.{◌≡◌, ℕ, zero, suc, ◌<◌, ◌≤◌, true, List, [], ◌∷◌, ◌++◌, length, take, drop, refl, sym, ap, ◌∙◌, arith, Some, None}
use Rattle.std.proofs.lemmas.List.{take-append-drop, length-take-le}
use Rattle.chord_lexer.specs.declared.token.Kind.{Kind}
use Rattle.chord_lexer.specs.declared.token.Kind.TheVariants as kinds
use Rattle.chord_lexer.specs.declared.token.Keyword.{Keyword}
use Rattle.chord_lexer.specs.declared.piece.Piece.{Piece}
use Rattle.chord_lexer.specs.declared.piece.Piece.TheVariants as pieces
use Rattle.chord_lexer.specs.declared.scan.Lead.TheVariants as leads
use Rattle.chord_lexer.specs.Letters.{is_letter, is_identifier_byte, IsMaximalRun}
use Rattle.chord_lexer.specs.Identifiers.{IsIdentifier, keyword_of}
use Rattle.chord_lexer.specs.Pieces.{IsKind, IsPiece, IsNone}
use Rattle.chord_lexer.specs.Scanning.{lead_of, Begins}
use Rattle.chord_lexer.proofs.Runs.{run_same, or_left}
use Rattle.chord_lexer.proofs.Leads.{leads_to, only_word, told}

-- an identifier at the front is the whole run
pub word_at_front : (text : List ℕ) (n : ℕ) → lead_of text ≡ leads.Letter → IsMaximalRun is_identifier_byte (take n text) (drop n text) → (q : Piece) (v more : List ℕ) → v ++ more ≡ text → IsPiece q v more → (v ≡ take n text) × (length v ≤ 255)
word_at_front text n h r q v more e k =
    let w = only_word q v more (leads_to text leads.Letter h q v more e k) k in
    ((run_same is_identifier_byte (take n text) (drop n text) v more r w.run (e ∙ sym (take-append-drop n text))).0, w.short)

-- a whole run of at most 255 bytes that begins with a letter is an identifier
word_of : (b : ℕ) (bs : List ℕ) (n : ℕ) → is_letter b ≡ true → IsMaximalRun is_identifier_byte (take n (b ∷ bs)) (drop n (b ∷ bs)) → length (take n (b ∷ bs)) ≤ 255 → IsIdentifier (take n (b ∷ bs)) (drop n (b ∷ bs))
word_of b bs zero h r l = let f = sym r.1 ∙ or_left (is_letter b) _ h in cc
word_of b bs (suc n) h r l = record { first = b; others = take n bs; begins = refl; letter = h; run = r; short = l }

-- a run of at most 255 bytes after a letter is an identifier
pub is_word : (text : List ℕ) (n : ℕ) → lead_of text ≡ leads.Letter → n ≤ length text → IsMaximalRun is_identifier_byte (take n text) (drop n text) → n ≤ 255 → IsIdentifier (take n text) (drop n text)
is_word [] n h l r m = cc
is_word (b ∷ bs) n h l r m = let t = length-take-le n (b ∷ bs) l in word_of b bs n (told leads.Letter b bs h) r (omega arith)

-- the whole run is the longest piece, of whichever kind it is
pub word_begins : (text : List ℕ) (n : ℕ) (kind : Kind) → lead_of text ≡ leads.Letter → n ≤ length text → IsMaximalRun is_identifier_byte (take n text) (drop n text) → IsKind kind (take n text) (drop n text) → Begins text (pieces.Token kind) n
word_begins text n kind h l r k = record {
  within = l;
  longest = record {
    is = k;
    most = λ q v more e p. let f = ap length (word_at_front text n h r q v more (e ∙ take-append-drop n text) p).0 in omega arith;
  };
}

-- a reserved word begins the text
pub reserved_begins : (text : List ℕ) (n : ℕ) (keyword : Keyword) → lead_of text ≡ leads.Letter → n ≤ length text → IsMaximalRun is_identifier_byte (take n text) (drop n text) → n ≤ 255 → keyword_of (take n text) ≡ Some keyword → Begins text (pieces.Token (kinds.Word keyword)) n
reserved_begins text n keyword h l r m k = word_begins text n (kinds.Word keyword) h l r (is_word text n h l r m, k)

-- a name begins the text
pub name_begins : (text : List ℕ) (n : ℕ) (name : List ℕ) → lead_of text ≡ leads.Letter → n ≤ length text → IsMaximalRun is_identifier_byte (take n text) (drop n text) → n ≤ 255 → keyword_of (take n text) ≡ None → name ≡ take n text → Begins text (pieces.Token (kinds.Name name)) n
name_begins text n name h l r m k i = word_begins text n (kinds.Name name) h l r (is_word text n h l r m, k, i)

-- a longer run is no token
pub no_word : (text : List ℕ) (n : ℕ) → lead_of text ≡ leads.Letter → n ≤ length text → IsMaximalRun is_identifier_byte (take n text) (drop n text) → 255 < n → IsNone text
no_word text n h l r m q v more e k = let f = word_at_front text n h r q v more e k in let g = ap length f.0 in let s = f.1 in let t = length-take-le n text l in omega arith
