-- The first bytes of a text tell what kind of piece may begin there.
use Rattle.std.proofs.Common.{◌≡◌, ℕ, ◌<◌, Bool, true, false, cond, List, [], ◌∷◌, ◌++◌, length, refl, sym, ap, subst, ◌∙◌, arith, eqb-true, inl, inr}
use Rattle.std.proofs.lemmas.Bool.Decides.{nat_tests}
use Rattle.std.specs.Prelude.{nat_eq}
use Rattle.chord_lexer.specs.declared.token.Kind.TheVariants as kinds
use Rattle.chord_lexer.specs.declared.token.Mark.{Mark}
use Rattle.chord_lexer.specs.declared.token.Mark.TheVariants as marks
use Rattle.chord_lexer.specs.declared.piece.Piece.{Piece}
use Rattle.chord_lexer.specs.declared.piece.Piece.TheVariants as pieces
use Rattle.chord_lexer.specs.declared.scan.Lead.{Lead}
use Rattle.chord_lexer.specs.declared.scan.Lead.TheVariants as leads
use Rattle.chord_lexer.specs.Letters.{is_blank, is_digit, is_letter, all_pass}
use Rattle.chord_lexer.specs.Identifiers.{IsIdentifier}
use Rattle.chord_lexer.specs.Numbers.{IsNumber}
use Rattle.chord_lexer.specs.Literals.{IsLiteral}
use Rattle.chord_lexer.specs.Comments.{IsComment, begins_comment}
use Rattle.chord_lexer.specs.Marks.{mark_bytes}
use Rattle.chord_lexer.specs.Pieces.{IsPiece}
use Rattle.chord_lexer.specs.Scanning.{lead_of, Begins}
use Rattle.chord_lexer.proofs.Runs.{and_left, or_cases}

-- what a piece begins with
abbrev pub lead_for : Piece → Lead
lead_for pieces.Blank = leads.Blank
lead_for pieces.Comment = leads.Comment
lead_for (pieces.Token (kinds.Word keyword)) = leads.Letter
lead_for (pieces.Token (kinds.Name name)) = leads.Letter
lead_for (pieces.Token (kinds.Number n)) = leads.Digit
lead_for (pieces.Token (kinds.Literal bytes)) = leads.Quote
lead_for (pieces.Token (kinds.Mark mark)) = leads.Mark

-- a letter is no digit
pub letter_digit : (b : ℕ) → is_letter b ≡ true → is_digit b ≡ false
letter_digit b h = grind (arith, nat_tests)

-- a text that begins with a blank may begin with a blank alone
pub blank_led : (b : ℕ) (bs : List ℕ) → is_blank b ≡ true → lead_of (b ∷ bs) ≡ leads.Blank
blank_led b bs h =
    elim (or_cases _ (nat_eq b 10) h) [
      | inr e ↦ rw (eqb-true b 10 e) refl
      | inl k ↦
          elim (or_cases _ (nat_eq b 13) k) [
            | inr e ↦ rw (eqb-true b 13 e) refl
            | inl l ↦
                elim (or_cases (nat_eq b 32) (nat_eq b 9) l) [ inl e ↦ rw (eqb-true b 32 e) refl | inr e ↦ rw (eqb-true b 9 e) refl ]
          ]
    ]

-- a text that begins with a letter may begin with an identifier alone
word_led : (b : ℕ) (bs : List ℕ) → is_letter b ≡ true → lead_of (b ∷ bs) ≡ leads.Letter
word_led b bs h = rw (letter_digit b h, h) refl

-- a text that begins with digits may begin with a number alone
number_led : (v more : List ℕ) → 0 < length v → all_pass is_digit v ≡ true → lead_of (v ++ more) ≡ leads.Digit
number_led [] more l h = absurd (omega arith)
number_led (b ∷ v) more l h = rw (and_left (is_digit b) _ h) refl

-- a text that begins with the bytes of a mark, and with no comment, may begin with a mark alone
mark_led : (mark : Mark) (more : List ℕ) → begins_comment (mark_bytes mark ++ more) ≡ false → lead_of (mark_bytes mark ++ more) ≡ leads.Mark
mark_led marks.OpenBrace more h = rw h refl
mark_led marks.CloseBrace more h = rw h refl
mark_led marks.OpenParenthesis more h = rw h refl
mark_led marks.CloseParenthesis more h = rw h refl
mark_led marks.Semicolon more h = rw h refl
mark_led marks.Comma more h = rw h refl
mark_led marks.Dot more h = rw h refl
mark_led marks.Colon more h = rw h refl
mark_led marks.Assign more h = rw h refl
mark_led marks.Equal more h = refl
mark_led marks.NotEqual more h = refl
mark_led marks.Less more h = rw h refl
mark_led marks.Greater more h = rw h refl
mark_led marks.LessOrEqual more h = refl
mark_led marks.GreaterOrEqual more h = refl
mark_led marks.Plus more h = rw h refl
mark_led marks.Minus more h = rw h refl
mark_led marks.Times more h = rw h refl
mark_led marks.Divide more h = rw h refl
mark_led marks.Remainder more h = rw h refl
mark_led marks.Not more h = rw h refl
mark_led marks.And more h = refl
mark_led marks.Or more h = refl
mark_led marks.Ampersand more h = rw h refl
mark_led marks.Increment more h = refl
mark_led marks.Decrement more h = refl

-- a text that begins with a comment may begin with a comment alone
comment_led : (v more : List ℕ) → IsComment v more → lead_of (v ++ more) ≡ leads.Comment
comment_led v more h = elim h.0 [ inl line ↦ rw line.begins refl | inr block ↦ rw block.begins refl ]

-- A text begins with what its first bytes tell.
pub lead_is : (q : Piece) (v more : List ℕ) → IsPiece q v more → lead_of (v ++ more) ≡ lead_for q
lead_is pieces.Blank v more h = rw h.1 (blank_led h.0 more h.2)
lead_is pieces.Comment v more h = comment_led v more h
lead_is (pieces.Token (kinds.Word keyword)) v more h = rw h.0.begins (word_led h.0.first (h.0.others ++ more) h.0.letter)
lead_is (pieces.Token (kinds.Name name)) v more h = rw h.0.begins (word_led h.0.first (h.0.others ++ more) h.0.letter)
lead_is (pieces.Token (kinds.Number n)) v more h = number_led v more h.some h.all
lead_is (pieces.Token (kinds.Literal bytes)) v more h = rw h.quoted refl
lead_is (pieces.Token (kinds.Mark mark)) v more h = subst (λ z. lead_of (z ++ more) ≡ leads.Mark) (sym h.0) (mark_led mark more (subst (λ z. begins_comment (z ++ more) ≡ false) h.0 h.1))

-- what the text begins with, by its own first bytes
pub leads_to : (text : List ℕ) (lead : Lead) → lead_of text ≡ lead → (q : Piece) (v more : List ℕ) → v ++ more ≡ text → IsPiece q v more → lead_for q ≡ lead
leads_to text lead h q v more e k = sym (lead_is q v more k) ∙ ap lead_of e ∙ h

-- where a blank leads, only a blank begins
pub only_blank : (q : Piece) (v more : List ℕ) → lead_for q ≡ leads.Blank → IsPiece q v more → (b : ℕ) × (v ≡ b ∷ [])
only_blank pieces.Blank v more e h = (h.0, h.1)
only_blank pieces.Comment v more e h = cc
only_blank (pieces.Token (kinds.Word keyword)) v more e h = cc
only_blank (pieces.Token (kinds.Name name)) v more e h = cc
only_blank (pieces.Token (kinds.Number n)) v more e h = cc
only_blank (pieces.Token (kinds.Literal bytes)) v more e h = cc
only_blank (pieces.Token (kinds.Mark mark)) v more e h = cc

-- where `//` or `/*` leads, only a comment begins
pub only_comment : (q : Piece) (v more : List ℕ) → lead_for q ≡ leads.Comment → IsPiece q v more → IsComment v more
only_comment pieces.Comment v more e h = h
only_comment pieces.Blank v more e h = cc
only_comment (pieces.Token (kinds.Word keyword)) v more e h = cc
only_comment (pieces.Token (kinds.Name name)) v more e h = cc
only_comment (pieces.Token (kinds.Number n)) v more e h = cc
only_comment (pieces.Token (kinds.Literal bytes)) v more e h = cc
only_comment (pieces.Token (kinds.Mark mark)) v more e h = cc

-- where a letter leads, only an identifier begins
pub only_word : (q : Piece) (v more : List ℕ) → lead_for q ≡ leads.Letter → IsPiece q v more → IsIdentifier v more
only_word (pieces.Token (kinds.Word keyword)) v more e h = h.0
only_word (pieces.Token (kinds.Name name)) v more e h = h.0
only_word _ v more e h = cc

-- where a digit leads, only a number begins
pub only_number : (q : Piece) (v more : List ℕ) → lead_for q ≡ leads.Digit → IsPiece q v more → (n : ℕ) × IsNumber n v more
only_number (pieces.Token (kinds.Number n)) v more e h = (n, h)
only_number _ v more e h = cc

-- where a quote leads, only a literal begins
pub only_literal : (q : Piece) (v more : List ℕ) → lead_for q ≡ leads.Quote → IsPiece q v more → (bytes : List ℕ) × IsLiteral bytes v
only_literal (pieces.Token (kinds.Literal bytes)) v more e h = (bytes, h)
only_literal _ v more e h = cc

-- where nothing else leads, only a mark begins
pub only_mark : (q : Piece) (v more : List ℕ) → lead_for q ≡ leads.Mark → IsPiece q v more → (mark : Mark) × (v ≡ mark_bytes mark)
only_mark (pieces.Token (kinds.Mark mark)) v more e h = (mark, h.0)
only_mark _ v more e h = cc

-- What each answer of `lead_of` says of the text.
abbrev pub Told : Lead → ℕ → List ℕ → Type 0
Told leads.Digit b bs = is_digit b ≡ true
Told leads.Letter b bs = is_letter b ≡ true
Told leads.Blank b bs = is_blank b ≡ true
Told leads.Quote b bs = b ≡ 0x22
Told leads.Comment b bs = begins_comment (b ∷ bs) ≡ true
Told leads.Mark b bs = begins_comment (b ∷ bs) ≡ false

-- what holds of each lead where its test holds, holds of the lead that the tests choose
tell : (P : Lead → Type 0) (d l b q c : Bool) → (d ≡ true → P leads.Digit) → (l ≡ true → P leads.Letter) → (b ≡ true → P leads.Blank) → (q ≡ true → P leads.Quote) → (c ≡ true → P leads.Comment) → (c ≡ false → P leads.Mark)
    → P (cond d leads.Digit (cond l leads.Letter (cond b leads.Blank (cond q leads.Quote (cond c leads.Comment leads.Mark)))))
tell P true l b q c hd hl hb hq hc hm = hd refl
tell P false true b q c hd hl hb hq hc hm = hl refl
tell P false false true q c hd hl hb hq hc hm = hb refl
tell P false false false true c hd hl hb hq hc hm = hq refl
tell P false false false false true hd hl hb hq hc hm = hc refl
tell P false false false false false hd hl hb hq hc hm = hm refl

-- the first bytes of a text pass the test of the lead that they have
told_of : (b : ℕ) (bs : List ℕ) → Told (lead_of (b ∷ bs)) b bs
told_of b bs = tell (λ lead. Told lead b bs) (is_digit b) (is_letter b) (is_blank b) (nat_eq b 0x22) (begins_comment (b ∷ bs)) (λ h. h) (λ h. h) (λ h. h) (λ h. eqb-true b 0x22 h) (λ h. h) (λ h. h)

-- what the first bytes say of the text
pub told : (lead : Lead) (b : ℕ) (bs : List ℕ) → lead_of (b ∷ bs) ≡ lead → Told lead b bs
told lead b bs h = subst (λ z. Told z b bs) h (told_of b bs)

-- a text whose first bytes tell of something else than a mark is not empty
pub some_led : (text : List ℕ) (lead : Lead) → lead_of text ≡ lead → (lead ≡ leads.Mark → ⊥) → (b : ℕ) × (bs : List ℕ) × (text ≡ b ∷ bs)
some_led [] lead h n = absurd (n (sym h))
some_led (b ∷ bs) lead h n = (b, bs, refl)

-- where only a mark may begin, no comment does
pub mark_told : (text : List ℕ) → lead_of text ≡ leads.Mark → begins_comment text ≡ false
mark_told [] h = refl
mark_told (b ∷ bs) h = told leads.Mark b bs h

-- a blank is one byte
pub blank_begins : (text : List ℕ) → 0 < length text → lead_of text ≡ leads.Blank → Begins text pieces.Blank 1
blank_begins [] l h = cc
blank_begins (b ∷ bs) l h = record {
  within = omega arith;
  longest = record {
    is = (b, refl, told leads.Blank b bs h);
    most = λ q v more e k. let o = only_blank q v more (leads_to (b ∷ bs) leads.Blank h q v more e k) k in let f = ap length o.1 in omega arith;
  };
}
