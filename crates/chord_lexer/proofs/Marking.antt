-- Marks: the longest is the one of two bytes, if there is one.
use Rattle.std.proofs.Common.{◌≡◌, ℕ, ◌<◌, ◌≤◌, Bool, true, false, cond, ◌&&◌, List, [], ◌∷◌, ◌++◌, length, take, get_or, refl, sym, ap, subst, ◌∙◌, arith, ◌⊎◌, inl, inr, Some, None, Option, eqb-true}
use Rattle.std.specs.Prelude.{nat_eq, slice_index}
use Rattle.std.proofs.lemmas.List.{take-append-drop, length-take-le}
use Rattle.chord_lexer.specs.declared.token.Kind.TheVariants as kinds
use Rattle.chord_lexer.specs.declared.token.Mark.{Mark}
use Rattle.chord_lexer.specs.declared.token.Mark.TheVariants as marks
use Rattle.chord_lexer.specs.declared.piece.Piece.{Piece}
use Rattle.chord_lexer.specs.declared.piece.Piece.TheVariants as pieces
use Rattle.chord_lexer.specs.declared.scan.Lead.TheVariants as leads
use Rattle.chord_lexer.specs.Comments.{begins_comment}
use Rattle.chord_lexer.specs.Marks.{mark_bytes}
use Rattle.chord_lexer.specs.Pieces.{IsPiece, IsNone}
use Rattle.chord_lexer.specs.Scanning.{lead_of, single_mark, pair_mark, pair_mark_of, pair_after, Begins}
use Rattle.chord_lexer.proofs.Leads.{leads_to, only_mark, mark_told}

-- A mark has one byte or two, and the tables know it.
pub data Sized (mark : Mark) : Type 0 where
  one : (a : ℕ) → mark_bytes mark ≡ a ∷ [] → single_mark a ≡ Some mark → Sized mark
  two : (a b : ℕ) → mark_bytes mark ≡ a ∷ b ∷ [] → pair_mark a b ≡ Some mark → Sized mark

-- a mark has one byte or two
pub sized : (mark : Mark) → Sized mark
sized marks.OpenBrace = one 123 refl refl
sized marks.CloseBrace = one 125 refl refl
sized marks.OpenParenthesis = one 40 refl refl
sized marks.CloseParenthesis = one 41 refl refl
sized marks.Semicolon = one 59 refl refl
sized marks.Comma = one 44 refl refl
sized marks.Dot = one 46 refl refl
sized marks.Colon = one 58 refl refl
sized marks.Assign = one 61 refl refl
sized marks.Equal = two 61 61 refl refl
sized marks.NotEqual = two 33 61 refl refl
sized marks.Less = one 60 refl refl
sized marks.Greater = one 62 refl refl
sized marks.LessOrEqual = two 60 61 refl refl
sized marks.GreaterOrEqual = two 62 61 refl refl
sized marks.Plus = one 43 refl refl
sized marks.Minus = one 45 refl refl
sized marks.Times = one 42 refl refl
sized marks.Divide = one 47 refl refl
sized marks.Remainder = one 37 refl refl
sized marks.Not = one 33 refl refl
sized marks.And = two 38 38 refl refl
sized marks.Or = two 124 124 refl refl
sized marks.Ampersand = one 38 refl refl
sized marks.Increment = two 43 43 refl refl
sized marks.Decrement = two 45 45 refl refl

-- where both ways give none, so does the choice
no_mark_either : (t : Bool) (x : Option Mark) → x ≡ None → cond t None x ≡ None
no_mark_either true x e = refl
no_mark_either false x e = e

-- a test of the first byte and then of the second is a test of both, where another first byte goes on
one_test : (t u : Bool) (m x y : Option Mark) → (t ≡ true → y ≡ None) → x ≡ y → cond t (cond u m None) x ≡ cond (t && u) m y
one_test true true m x y f e = refl
one_test true false m x y f e = sym (f refl)
one_test false u m x y f e = e

-- the mark of two bytes is that by the first one and then by the second
pub pair_by_first : (text : List ℕ) → pair_after (slice_index text 0) text ≡ pair_mark_of text
pair_by_first [] = refl
pair_by_first (a ∷ []) =
    no_mark_either (nat_eq a 61) _ (
    no_mark_either (nat_eq a 33) _ (
    no_mark_either (nat_eq a 60) _ (
    no_mark_either (nat_eq a 62) _ (
    no_mark_either (nat_eq a 38) _ (
    no_mark_either (nat_eq a 124) _ (
    no_mark_either (nat_eq a 43) _ (
    no_mark_either (nat_eq a 45) _ refl)))))))
pair_by_first (a ∷ b ∷ text) =
    let is = λ (n : ℕ) (t : nat_eq a n ≡ true). eqb-true a n t in
    one_test (nat_eq a 61) (nat_eq b 61) _ _ _ (λ t. rw (is 61 t) refl) (
    one_test (nat_eq a 33) (nat_eq b 61) _ _ _ (λ t. rw (is 33 t) refl) (
    one_test (nat_eq a 60) (nat_eq b 61) _ _ _ (λ t. rw (is 60 t) refl) (
    one_test (nat_eq a 62) (nat_eq b 61) _ _ _ (λ t. rw (is 62 t) refl) (
    one_test (nat_eq a 38) (nat_eq b 38) _ _ _ (λ t. rw (is 38 t) refl) (
    one_test (nat_eq a 124) (nat_eq b 124) _ _ _ (λ t. rw (is 124 t) refl) (
    one_test (nat_eq a 43) (nat_eq b 43) _ _ _ (λ t. rw (is 43 t) refl) (
    one_test (nat_eq a 45) (nat_eq b 45) _ _ _ (λ t. refl) refl)))))))

-- a mark at the front of a text: of one byte or two
pub at_front : (text : List ℕ) → lead_of text ≡ leads.Mark → (q : Piece) (v more : List ℕ) → v ++ more ≡ text → IsPiece q v more
    → ((mark : Mark) × (b : ℕ) × (bs : List ℕ) × (text ≡ b ∷ bs) × (single_mark b ≡ Some mark) × (length v ≡ 1)) ⊎ ((mark : Mark) × (pair_mark_of text ≡ Some mark) × (length v ≡ 2))
at_front text h q v more e k =
    let m = only_mark q v more (leads_to text leads.Mark h q v more e k) k in
    elim (sized m.0) [
      | one a s t ↦ let f : v ≡ a ∷ [] = m.1 ∙ s in inl (m.0, a, more, sym e ∙ ap (λ z. z ++ more) f, t, ap length f)
      | two a b s t ↦ let f : v ≡ a ∷ b ∷ [] = m.1 ∙ s in inr (m.0, ap pair_mark_of (sym e ∙ ap (λ z. z ++ more) f) ∙ t, ap length f)
    ]

-- where a mark may begin, a piece at the front has at most two bytes
most_two : (text : List ℕ) → lead_of text ≡ leads.Mark → (q : Piece) (v more : List ℕ) → v ++ more ≡ text → IsPiece q v more → length v ≤ 2
most_two text h q v more e k = elim (at_front text h q v more e k) [ inl m ↦ let l : length v ≡ 1 = m.5 in omega arith | inr m ↦ let l : length v ≡ 2 = m.2 in omega arith ]

-- where a mark may begin and none of two bytes does, a piece at the front has at most one byte
most_one : (text : List ℕ) → lead_of text ≡ leads.Mark → pair_mark_of text ≡ None → (q : Piece) (v more : List ℕ) → v ++ more ≡ text → IsPiece q v more → length v ≤ 1
most_one text h n q v more e k = elim (at_front text h q v more e k) [ inl m ↦ let l : length v ≡ 1 = m.5 in omega arith | inr m ↦ let f = sym n ∙ m.1 in cc ]

-- a mark that is spelled by the first n bytes, where nothing is longer
begins : (text : List ℕ) (mark : Mark) (n : ℕ) → lead_of text ≡ leads.Mark → n ≤ length text → take n text ≡ mark_bytes mark → ((q : Piece) (v more : List ℕ) → v ++ more ≡ text → IsPiece q v more → length v ≤ n) → Begins text (pieces.Token (kinds.Mark mark)) n
begins text mark n h l s most =
    let whole = take-append-drop n text in
    let long = length-take-le n text l in
    record {
      within = l;
      longest = record {
        is = (s, subst (λ z. begins_comment z ≡ false) (sym whole) (mark_told text h));
        most = λ q v more e k. let f = most q v more (e ∙ whole) k in omega arith;
      };
    }

-- a mark of two bytes begins the text
pub pair_begins : (text : List ℕ) (mark : Mark) → lead_of text ≡ leads.Mark → pair_mark_of text ≡ Some mark → mark_bytes mark ≡ take 2 text → Begins text (pieces.Token (kinds.Mark mark)) 2
pair_begins [] mark h p s = cc
pair_begins (a ∷ []) mark h p s = cc
pair_begins (a ∷ b ∷ text) mark h p s = begins (a ∷ b ∷ text) mark 2 h (omega arith) (sym s) (most_two (a ∷ b ∷ text) h)

-- a mark of one byte begins the text, where none of two does
pub single_begins : (text : List ℕ) (mark : Mark) (b : ℕ) → 0 < length text → lead_of text ≡ leads.Mark → pair_mark_of text ≡ None → b ≡ get_or text 0 0 → mark_bytes mark ≡ b ∷ [] → Begins text (pieces.Token (kinds.Mark mark)) 1
single_begins [] mark b l h n i s = absurd (omega arith)
single_begins (a ∷ text) mark b l h n i s = begins (a ∷ text) mark 1 h (omega arith) (ap (λ z. z ∷ []) (sym i) ∙ sym s) (most_one (a ∷ text) h n)

-- where no mark stands, nothing begins the text
pub no_mark : (text : List ℕ) (b : ℕ) → 0 < length text → lead_of text ≡ leads.Mark → pair_mark_of text ≡ None → b ≡ get_or text 0 0 → single_mark b ≡ None → IsNone text
no_mark [] b l h n i s q v more e k = absurd (omega arith)
no_mark (a ∷ text) b l h n i s q v more e k = elim (at_front (a ∷ text) h q v more e k) [
  | inl m ↦ let same : a ∷ text ≡ m.1 ∷ m.2 = m.3 in let f : b ≡ m.1 = i ∙ cc in let g : single_mark b ≡ Some m.0 = ap single_mark f ∙ m.4 in let x = sym s ∙ g in cc
  | inr m ↦ let f = sym n ∙ m.1 in cc
]
