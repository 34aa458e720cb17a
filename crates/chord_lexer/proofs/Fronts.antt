-- Each text begins with a longest piece, or nothing begins it. So each source reads as tokens, or is refused at a byte.
use Rattle.std.proofs.Common.{◌≡◌, ℕ, zero, suc, ◌+◌, ◌-◌, ◌<◌, ◌≤◌, Bool, true, false, ◌&&◌, cond, List, [], ◌∷◌, length, take, drop, get_or, refl, sym, ap, ◌∙◌, arith, length-drop, inl, inr, ◌⊎◌, Option, Some, None}
use Rattle.std.specs.Prelude.{nat_eq}
use Rattle.std.proofs.lemmas.Bool.{cases_lt, cases_Bool}
use Rattle.std.proofs.lemmas.Bool.Decides.{eqb_tells}
use Rattle.std.proofs.lemmas.Str.{IsUtf8-from_is_utf8, is_utf8-from_IsUtf8}
use Rattle.std.specs.Prelude.{IsUtf8}
use Rattle.std.specs.Str.{is_utf8}
use Rattle.chord_lexer.specs.declared.token.Token.{Token}
use Rattle.chord_lexer.specs.declared.token.Mark.{Mark}
use Rattle.chord_lexer.specs.declared.token.Mark.TheVariants as marks
use Rattle.chord_lexer.specs.declared.piece.Piece.{Piece}
use Rattle.chord_lexer.specs.declared.piece.Piece.TheVariants as pieces
use Rattle.chord_lexer.specs.declared.scan.Lead.{Lead}
use Rattle.chord_lexer.specs.declared.scan.Lead.TheVariants as leads
use Rattle.chord_lexer.specs.Letters.{is_digit, is_identifier_byte, first_passes, IsMaximalRun}
use Rattle.chord_lexer.specs.Identifiers.{keyword_of}
use Rattle.chord_lexer.specs.Numbers.{value_after}
use Rattle.chord_lexer.specs.Literals.{is_plain, escaped}
use Rattle.chord_lexer.specs.Comments.{is_in_line, IsUnclosed}
use Rattle.chord_lexer.specs.Marks.{mark_bytes}
use Rattle.chord_lexer.specs.Pieces.{IsNone}
use Rattle.chord_lexer.specs.Reading.{after_byte_order_mark, Chain, none, IsRead, IsRefused}
use Rattle.chord_lexer.specs.Scanning.{lead_of, Begins, IsBody, IsQuoted, IsUnquoted, IsClosedAt, IsExtent, IsUndelimited, single_mark, pair_mark_of}
use Rattle.chord_lexer.proofs.Runs.{drop_first}
use Rattle.chord_lexer.proofs.Leads.{blank_begins}
use Rattle.chord_lexer.proofs.Identifying.{reserved_begins, name_begins, no_word}
use Rattle.chord_lexer.proofs.Numbering.{number_begins, followed, too_large}
use Rattle.chord_lexer.proofs.Quoting.{no_body, body_byte, body_pair, unquoted_end, unquoted_byte, unquoted_escape, literal_begins, body_not_utf8, not_quoted}
use Rattle.chord_lexer.proofs.Commenting.{IsPassed, passed_none, passed_more, passed_all, closed_here, line_extent, block_extent, never_closed, comment_begins, not_utf8, not_delimited}
use Rattle.chord_lexer.proofs.Marking.{pair_begins, single_begins, no_mark}
use Rattle.chord_lexer.proofs.Chains.{some_byte, all_read, grown_by, refused_at}

-- an option is something or nothing
told_option : {A : Type 0} (o : Option A) → ((a : A) × (o ≡ Some a)) ⊎ (o ≡ None)
told_option None = inr refl
told_option (Some a) = inl (a, refl)

-- two numbers are equal or not
equal_or_not : (a b : ℕ) → (a ≡ b) ⊎ (a ≡ b → ⊥)
equal_or_not a b = elim (eqb_tells a b) [ inl h ↦ inl h.1 | inr h ↦ inr h.1 ]

-- bytes are UTF-8 or not
utf8_or_not : (bs : List ℕ) → IsUtf8 bs ⊎ (IsUtf8 bs → ⊥)
utf8_or_not bs = elim (cases_Bool (is_utf8 bs)) [
  | inl h ↦ inl (IsUtf8-from_is_utf8 bs h)
  | inr h ↦ inr (λ u. let e = sym (is_utf8-from_IsUtf8 bs u) ∙ h in cc)
]

-- the whole run of bytes that pass a test, at the front of a text
record WholeRun (test : ℕ → Bool) (text : List ℕ) : Type 0 where
  pub size : ℕ
  pub within : size ≤ length text
  pub run : IsMaximalRun test (take size text) (drop size text)

-- a byte that passes, before a whole run
run_before : (test : ℕ → Bool) (b : ℕ) (bs : List ℕ) → test b ≡ true → WholeRun test bs → WholeRun test (b ∷ bs)
run_before test b bs h r = record {
  size = suc r.size;
  within = let w = r.within in omega arith;
  run = (rw h r.run.0, r.run.1);
}

-- a text has a whole run at its front
whole_run : (test : ℕ → Bool) (text : List ℕ) → WholeRun test text
whole_run test [] = record { size = 0; within = omega arith; run = (refl, refl) }
whole_run test (b ∷ bs) = elim (cases_Bool (test b)) [
  | inl h ↦ run_before test b bs h (whole_run test bs)
  | inr h ↦ record { size = 0; within = omega arith; run = (refl, h) }
]

-- a longest piece begins the text
record Front (text : List ℕ) : Type 0 where
  pub piece : Piece
  pub size : ℕ
  pub begins : Begins text piece size

-- a longest piece begins the text, or nothing does
abbrev IsDecided : List ℕ → Type 0
IsDecided text = Front text ⊎ IsNone text

-- the token of n bytes begins the text
found : (text : List ℕ) (p : Piece) (n : ℕ) → Begins text p n → IsDecided text
found text p n b = inl (record { piece = p; size = n; begins = b })

-- where a letter leads, an identifier begins, or nothing does
word_told : (text : List ℕ) → lead_of text ≡ leads.Letter → IsDecided text
word_told text h =
    let r = whole_run is_identifier_byte text in
    elim (cases_lt 255 r.size) [
      | inl l ↦ inr (no_word text r.size h r.within r.run l)
      | inr l ↦ elim (told_option (keyword_of (take r.size text))) [
        | inl k ↦ found text _ r.size (reserved_begins text r.size k.0 h r.within r.run l k.1)
        | inr k ↦ found text _ r.size (name_begins text r.size (take r.size text) h r.within r.run l k refl)
      ]
    ]

-- where a digit leads, a number begins, or nothing does
number_told : (text : List ℕ) → lead_of text ≡ leads.Digit → IsDecided text
number_told text h =
    let r = whole_run is_digit text in
    elim (cases_Bool (first_passes is_identifier_byte (drop r.size text))) [
      | inl f ↦ inr (followed text r.size h r.run f)
      | inr f ↦ elim (cases_lt 2147483648 (value_after 0 (take r.size text))) [
        | inl l ↦ inr (too_large text r.size h r.run l)
        | inr l ↦ found text _ r.size (number_begins text r.size (value_after 0 (take r.size text)) h r.within r.run f refl l)
      ]
    ]

-- a body of a literal and its quote begin the text
record Quoted (text : List ℕ) : Type 0 where
  pub size : ℕ
  pub within : size < length text
  pub is : IsQuoted text size

-- from a body on a text goes on to its quote, or there is none
quote_from : (fuel : ℕ) (text : List ℕ) (at : ℕ) → length text ≤ at + fuel → IsBody (take at text) → Quoted text ⊎ IsUnquoted text
quote_from zero text at l h = inr (unquoted_end text at (omega arith) h)
quote_from (suc fuel) text at l h = elim (cases_lt at (length text)) [
  | inr m ↦ inr (unquoted_end text at m h)
  | inl m ↦ elim (cases_Bool (is_plain (get_or text at 0))) [
    | inl p ↦ quote_from fuel text (at + 1) (omega arith) (_, body_byte text at h.0 m p h.1)
    | inr p ↦ elim (equal_or_not (get_or text at 0) 34) [
      | inl q ↦ inl (record { size = at; within = m; is = (h, (drop (at + 1) text, drop_first at text m ∙ ap (λ z. z ∷ drop (at + 1) text) q)) })
      | inr q ↦ elim (equal_or_not (get_or text at 0) 92) [
        | inr b ↦ inr (unquoted_byte text at m p q b h)
        | inl b ↦ elim (cases_lt (at + 1) (length text)) [
          | inr n ↦ inr (unquoted_escape text at m b (λ o. absurd (omega (arith, n, o))) h)
          | inl n ↦ elim (told_option (escaped (get_or text (at + 1) 0))) [
            | inl e ↦ quote_from fuel text (at + 2) (omega arith) (_, body_pair text at e.0 h.0 n b e.1 h.1)
            | inr e ↦ inr (unquoted_escape text at m b (λ o. e) h)
          ]
        ]
      ]
    ]
  ]
]

-- where a quote leads, a literal begins, or nothing does
literal_told : (text : List ℕ) → lead_of text ≡ leads.Quote → IsDecided text
literal_told text h = elim (quote_from (length (drop 1 text)) (drop 1 text) 0 (omega arith) no_body) [
  | inr n ↦ inr (not_quoted text (drop 1 text) h refl n)
  | inl q ↦ elim (utf8_or_not (take q.size (drop 1 text))) [
    | inr u ↦ inr (body_not_utf8 text (drop 1 text) q.size h refl q.is u)
    | inl u ↦ found text _ (q.size + 2) (literal_begins text (drop 1 text) q.size q.is.0.0 q.is.0.0 h refl q.within q.is u q.is.0.1 refl)
  ]
]

-- the first `*/` of a text
record Closed (text : List ℕ) : Type 0 where
  pub size : ℕ
  pub within : size + 2 ≤ length text
  pub is : IsClosedAt text size

-- past the places where none ends, `*/` ends somewhere, or nowhere
close_from : (fuel : ℕ) (text : List ℕ) (at : ℕ) → 1 ≤ at → length text ≤ at + fuel → IsPassed text at → Closed text ⊎ IsUnclosed text
close_from zero text at m l h = inr (passed_all text at (omega arith) h)
close_from (suc fuel) text at m l h = elim (cases_lt at (length text)) [
  | inr n ↦ inr (passed_all text at n h)
  | inl n ↦ elim (equal_or_not (get_or text (at - 1) 0) 42) [
    | inr a ↦ close_from fuel text (at + 1) (omega arith) (omega arith) (passed_more text at m h (λ x y. a x))
    | inl a ↦ elim (equal_or_not (get_or text at 0) 47) [
      | inr b ↦ close_from fuel text (at + 1) (omega arith) (omega arith) (passed_more text at m h (λ x y. b y))
      | inl b ↦ inl (record { size = at - 1; within = omega (arith, m, n); is = closed_here text at m n a b h })
    ]
  ]
]

-- what stands where a comment stands
record Extent (text : List ℕ) : Type 0 where
  pub size : ℕ
  pub is : IsExtent text size

-- where a comment leads, one is delimited, or none is
extent_told : (text : List ℕ) → lead_of text ≡ leads.Comment → Extent text ⊎ IsUndelimited text
extent_told text h = elim (equal_or_not (get_or text 1 0) 47) [
  | inl e ↦ let r = whole_run is_in_line (drop 2 text) in inl (record { size = r.size + 2; is = line_extent text (drop 2 text) r.size h e refl r.within r.run })
  | inr e ↦ elim (close_from (length (drop 2 text)) (drop 2 text) 1 (omega arith) (omega arith) (passed_none (drop 2 text))) [
    | inl c ↦ inl (record { size = c.size + 4; is = block_extent text (drop 2 text) c.size h e refl c.within c.is })
    | inr n ↦ inr (never_closed text h e (drop 2 text) refl n)
  ]
]

-- where a comment leads, one begins, or nothing does
comment_told : (text : List ℕ) → lead_of text ≡ leads.Comment → IsDecided text
comment_told text h = elim (extent_told text h) [
  | inr n ↦ inr (not_delimited text h n)
  | inl x ↦ elim (utf8_or_not (take x.size text)) [
    | inl u ↦ found text pieces.Comment x.size (comment_begins text x.size h x.is u)
    | inr u ↦ inr (not_utf8 text x.size h x.is u)
  ]
]

-- what the first entry of a table of bytes has, whose byte it is
abbrev entry_of : List (ℕ × Mark) → ℕ → Option Mark
entry_of [] b = None
entry_of (entry ∷ entries) b = cond (nat_eq b entry.0) (Some entry.1) (entry_of entries b)

-- each entry of the table has the mark that its byte is
abbrev AreSpelled : List (ℕ × Mark) → Type 0
AreSpelled [] = Unit {0}
AreSpelled (entry ∷ entries) = (mark_bytes entry.1 ≡ entry.0 ∷ []) × AreSpelled entries

-- what a table of bytes has for a byte is written as that byte
entry_spelled : (entries : List (ℕ × Mark)) → AreSpelled entries → (b : ℕ) (mark : Mark) → entry_of entries b ≡ Some mark → mark_bytes mark ≡ b ∷ []
entry_spelled [] s b mark e = cc
entry_spelled (entry ∷ entries) s b mark e = elim (eqb_tells b entry.0) [
  | inl t ↦ let f : Some entry.1 ≡ Some mark = sym (ap (λ z. cond z (Some entry.1) (entry_of entries b)) t.0) ∙ e in let m : entry.1 ≡ mark = cc in sym (ap mark_bytes m) ∙ s.0 ∙ ap (λ z. z ∷ []) (sym t.1)
  | inr t ↦ entry_spelled entries s.1 b mark (sym (ap (λ z. cond z (Some entry.1) (entry_of entries b)) t.0) ∙ e)
]

-- the marks of one byte
abbrev single_marks : List (ℕ × Mark)
single_marks =
    (0x7B, marks.OpenBrace) ∷ (0x7D, marks.CloseBrace) ∷ (0x28, marks.OpenParenthesis) ∷ (0x29, marks.CloseParenthesis) ∷ (0x3B, marks.Semicolon) ∷ (0x2C, marks.Comma)
    ∷ (0x2E, marks.Dot) ∷ (0x3A, marks.Colon) ∷ (0x3D, marks.Assign) ∷ (0x3C, marks.Less) ∷ (0x3E, marks.Greater) ∷ (0x2B, marks.Plus) ∷ (0x2D, marks.Minus)
    ∷ (0x2A, marks.Times) ∷ (0x2F, marks.Divide) ∷ (0x25, marks.Remainder) ∷ (0x21, marks.Not) ∷ (0x26, marks.Ampersand) ∷ []

-- the mark of a byte is written as that byte
single_spelled : (b : ℕ) (mark : Mark) → single_mark b ≡ Some mark → mark_bytes mark ≡ b ∷ []
single_spelled b mark e = entry_spelled single_marks (refl, (refl, (refl, (refl, (refl, (refl, (refl, (refl, (refl, (refl, (refl, (refl, (refl, (refl, (refl, (refl, (refl, (refl, tt)))))))))))))))))) b mark e

-- what the first entry of a table of pairs of bytes has, whose bytes they are
abbrev pair_entry_of : List (ℕ × ℕ × Mark) → ℕ → ℕ → Option Mark
pair_entry_of [] a b = None
pair_entry_of (entry ∷ entries) a b = cond (nat_eq a entry.0 && nat_eq b entry.1) (Some entry.2) (pair_entry_of entries a b)

-- each entry of the table has the mark that its bytes are
abbrev AllSpelled : List (ℕ × ℕ × Mark) → Type 0
AllSpelled [] = Unit {0}
AllSpelled (entry ∷ entries) = (mark_bytes entry.2 ≡ entry.0 ∷ entry.1 ∷ []) × AllSpelled entries

-- two numbers are those of an entry, or the test says no
both_told : (a b x y : ℕ) → ((nat_eq a x && nat_eq b y ≡ true) × (a ≡ x) × (b ≡ y)) ⊎ (nat_eq a x && nat_eq b y ≡ false)
both_told a b x y = elim (eqb_tells a x) [
  | inr s ↦ inr (ap (λ z. z && nat_eq b y) s.0)
  | inl s ↦ elim (eqb_tells b y) [
    | inr t ↦ inr (ap (λ z. z && nat_eq b y) s.0 ∙ t.0)
    | inl t ↦ inl (ap (λ z. z && nat_eq b y) s.0 ∙ t.0, s.1, t.1)
  ]
]

-- what a table of pairs has for two bytes is written as those bytes
pair_entry_spelled : (entries : List (ℕ × ℕ × Mark)) → AllSpelled entries → (a b : ℕ) (mark : Mark) → pair_entry_of entries a b ≡ Some mark → mark_bytes mark ≡ a ∷ b ∷ []
pair_entry_spelled [] s a b mark e = cc
pair_entry_spelled (entry ∷ entries) s a b mark e = elim (both_told a b entry.0 entry.1) [
  | inl t ↦ let f : Some entry.2 ≡ Some mark = sym (ap (λ z. cond z (Some entry.2) (pair_entry_of entries a b)) t.0) ∙ e in let m : entry.2 ≡ mark = cc in sym (ap mark_bytes m) ∙ s.0 ∙ ap (λ z. z ∷ entry.1 ∷ []) (sym t.1) ∙ ap (λ z. a ∷ z ∷ []) (sym t.2)
  | inr t ↦ pair_entry_spelled entries s.1 a b mark (sym (ap (λ z. cond z (Some entry.2) (pair_entry_of entries a b)) t) ∙ e)
]

-- the marks of two bytes
abbrev pair_marks : List (ℕ × ℕ × Mark)
pair_marks =
    (0x3D, 0x3D, marks.Equal) ∷ (0x21, 0x3D, marks.NotEqual) ∷ (0x3C, 0x3D, marks.LessOrEqual) ∷ (0x3E, 0x3D, marks.GreaterOrEqual)
    ∷ (0x26, 0x26, marks.And) ∷ (0x7C, 0x7C, marks.Or) ∷ (0x2B, 0x2B, marks.Increment) ∷ (0x2D, 0x2D, marks.Decrement) ∷ []

-- the mark of the first two bytes is written as those bytes
pub pair_spelled : (text : List ℕ) (mark : Mark) → pair_mark_of text ≡ Some mark → mark_bytes mark ≡ take 2 text
pair_spelled [] mark e = cc
pair_spelled (a ∷ []) mark e = cc
pair_spelled (a ∷ b ∷ text) mark e = pair_entry_spelled pair_marks (refl, (refl, (refl, (refl, (refl, (refl, (refl, (refl, tt)))))))) a b mark e

-- where nothing else leads, a mark begins, or nothing does
mark_told : (text : List ℕ) → 0 < length text → lead_of text ≡ leads.Mark → IsDecided text
mark_told text l h = elim (told_option (pair_mark_of text)) [
  | inl p ↦ found text _ 2 (pair_begins text p.0 h p.1 (pair_spelled text p.0 p.1))
  | inr p ↦ elim (told_option (single_mark (get_or text 0 0))) [
    | inl s ↦ found text _ 1 (single_begins text s.0 (get_or text 0 0) l h p refl (single_spelled (get_or text 0 0) s.0 s.1))
    | inr s ↦ inr (no_mark text (get_or text 0 0) l h p refl s)
  ]
]

-- whatever leads, a longest piece begins the text, or nothing does
by_lead : (text : List ℕ) (lead : Lead) → 0 < length text → lead_of text ≡ lead → IsDecided text
by_lead text leads.Digit l h = number_told text h
by_lead text leads.Letter l h = word_told text h
by_lead text leads.Blank l h = found text pieces.Blank 1 (blank_begins text l h)
by_lead text leads.Quote l h = literal_told text h
by_lead text leads.Comment l h = comment_told text h
by_lead text leads.Mark l h = mark_told text l h

-- a longest piece begins a text that is not empty, or nothing does
front_told : (text : List ℕ) → 0 < length text → IsDecided text
front_told text l = by_lead text (lead_of text) l refl

-- the source is read, or refused at a byte
abbrev IsReadOrRefused : List ℕ → Type 0
IsReadOrRefused source = ((tokens : List Token) × IsRead source tokens) ⊎ ((k : ℕ) × IsRefused source k)

-- a chain of pieces goes on to the end of the source, or to a byte at which nothing begins
read_from : (fuel : ℕ) (source : List ℕ) (tokens : List Token) (left : List ℕ) → length left ≤ fuel → Chain 0 (after_byte_order_mark source) tokens left → IsReadOrRefused source
read_from zero source tokens left l c = inl (tokens, all_read (after_byte_order_mark source) tokens left c (omega arith))
read_from (suc fuel) source tokens left l c = elim (cases_lt 0 (length left)) [
  | inr m ↦ inl (tokens, all_read (after_byte_order_mark source) tokens left c (omega arith))
  | inl m ↦ elim (front_told left m) [
    | inr n ↦ inr (_, refused_at source (after_byte_order_mark source) tokens left refl c m n)
    | inl f ↦ read_from fuel source _ (drop f.size left) (let s = some_byte left f.piece f.size f.begins in let d = length-drop f.size left in omega arith) (grown_by (after_byte_order_mark source) tokens _ left f.piece f.size c f.begins refl)
  ]
]

-- Each source is read, or refused at a byte.
pub read_or_refused : (source : List ℕ) → ((tokens : List Token) × IsRead source tokens) ⊎ ((k : ℕ) × IsRefused source k)
read_or_refused source = read_from (length (after_byte_order_mark source)) source [] (after_byte_order_mark source) (omega arith) none
