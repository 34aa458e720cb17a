-- Literals: byte by byte and character by character a body stands for the same.
use Rattle.std.proofs.Common.{◌≡◌, ℕ, suc, ◌+◌, ◌<◌, ◌≤◌, Bool, true, false, List, [], ◌∷◌, ◌++◌, length, take, drop, get_or, refl, sym, ap, subst, ◌∙◌, arith, append_assoc, append-nil, drop_of_length-le, length-append, length-drop, inl, inr, Some, None}
use Rattle.std.proofs.lemmas.List.{take-append-drop}
use Rattle.std.proofs.lemmas.Bool.{cases_lt, ne_eqb}
use Rattle.std.proofs.lemmas.Bool.Decides.{eqb_tells}
use Rattle.std.proofs.lemmas.Str.{IsUtf8-append, IsUtf8-encode, IsUtf8-nil, inside_one, encode_ascii, char_from_byte, length-encode, len_utf8_bounds}
use lib.Utf8.{low_scalar, scalar}
use Rattle.std.specs.Prelude.{IsUtf8, encode_utf8, encode_utf8_all}
use Rattle.std.specs.Char.{IsScalar}
use Rattle.std.specs.Str.{all_scalars}
use Rattle.chord_lexer.specs.declared.token.Kind.TheVariants as kinds
use Rattle.chord_lexer.specs.declared.piece.Piece.{Piece}
use Rattle.chord_lexer.specs.declared.piece.Piece.TheVariants as pieces
use Rattle.chord_lexer.specs.declared.scan.Lead.TheVariants as leads
use Rattle.chord_lexer.specs.Letters.{all_pass}
use Rattle.chord_lexer.specs.Literals.{is_plain, escaped, StandsFor, none, plain, escape}
use Rattle.chord_lexer.specs.Pieces.{IsPiece, IsNone}
use Rattle.chord_lexer.specs.Scanning.{lead_of, Begins, Bytewise, end, byte, pair, IsBody, IsQuoted, IsUnquoted}
use Rattle.chord_lexer.proofs.Runs.{and_left, and_right, and_both, take_plus, drop_first}
use Rattle.chord_lexer.proofs.Leads.{leads_to, only_literal, told}

-- a byte that stands for itself is none of `"`, `\`, 0D and 0A
not_plain : (b : ℕ) → is_plain b ≡ true → (b ≡ 34 → ⊥) × (b ≡ 92 → ⊥) × (b ≡ 13 → ⊥) × (b ≡ 10 → ⊥)
not_plain b h = (
  (λ e. let f : is_plain 34 ≡ true = subst (λ z. is_plain z ≡ true) e h in cc),
  (λ e. let f : is_plain 92 ≡ true = subst (λ z. is_plain z ≡ true) e h in cc),
  (λ e. let f : is_plain 13 ≡ true = subst (λ z. is_plain z ≡ true) e h in cc),
  (λ e. let f : is_plain 10 ≡ true = subst (λ z. is_plain z ≡ true) e h in cc),
)

-- a byte that is none of `"`, `\`, 0D and 0A stands for itself
plain_if : (b : ℕ) → (b ≡ 34 → ⊥) → (b ≡ 92 → ⊥) → (b ≡ 13 → ⊥) → (b ≡ 10 → ⊥) → is_plain b ≡ true
plain_if b p q r s = rw (ne_eqb b 34 p, ne_eqb b 92 q, ne_eqb b 13 r, ne_eqb b 10 s) refl

-- from 128 on a byte is part of a character that stands for itself
high_plain : (b : ℕ) → 128 ≤ b → is_plain b ≡ true
high_plain b h = plain_if b (λ e. absurd (omega arith)) (λ e. absurd (omega arith)) (λ e. absurd (omega arith)) (λ e. absurd (omega arith))

-- the second byte of an escape is ASCII
pub escaped_low : (b m : ℕ) → escaped b ≡ Some m → b < 128
escaped_low b m h =
    elim (eqb_tells b 34) [
      | inl e ↦ let i = e.1 in omega arith
      | inr e ↦
          elim (eqb_tells b 92) [
            | inl f ↦ let i = f.1 in omega arith
            | inr f ↦
                elim (eqb_tells b 110) [
                  | inl g ↦ let i = g.1 in omega arith
                  | inr g ↦
                      elim (eqb_tells b 116) [
                        | inl j ↦ let i = j.1 in omega arith
                        | inr j ↦
                            elim (eqb_tells b 114) [
                              | inl k ↦ let i = k.1 in omega arith
                              | inr k ↦
                                  let x : escaped b ≡ None = rw (e.0, f.0, g.0, j.0, k.0) refl in let y = sym x ∙ h in cc
                            ]
                      ]
                ]
          ]
    ]

-- one body after another
pub bytewise_append : {u bs : List ℕ} → Bytewise u bs → {v cs : List ℕ} → Bytewise v cs → Bytewise (u ++ v) (bs ++ cs)
bytewise_append end k = k
bytewise_append (byte p h) k = byte p (bytewise_append h k)
bytewise_append (pair e h) k = pair e (bytewise_append h k)

-- Two bodies at the front of one text: the one with a quote after it goes on where the other stops.
pub record GoesOn (u v x y : List ℕ) : Type 0 where
  pub tail : List ℕ
  pub meaning : List ℕ
  pub is : v ≡ u ++ tail
  pub left : x ≡ tail ++ 34 ∷ y
  pub body : Bytewise tail meaning

-- of two bodies at the front of one text, the one with a quote after it goes on where the other stops
goes_on : {u bs : List ℕ} → Bytewise u bs → {v cs : List ℕ} → Bytewise v cs → (x y : List ℕ) → u ++ x ≡ v ++ 34 ∷ y → GoesOn u v x y
goes_on end {v} {cs} k x y e = record { tail = v; meaning = cs; is = refl; left = e; body = k }
goes_on (byte {b} p h) end x y e = let i : b ≡ 34 = cc in absurd ((not_plain b p).0 i)
goes_on (byte {b} {body = u} p h) (byte {b = c} {body = v} q k) x y e =
    let i : b ≡ c = cc in
    let t : u ++ x ≡ v ++ 34 ∷ y = cc in
    let r = goes_on h k x y t in
    record { tail = r.tail; meaning = r.meaning; is = let f = r.is in cc; left = r.left; body = r.body }
goes_on (byte {b} p h) (pair f k) x y e = let i : b ≡ 92 = cc in absurd ((not_plain b p).1 i)
goes_on (pair f h) end x y e = let i : ◌≡◌ {A = ℕ} 92 34 = cc in absurd (omega arith)
goes_on (pair f h) (byte {b = c} q k) x y e = let i : c ≡ 92 = cc in absurd ((not_plain c q).1 i)
goes_on (pair {b} {body = u} f h) (pair {b = c} {body = v} g k) x y e =
    let i : b ≡ c = cc in
    let t : u ++ x ≡ v ++ 34 ∷ y = cc in
    let r = goes_on h k x y t in
    record { tail = r.tail; meaning = r.meaning; is = let f = r.is in cc; left = r.left; body = r.body }

-- no body and quote begin with a quote unless the body is empty
at_quote : {v cs : List ℕ} → Bytewise v cs → (x y : List ℕ) → 34 ∷ x ≡ v ++ 34 ∷ y → v ≡ []
at_quote end x y e = refl
at_quote (byte {b} p h) x y e = let i : b ≡ 34 = cc in absurd ((not_plain b p).0 i)
at_quote (pair f h) x y e = let i : ◌≡◌ {A = ℕ} 34 92 = cc in absurd (omega arith)

-- Two bodies with quotes after them are one.
pub body_same : {u bs : List ℕ} → Bytewise u bs → {v cs : List ℕ} → Bytewise v cs → (x y : List ℕ) → u ++ 34 ∷ x ≡ v ++ 34 ∷ y → v ≡ u
body_same {u} h k x y e =
    let r = goes_on h k (34 ∷ x) y e in
    r.is ∙ ap (λ z. u ++ z) (at_quote r.body x y r.left) ∙ append-nil u

-- where a body so far cannot go on to a quote, there is none at all
pub stuck_after : {u bs : List ℕ} → Bytewise u bs → (x : List ℕ) → IsUnquoted x → IsUnquoted (u ++ x)
stuck_after h x n body cs y e k = let r = goes_on h k x y e in n r.tail r.meaning y r.left r.body

-- the end of the text is no body with a quote
pub stuck_end : IsUnquoted []
stuck_end body cs y e end = cc
stuck_end body cs y e (byte p h) = cc
stuck_end body cs y e (pair f h) = cc

-- a byte that cannot stand in a body ends it
pub stuck_byte : (b : ℕ) (x : List ℕ) → is_plain b ≡ false → (b ≡ 34 → ⊥) → (b ≡ 92 → ⊥) → IsUnquoted (b ∷ x)
stuck_byte b x p q r body cs y e end = let i : b ≡ 34 = cc in q i
stuck_byte b x p q r body cs y e (byte {b = c} h k) = let i : c ≡ b = cc in let f = sym h ∙ ap is_plain i ∙ p in cc
stuck_byte b x p q r body cs y e (pair f k) = let i : b ≡ 92 = cc in r i

-- a `\` without its letter ends the body
pub stuck_escape : (x : List ℕ) → ((b : ℕ) (rest : List ℕ) → x ≡ b ∷ rest → escaped b ≡ None) → IsUnquoted (92 ∷ x)
stuck_escape x h body cs y e end = let i : ◌≡◌ {A = ℕ} 92 34 = cc in absurd (omega arith)
stuck_escape x h body cs y e (byte {b = c} p k) = let i : c ≡ 92 = cc in absurd ((not_plain c p).1 i)
stuck_escape x h body cs y e (pair {b} {body = v} f k) = let i : x ≡ b ∷ (v ++ 34 ∷ y) = cc in let n = sym (h b (v ++ 34 ∷ y) i) ∙ f in cc

-- the same at a place of a text
stuck_at : (text : List ℕ) (at : ℕ) → IsBody (take at text) → IsUnquoted (drop at text) → IsUnquoted text
stuck_at text at h n = subst (λ z. IsUnquoted z) (take-append-drop at text) (stuck_after h.1 (drop at text) n)

-- a body up to the end has no quote
pub unquoted_end : (text : List ℕ) (at : ℕ) → length text ≤ at → IsBody (take at text) → IsUnquoted text
unquoted_end text at l h = stuck_at text at h (subst (λ z. IsUnquoted z) (sym (drop_of_length-le text l)) stuck_end)

-- a byte that cannot stand in a body leaves it without a quote
pub unquoted_byte : (text : List ℕ) (at : ℕ) → at < length text → is_plain (get_or text at 0) ≡ false → (get_or text at 0 ≡ 34 → ⊥) → (get_or text at 0 ≡ 92 → ⊥) → IsBody (take at text) → IsUnquoted text
unquoted_byte text at l p q r h = stuck_at text at h (subst (λ z. IsUnquoted z) (sym (drop_first at text l)) (stuck_byte (get_or text at 0) (drop (at + 1) text) p q r))

-- a wrong escape leaves the body without a quote
pub unquoted_escape : (text : List ℕ) (at : ℕ) → at < length text → get_or text at 0 ≡ 92 → (at + 1 < length text → escaped (get_or text (at + 1) 0) ≡ None) → IsBody (take at text) → IsUnquoted text
unquoted_escape text at l i n h =
    let d = drop_first at text l ∙ ap (λ z. z ∷ drop (at + 1) text) i in
    let s = stuck_escape (drop (at + 1) text) (λ b rest e.
    let m : at + 1 < length text = let f = sym (length-drop (at + 1) text) ∙ ap length e in omega arith in
    let j : get_or text (at + 1) 0 ∷ drop (at + 1 + 1) text ≡ b ∷ rest = sym (drop_first (at + 1) text m) ∙ e in
    let k : b ≡ get_or text (at + 1) 0 = cc in
    ap escaped k ∙ n m) in
    stuck_at text at h (subst (λ z. IsUnquoted z) (sym d) s)

-- the body ends before this quote
pub quoted_here : (text : List ℕ) (at : ℕ) → at < length text → get_or text at 0 ≡ 34 → IsBody (take at text) → IsQuoted text at
quoted_here text at l i h = (h, (drop (at + 1) text, drop_first at text l ∙ ap (λ z. z ∷ drop (at + 1) text) i))

-- the empty body, and one that grew by a byte or an escape
pub no_body : IsBody []
no_body = ([], end)

-- what a body begins with: an escape, or a byte that stands for itself
pub record Escape (x : List ℕ) : Type 0 where
  pub second : ℕ
  pub meaning : ℕ
  pub rest : List ℕ
  pub is : x ≡ second ∷ rest
  pub stands : escaped second ≡ Some meaning
  pub body : IsBody rest

-- a `\` and what follows it, where they stand for something byte by byte, are an escape and a body
escape_in : (w x bs : List ℕ) → w ≡ 92 ∷ x → Bytewise w bs → Escape x
escape_in w x bs e end = cc
escape_in w x bs e (byte {b} p h) = let i : b ≡ 92 = cc in absurd ((not_plain b p).1 i)
escape_in w x bs e (pair {b} {m} {body = v} {bytes = cs} f h) = record { second = b; meaning = m; rest = v; is = let g : x ≡ b ∷ v = cc in g; stands = f; body = (cs, h) }

-- a body that begins with `\` begins with an escape
pub escape_first : (x : List ℕ) → IsBody (92 ∷ x) → Escape x
escape_first x h = escape_in (92 ∷ x) x h.0 refl h.1

-- a byte that is no `\` and what follows it, where they stand for something byte by byte, are a byte that stands for itself and a body
plain_in : (w : List ℕ) (b : ℕ) (x bs : List ℕ) → w ≡ b ∷ x → (b ≡ 92 → ⊥) → Bytewise w bs → (is_plain b ≡ true) × IsBody x
plain_in w b x bs e n end = cc
plain_in w b x bs e n (byte {b = c} {body = v} {bytes = cs} p h) = let i : c ≡ b = cc in let t : v ≡ x = cc in (subst (λ z. is_plain z ≡ true) i p, subst (λ z. IsBody z) t (cs, h))
plain_in w b x bs e n (pair f h) = let i : b ≡ 92 = cc in absurd (n i)

-- a body that begins with another byte goes on after it
pub plain_first : (b : ℕ) (x : List ℕ) → (b ≡ 92 → ⊥) → IsBody (b ∷ x) → (is_plain b ≡ true) × IsBody x
plain_first b x n h = plain_in (b ∷ x) b x h.0 refl n h.1

-- a body up to a place grows by a byte, and by an escape
pub body_byte : (text : List ℕ) (at : ℕ) (bs : List ℕ) → at < length text → is_plain (get_or text at 0) ≡ true → Bytewise (take at text) bs → Bytewise (take (at + 1) text) (bs ++ get_or text at 0 ∷ [])
body_byte text at bs l p h =
    let e = take_plus at 1 text (omega arith) ∙ ap (λ z. take at text ++ take 1 z) (drop_first at text l) in
    subst (λ z. Bytewise z (bs ++ get_or text at 0 ∷ [])) (sym e) (bytewise_append h (byte p end))

-- a body with one escape more
pub body_pair : (text : List ℕ) (at m : ℕ) (bs : List ℕ) → at + 1 < length text → get_or text at 0 ≡ 92 → escaped (get_or text (at + 1) 0) ≡ Some m → Bytewise (take at text) bs → Bytewise (take (at + 2) text) (bs ++ m ∷ [])
body_pair text at m bs l p f h =
    let d = drop_first at text (omega arith) ∙ ap (λ z. z ∷ drop (at + 1) text) p ∙ ap (λ z. 92 ∷ z) (drop_first (at + 1) text l) in
    let e = take_plus at 2 text (omega arith) ∙ ap (λ z. take at text ++ take 2 z) d in
    subst (λ z. Bytewise z (bs ++ m ∷ [])) (sym e) (bytewise_append h (pair f end))

-- what is left of a body after a byte, and after an escape
pub left_byte : (text : List ℕ) (at : ℕ) → at < length text → (get_or text at 0 ≡ 92 → ⊥) → IsBody (drop at text) → (is_plain (get_or text at 0) ≡ true) × IsBody (drop (at + 1) text)
left_byte text at l n h = plain_first (get_or text at 0) (drop (at + 1) text) n (subst (λ z. IsBody z) (drop_first at text l) h)

-- an escape stands first in what is left of a body
pub record LeftPair (text : List ℕ) (at : ℕ) : Type 0 where
  pub meaning : ℕ
  pub more : at + 1 < length text
  pub stands : escaped (get_or text (at + 1) 0) ≡ Some meaning
  pub body : IsBody (drop (at + 2) text)

-- what is left of a body from a `\` on begins with an escape
pub left_pair : (text : List ℕ) (at : ℕ) → at < length text → get_or text at 0 ≡ 92 → IsBody (drop at text) → LeftPair text at
left_pair text at l i h =
    let e = escape_first (drop (at + 1) text) (subst (λ z. IsBody z) (drop_first at text l ∙ ap (λ z. z ∷ drop (at + 1) text) i) h) in
    let m : at + 1 < length text = let f = sym (length-drop (at + 1) text) ∙ ap length e.is in omega arith in
    let d = drop_first (at + 1) text m in
    let a : at + 1 + 1 ≡ at + 2 = omega arith in
    let g : get_or text (at + 1) 0 ∷ drop (at + 1 + 1) text ≡ e.second ∷ e.rest = sym d ∙ e.is in
    let j : get_or text (at + 1) 0 ≡ e.second = cc in
    let k : drop (at + 1 + 1) text ≡ e.rest = cc in
    record { meaning = e.meaning; more = m; stands = ap escaped j ∙ e.stands; body = subst (λ z. IsBody z) (sym k ∙ ap (λ z. drop z text) a) e.body }

-- A character that stands for itself has only bytes that do.
encode_byte : (c k : ℕ) → is_plain c ≡ true → k < length (encode_utf8 c) → is_plain (get_or (encode_utf8 c) k 0) ≡ true
encode_byte c k p l = elim (cases_lt (get_or (encode_utf8 c) k 0) 128) [
  | inl low ↦ subst (λ z. is_plain z ≡ true) (inside_one c [] (encode_utf8 c) k (sym (append-nil (encode_utf8 c))) l low) p
  | inr high ↦ high_plain (get_or (encode_utf8 c) k 0) high
]

-- where the byte at each place passes a test, all bytes pass it
all_from_each : (test : ℕ → Bool) (xs : List ℕ) → ((k : ℕ) → k < length xs → test (get_or xs k 0) ≡ true) → all_pass test xs ≡ true
all_from_each test [] h = refl
all_from_each test (x ∷ xs) h = and_both _ _ (h 0 (omega arith)) (all_from_each test xs (λ k l. h (suc k) (omega arith)))

-- all bytes of a character that stands for itself stand for themselves
encode_plain : (c : ℕ) → is_plain c ≡ true → all_pass is_plain (encode_utf8 c) ≡ true
encode_plain c p = all_from_each is_plain (encode_utf8 c) (λ k l. encode_byte c k p l)

-- bytes that stand for themselves, and a body after them, stand for those bytes and what the body stands for
plain_bytes : (u : List ℕ) {v bs : List ℕ} → all_pass is_plain u ≡ true → Bytewise v bs → Bytewise (u ++ v) (u ++ bs)
plain_bytes [] p h = h
plain_bytes (b ∷ u) p h = byte (and_left _ _ p) (plain_bytes u (and_right (is_plain b) _ p) h)

-- What stands for bytes does so byte by byte, and is UTF-8.
pub bytewise_of : {body bs : List ℕ} → StandsFor body bs → Bytewise body bs
bytewise_of none = end
bytewise_of (plain c s p h) = plain_bytes (encode_utf8 c) (encode_plain c p) (bytewise_of h)
bytewise_of (escape e h) = pair e (bytewise_of h)

-- a byte below 128 is UTF-8
one_ascii : (a : ℕ) → a < 128 → IsUtf8 (a ∷ [])
one_ascii a l = (a ∷ [], (let s : all_scalars (a ∷ []) ≡ true = rw (low_scalar a (omega arith)) refl in s, let e : encode_utf8_all (a ∷ []) ≡ a ∷ [] = rw (encode_ascii a l) refl in e))

-- two bytes below 128 are UTF-8
two_ascii : (a b : ℕ) → a < 128 → b < 128 → IsUtf8 (a ∷ b ∷ [])
two_ascii a b l m = IsUtf8-append (a ∷ []) (b ∷ []) (one_ascii a l) (one_ascii b m)

-- a body is UTF-8
pub utf8_of : {body bs : List ℕ} → StandsFor body bs → IsUtf8 body
utf8_of none = IsUtf8-nil
utf8_of (plain c {body} s p h) = IsUtf8-append (encode_utf8 c) body (IsUtf8-encode c s) (utf8_of h)
utf8_of (escape {b} {byte = m} {body} e h) = IsUtf8-append (92 ∷ b ∷ []) body (two_ascii 92 b (omega arith) (escaped_low b m e)) (utf8_of h)

-- bytes that stand for themselves, taken off the front
strip_plain : (u w v bs : List ℕ) → w ≡ u ++ v → all_pass is_plain u ≡ true → Bytewise w bs → IsBody v
strip_plain [] w v bs e p h = (bs, subst (λ z. Bytewise z bs) e h)
strip_plain (b ∷ u) w v bs e p end = cc
strip_plain (b ∷ u) w v bs e p (byte {body = x} {bytes = cs} q h) = let t : x ≡ u ++ v = cc in strip_plain u x v cs t (and_right (is_plain b) _ p) h
strip_plain (b ∷ u) w v bs e p (pair f h) = let i : b ≡ 92 = cc in absurd ((not_plain b (and_left _ _ p)).1 i)

-- the first byte of what stands for something byte by byte stands for itself, if it is no `\`
first_plain : (c : ℕ) (w rest bs : List ℕ) → w ≡ c ∷ rest → (c ≡ 92 → ⊥) → Bytewise w bs → is_plain c ≡ true
first_plain c w rest bs e n h = (plain_in w c rest bs e n h).0

-- the first character of what stands for something byte by byte stands for itself, if it is no `\`
plain_character : (c : ℕ) (rest bs : List ℕ) → (c ≡ 92 → ⊥) → Bytewise (encode_utf8 c ++ rest) bs → is_plain c ≡ true
plain_character c rest bs n h = elim (cases_lt c 128) [
  | inl low ↦ first_plain c (encode_utf8 c ++ rest) rest bs (ap (λ z. z ++ rest) (encode_ascii c low)) n h
  | inr high ↦ high_plain c high
]

-- a body that begins with a character other than `\` stands for some bytes, where the body after that character does
plain_front : (c : ℕ) (rest : List ℕ) → IsScalar c → (c ≡ 92 → ⊥) → IsBody (encode_utf8 c ++ rest) → (IsBody rest → (bs : List ℕ) × StandsFor rest bs) → (bs : List ℕ) × StandsFor (encode_utf8 c ++ rest) bs
plain_front c rest s n h rec =
    let p = plain_character c rest h.0 n h.1 in
    let r = rec (strip_plain (encode_utf8 c) (encode_utf8 c ++ rest) rest h.0 refl (encode_plain c p) h.1) in
    (encode_utf8 c ++ r.0, plain c s p r.1)

-- a character in UTF-8, with whatever follows it, has a byte
some_bytes : (c : ℕ) (rest : List ℕ) → 0 < length (encode_utf8 c ++ rest)
some_bytes c rest = let a = length-append (encode_utf8 c) rest in let b = length-encode c in let d = (len_utf8_bounds c).0 in omega arith

-- a body that begins with `\` and another character stands for some bytes, where the body after the two does
escape_front : (c d : ℕ) (rest : List ℕ) → c ≡ 92 → IsBody (encode_utf8 c ++ (encode_utf8 d ++ rest)) → (IsBody rest → (bs : List ℕ) × StandsFor rest bs) → (bs : List ℕ) × StandsFor (encode_utf8 c ++ (encode_utf8 d ++ rest)) bs
escape_front c d rest i h rec =
    let x : List ℕ = encode_utf8 d ++ rest in
    let one : encode_utf8 c ≡ 92 ∷ [] = ap encode_utf8 i ∙ encode_ascii 92 (omega arith) in
    let whole : encode_utf8 c ++ x ≡ 92 ∷ x = ap (λ z. z ++ x) one in
    let f = escape_first x (subst (λ z. IsBody z) whole h) in
    let byte0 : get_or x 0 0 ≡ f.second = ap (λ z. get_or z 0 0) f.is in
    let low : get_or x 0 0 < 128 = let g = escaped_low f.second f.meaning f.stands in omega arith in
    let j : d ≡ get_or x 0 0 = char_from_byte x rest d refl low (some_bytes d rest) in
    let two : encode_utf8 d ≡ d ∷ [] = encode_ascii d (omega arith) in
    let k : x ≡ d ∷ rest = ap (λ z. z ++ rest) two in
    let t : d ∷ rest ≡ f.second ∷ f.rest = sym k ∙ f.is in
    let left : f.rest ≡ rest = cc in
    let same : f.second ∷ rest ≡ x = ap (λ z. z ∷ rest) (sym (j ∙ byte0)) ∙ sym k in
    let r = rec (subst (λ z. IsBody z) left f.body) in
    (f.meaning ∷ r.0, subst (λ z. StandsFor z (f.meaning ∷ r.0)) (ap (λ z. 92 ∷ z) same ∙ sym whole) (escape {b = f.second} {byte = f.meaning} {body = rest} {bytes = r.0} f.stands r.1))

-- a body of characters in UTF-8 stands for some bytes
meant : (cs : List ℕ) → all_scalars cs ≡ true → IsBody (encode_utf8_all cs) → (bs : List ℕ) × StandsFor (encode_utf8_all cs) bs
meant [] s h = ([], none)
meant (c ∷ []) s h = elim (eqb_tells c 92) [
  | inl e ↦ let one : encode_utf8 c ++ [] ≡ 92 ∷ [] = ap (λ z. encode_utf8 z ++ []) e.1 ∙ ap (λ z. z ++ []) (encode_ascii 92 (omega arith)) in
      let f = escape_first [] (subst (λ z. IsBody z) one h) in let g = f.is in absurd cc
  | inr e ↦ plain_front c [] (and_left _ _ s) e.1 h (λ k. ([], none))
]
meant (c ∷ d ∷ ds) s h = elim (eqb_tells c 92) [
  | inl e ↦ escape_front c d (encode_utf8_all ds) e.1 h (λ k. meant ds (and_right (scalar d) _ (and_right (scalar c) _ s)) k)
  | inr e ↦ plain_front c (encode_utf8_all (d ∷ ds)) (and_left _ _ s) e.1 h (λ k. meant (d ∷ ds) (and_right (scalar c) _ s) k)
]

-- a body that is UTF-8 stands for some bytes
some_meaning : (body : List ℕ) → IsUtf8 body → IsBody body → (bs : List ℕ) × StandsFor body bs
some_meaning body u h = subst (λ z. (bs : List ℕ) × StandsFor z bs) u.1.1 (meant u.0 u.1.0 (subst (λ z. IsBody z) (sym u.1.1) h))

-- what the code of a literal knows when it stands on the text after the opening quote
after_quote : (text : List ℕ) → lead_of text ≡ leads.Quote → (tail : List ℕ) × (text ≡ 34 ∷ tail)
after_quote [] h = cc
after_quote (b ∷ bs) h = (bs, ap (λ z. z ∷ bs) (told leads.Quote b bs h))

-- a literal at the front, by its body
at_front : (text tail : List ℕ) → lead_of text ≡ leads.Quote → tail ≡ drop 1 text → (q : Piece) (v more : List ℕ) → v ++ more ≡ text → IsPiece q v more
    → (body : List ℕ) × (bs : List ℕ) × (v ≡ 34 ∷ (body ++ 34 ∷ [])) × (tail ≡ body ++ 34 ∷ more) × StandsFor body bs
at_front text tail h t q v more e k =
    let w = only_literal q v more (leads_to text leads.Quote h q v more e k) k in
    let body : List ℕ = w.1.body in
    let f : text ≡ 34 ∷ (body ++ 34 ∷ more) = sym e ∙ ap (λ z. z ++ more) w.1.quoted ∙ ap (λ z. 34 ∷ z) (append_assoc body (34 ∷ []) more) in
    (body, w.0, w.1.quoted, t ∙ ap (drop 1) f, w.1.meaning)

-- a literal at the front has the body that the quote ends
same_front : (text tail : List ℕ) (n : ℕ) → lead_of text ≡ leads.Quote → tail ≡ drop 1 text → IsQuoted tail n → (q : Piece) (v more : List ℕ) → v ++ more ≡ text → IsPiece q v more
    → (v ≡ 34 ∷ (take n tail ++ 34 ∷ [])) × IsUtf8 (take n tail)
same_front text tail n h t c q v more e k =
    let w = at_front text tail h t q v more e k in
    let f : take n tail ++ 34 ∷ c.1.0 ≡ w.0 ++ 34 ∷ more = ap (λ z. take n tail ++ z) (sym c.1.1) ∙ take-append-drop n tail ∙ w.3 in
    let s = body_same c.0.1 (bytewise_of w.4) c.1.0 more f in
    (w.2 ∙ ap (λ z. 34 ∷ (z ++ 34 ∷ [])) s, subst (λ z. IsUtf8 z) s (utf8_of w.4))

-- a byte and a quoted body of n bytes after it, with its quote, are the first n + 2 bytes
literal_bytes : (b : ℕ) (tail : List ℕ) (n : ℕ) → n < length tail → IsQuoted tail n → take (n + 2) (b ∷ tail) ≡ b ∷ (take n tail ++ 34 ∷ [])
literal_bytes b tail n l c =
    let e : n + 2 ≡ suc (n + 1) = omega arith in
    rw e (ap (λ z. b ∷ z) (take_plus n 1 tail (omega arith) ∙ ap (λ z. take n tail ++ take 1 z) c.1.1))

-- a literal begins the text, where a quote leads it and the quoted body after that stands for these bytes
literal_of : (text tail : List ℕ) (n : ℕ) (bs : List ℕ) → lead_of text ≡ leads.Quote → tail ≡ drop 1 text → n < length tail → IsQuoted tail n → StandsFor (take n tail) bs → Begins text (pieces.Token (kinds.Literal bs)) (n + 2)
literal_of text tail n bs h t l c m =
    let a = after_quote text h in
    let i : tail ≡ a.0 = t ∙ ap (drop 1) a.1 in
    let d : text ≡ 34 ∷ tail = a.1 ∙ ap (λ z. 34 ∷ z) (sym i) in
    let f : take (n + 2) text ≡ 34 ∷ (take n tail ++ 34 ∷ []) = ap (take (n + 2)) d ∙ literal_bytes 34 tail n l c in
    let w : n + 2 ≤ length text = let g = ap length d in omega arith in
    record {
      within = w;
      longest = record {
        is = record { body = take n tail; quoted = f; meaning = m };
        most = λ q v more e k. let g = ap length ((same_front text tail n h t c q v more (e ∙ take-append-drop (n + 2) text) k).0 ∙ sym f) in omega arith;
      };
    }

-- where the body is not UTF-8, nothing begins the text
pub body_not_utf8 : (text tail : List ℕ) (n : ℕ) → lead_of text ≡ leads.Quote → tail ≡ drop 1 text → IsQuoted tail n → (IsUtf8 (take n tail) → ⊥) → IsNone text
body_not_utf8 text tail n h t c u q v more e k = u (same_front text tail n h t c q v more e k).1

-- where no quote ends the body, nothing begins the text
pub not_quoted : (text tail : List ℕ) → lead_of text ≡ leads.Quote → tail ≡ drop 1 text → IsUnquoted tail → IsNone text
not_quoted text tail h t n q v more e k = let w = at_front text tail h t q v more e k in n w.0 w.1 more w.3 (bytewise_of w.4)

-- a body stands for one list of bytes
pub one_meaning : {u bs : List ℕ} → Bytewise u bs → {v cs : List ℕ} → u ≡ v → Bytewise v cs → bs ≡ cs
one_meaning end e end = refl
one_meaning end e (byte p k) = cc
one_meaning end e (pair f k) = cc
one_meaning (byte p h) e end = cc
one_meaning (byte {b} {body = u} {bytes = bs} p h) e (byte {b = c} {body = v} {bytes = cs} q k) = let i : b ≡ c = cc in let t : u ≡ v = cc in let r = one_meaning h t k in cc
one_meaning (byte {b} p h) e (pair f k) = let i : b ≡ 92 = cc in absurd ((not_plain b p).1 i)
one_meaning (pair f h) e end = cc
one_meaning (pair f h) e (byte {b = c} q k) = let i : c ≡ 92 = cc in absurd ((not_plain c q).1 i)
one_meaning (pair {b} {m} {body = u} f h) e (pair {b = c} {m = n} {body = v} g k) =
    let i : b ≡ c = cc in let t : u ≡ v = cc in
    let j : Some m ≡ Some n = sym f ∙ ap escaped i ∙ g in
    let r = one_meaning h t k in cc

-- a body stands for one list of bytes
pub meaning_same : {body bs cs : List ℕ} → StandsFor body bs → StandsFor body cs → bs ≡ cs
meaning_same h k = one_meaning (bytewise_of h) refl (bytewise_of k)

-- What stands for bytes byte by byte, and is UTF-8, does so character by character.
pub stands_for : (body bs : List ℕ) → IsUtf8 body → Bytewise body bs → StandsFor body bs
stands_for body bs u h = let m = some_meaning body u (bs, h) in subst (λ z. StandsFor body z) (one_meaning (bytewise_of m.1) refl h) m.1

-- a literal begins the text
pub literal_begins : (text tail : List ℕ) (n : ℕ) (bs bytes : List ℕ) → lead_of text ≡ leads.Quote → tail ≡ drop 1 text → n < length tail → IsQuoted tail n → IsUtf8 (take n tail) → Bytewise (take n tail) bs → bytes ≡ bs → Begins text (pieces.Token (kinds.Literal bytes)) (n + 2)
literal_begins text tail n bs bytes h t l c u k e = literal_of text tail n bytes h t l c (subst (λ z. StandsFor (take n tail) z) (sym e) (stands_for (take n tail) bs u k))
