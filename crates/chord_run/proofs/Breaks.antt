-- The place of a byte, byte by byte.
use Rattle.std.proofs.Common.{◌≡◌, ℕ, zero, suc, ◌+◌, ◌≤◌, ◌<◌, Bool, true, false, List, [], ◌∷◌, ◌++◌, length, take, drop, get_or, refl, sym, ap, ◌∙◌, arith, add_comm}
use Rattle.std.specs.Prelude.{if◌then◌else◌}
use Rattle.std.proofs.lemmas.List.{reverse-append}
use Rattle.std.proofs.lemmas.List.Sums.{sum_by-append}
use Rattle.chord_run.specs.declared.position.Position.{Position}
use Rattle.chord_run.specs.Positions.{breaks, breaks_after, line_after, column_after, position_of}

-- the place of byte i is known, and neither part is larger than i + 1
pub record HasCome (text : List ℕ) (i : ℕ) (place : Position) : Type 0 where
  pub is : place ≡ position_of text i
  pub line : place.line ≤ i + 1
  pub column : place.column ≤ i + 1

-- one more byte: a line ends after it, or none does
pub breaks_more : (text : List ℕ) (i d : ℕ) → i < length text → take (i + 1) (breaks text) ≡ take i (breaks text) ++ breaks_after (get_or text i d) (drop (i + 1) text) ∷ []
breaks_more [] i d h = absurd (omega arith)
breaks_more (b ∷ text) zero d h = refl
breaks_more (b ∷ text) (suc i) d h =
    let e : suc i + 1 ≡ suc (i + 1) = omega arith in
    rw e (ap (λ xs. breaks_after b text ∷ xs) (breaks_more text i d (omega arith)))

-- one more line ended
pub line_after-append : (xs : List Bool) (b : Bool) → line_after (xs ++ b ∷ []) ≡ line_after xs + (if b then 1 else 0)
line_after-append xs b = rw (sum_by-append (λ ends. if ends then 1 else 0) xs (b ∷ [])) (omega arith)

-- the column goes on where no line ended, and begins where one did
pub column_after-ended : (xs : List Bool) → column_after (xs ++ true ∷ []) ≡ 1
column_after-ended xs = rw reverse-append refl

-- it goes on where none did
pub column_after-goes_on : (xs : List Bool) → column_after (xs ++ false ∷ []) ≡ column_after xs + 1
column_after-goes_on xs = rw reverse-append (add_comm 1 (column_after xs))

-- after a byte that ends a line
pub comes_to_line : (text : List ℕ) (i d : ℕ) (place : Position) → HasCome text i place → i < length text → breaks_after (get_or text i d) (drop (i + 1) text) ≡ true → HasCome text (i + 1) (record { line = place.line + 1; column = 1 })
comes_to_line text i d place c h e =
    let m = breaks_more text i d h in
    let before = take i (breaks text) in
    let is_line : line_after (take (i + 1) (breaks text)) ≡ place.line + 1 = rw (m, e) (line_after-append before true ∙ ap (λ p. p.line + 1) (sym c.is)) in
    let is_column : column_after (take (i + 1) (breaks text)) ≡ 1 = rw (m, e) (column_after-ended before) in
    record { is = rw (is_line, is_column) refl; line = omega arith; column = omega arith }

-- after another byte
pub comes_to_column : (text : List ℕ) (i d : ℕ) (place : Position) → HasCome text i place → i < length text → breaks_after (get_or text i d) (drop (i + 1) text) ≡ false → HasCome text (i + 1) (record { line = place.line; column = place.column + 1 })
comes_to_column text i d place c h e =
    let m = breaks_more text i d h in
    let before = take i (breaks text) in
    let is_line : line_after (take (i + 1) (breaks text)) ≡ place.line = rw (m, e) (line_after-append before false ∙ omega arith ∙ ap (λ p. p.line) (sym c.is)) in
    let is_column : column_after (take (i + 1) (breaks text)) ≡ place.column + 1 = rw (m, e) (column_after-goes_on before ∙ ap (λ p. p.column + 1) (sym c.is)) in
    record { is = rw (is_line, is_column) refl; line = omega arith; column = omega arith }
