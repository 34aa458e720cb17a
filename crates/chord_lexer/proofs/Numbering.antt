-- Numbers: the longest is the whole run of digits, and there is none where a letter follows or the value is too large.
use Rattle.std.proofs.Common.{◌≡◌, ℕ, zero, suc, ◌+◌, ◌-◌, ◌*◌, ◌<◌, ◌≤◌, Bool, true, false, ◌||◌, List, [], ◌∷◌, ◌++◌, length, take, drop, get_or, refl, sym, ap, subst, ◌∙◌, arith, add-one}
use Rattle.std.proofs.lemmas.List.{take-append-drop}
use Rattle.std.proofs.lemmas.Bool.{leb-true}
use Rattle.std.specs.Prelude.{nat_le}
use Rattle.chord_lexer.specs.declared.token.Kind.TheVariants as kinds
use Rattle.chord_lexer.specs.declared.piece.Piece.{Piece}
use Rattle.chord_lexer.specs.declared.piece.Piece.TheVariants as pieces
use Rattle.chord_lexer.specs.declared.scan.Lead.TheVariants as leads
use Rattle.chord_lexer.specs.Letters.{is_letter, is_digit, is_identifier_byte, first_passes, IsMaximalRun, all_pass}
use Rattle.chord_lexer.specs.Numbers.{IsNumber, value_after}
use Rattle.chord_lexer.specs.Pieces.{IsPiece, IsNone}
use Rattle.chord_lexer.specs.Scanning.{lead_of, Begins, IsTooLarge}
use Rattle.chord_lexer.proofs.Runs.{run_same, and_left, and_right}
use Rattle.chord_lexer.proofs.Leads.{leads_to, only_number, told}

-- where neither of two tests holds the second does not
digit_goes_on : (a b : Bool) → (a || b) ≡ false → b ≡ false
digit_goes_on true b h = cc
digit_goes_on false b h = h

-- where no letter, `_` or digit follows, no digit does
pub no_digit : (rest : List ℕ) → first_passes is_identifier_byte rest ≡ false → first_passes is_digit rest ≡ false
no_digit [] h = refl
no_digit (b ∷ rest) h = digit_goes_on (is_letter b) (is_digit b) h

-- a number at the front is the whole run of digits
number_at_front : (text : List ℕ) (n : ℕ) → lead_of text ≡ leads.Digit → IsMaximalRun is_digit (take n text) (drop n text) → (q : Piece) (v more : List ℕ) → v ++ more ≡ text → IsPiece q v more
    → (x : ℕ) × IsNumber x v more × (v ≡ take n text) × (more ≡ drop n text)
number_at_front text n h r q v more e k =
    let w = only_number q v more (leads_to text leads.Digit h q v more e k) k in
    let s = run_same is_digit (take n text) (drop n text) v more r (w.1.all, no_digit more w.1.end) (e ∙ sym (take-append-drop n text)) in
    (w.0, w.1, s.0, s.1)

-- a whole run of digits at the front of a text that may begin with a number has a digit
some_digit : (text : List ℕ) (n : ℕ) → lead_of text ≡ leads.Digit → IsMaximalRun is_digit (take n text) (drop n text) → 0 < length (take n text)
some_digit [] n h r = cc
some_digit (b ∷ bs) zero h r = let f = sym r.1 ∙ told leads.Digit b bs h in cc
some_digit (b ∷ bs) (suc n) h r = omega arith

-- a number begins the text
pub number_begins : (text : List ℕ) (n x : ℕ) → lead_of text ≡ leads.Digit → n ≤ length text → IsMaximalRun is_digit (take n text) (drop n text) → first_passes is_identifier_byte (drop n text) ≡ false → x ≡ value_after 0 (take n text) → x ≤ 2147483648
    → Begins text (pieces.Token (kinds.Number x)) n
number_begins text n x h l r f i m = record {
  within = l;
  longest = record {
    is = record { some = some_digit text n h r; all = r.0; end = f; value = sym i; small = m };
    most = λ q v more e k. let g = ap length (number_at_front text n h r q v more (e ∙ take-append-drop n text) k).2 in omega arith;
  };
}

-- digits before a letter are no token
pub followed : (text : List ℕ) (n : ℕ) → lead_of text ≡ leads.Digit → IsMaximalRun is_digit (take n text) (drop n text) → first_passes is_identifier_byte (drop n text) ≡ true → IsNone text
followed text n h r f q v more e k =
    let s = number_at_front text n h r q v more e k in
    let g = sym (subst (λ z. first_passes is_identifier_byte z ≡ false) s.3 s.1.end) ∙ f in cc

-- digits of a greater value are no token
pub too_large : (text : List ℕ) (n : ℕ) → lead_of text ≡ leads.Digit → IsMaximalRun is_digit (take n text) (drop n text) → 2147483648 < value_after 0 (take n text) → IsNone text
too_large text n h r f q v more e k =
    let s = number_at_front text n h r q v more e k in
    let g : value_after 0 (take n text) ≡ s.0 = ap (value_after 0) (sym s.2) ∙ s.1.value in
    let j : s.0 ≤ 2147483648 = s.1.small in
    omega arith

-- decimal digits, from the left
pub digit_range : (b : ℕ) → is_digit b ≡ true → (48 ≤ b) × (b ≤ 57)
digit_range b h = (leb-true _ _ (and_left _ _ h), leb-true _ _ (and_right (nat_le 48 b) _ h))

-- the value of digits after others is no less than the value of those others
value_grows : (digits : List ℕ) (n : ℕ) → n ≤ value_after n digits
value_grows [] n = omega arith
value_grows (b ∷ digits) n = let h = value_grows digits (10 * n + (b - 48)) in omega arith

-- digits at the front of a text have no greater value than all that stand there
value_of_some : (v more : List ℕ) (n m : ℕ) → all_pass is_digit (take n (v ++ more)) ≡ true → first_passes is_digit more ≡ false → value_after m (take n (v ++ more)) ≤ value_after m v
value_of_some [] more zero m a f = omega arith
value_of_some [] [] (suc n) m a f = omega arith
value_of_some [] (b ∷ more) (suc n) m a f = let g = sym f ∙ and_left _ _ a in cc
value_of_some (b ∷ v) more zero m a f = value_grows (b ∷ v) m
value_of_some (b ∷ v) more (suc n) m a f = value_of_some v more n (10 * m + (b - 48)) (and_right (is_digit b) _ a) f

-- where some first digits have a greater value, nothing begins
pub none_so_large : (text : List ℕ) → lead_of text ≡ leads.Digit → IsTooLarge text → IsNone text
none_so_large text h l q v more e k =
    let w = only_number q v more (leads_to text leads.Digit h q v more e k) k in
    let a = subst (λ z. all_pass is_digit (take l.size z) ≡ true) (sym e) l.digits in
    let m : 2147483648 < value_after 0 (take l.size (v ++ more)) = subst (λ z. 2147483648 < value_after 0 (take l.size z)) (sym e) l.large in
    let g : value_after 0 (take l.size (v ++ more)) ≤ value_after 0 v = value_of_some v more l.size 0 a (no_digit more w.1.end) in
    let i : value_after 0 v ≡ w.0 = w.1.value in
    let s : w.0 ≤ 2147483648 = w.1.small in
    omega arith

-- the value of one digit more
next_value : (text : List ℕ) (i m : ℕ) → i < length text → value_after m (take (suc i) text) ≡ 10 * value_after m (take i text) + (get_or text i 0 - 48)
next_value [] i m l = absurd (omega arith)
next_value (b ∷ text) zero m l = refl
next_value (b ∷ text) (suc i) m l = next_value text i (10 * m + (b - 48)) (omega arith)

-- one more digit
pub value_more : (text : List ℕ) (i : ℕ) → i < length text → value_after 0 (take (i + 1) text) ≡ 10 * value_after 0 (take i text) + (get_or text i 0 - 48)
value_more text i l = rw add-one (next_value text i 0 l)

-- the value with one digit more
pub value_step : (text : List ℕ) (i value : ℕ) → i < length text → value ≡ value_after 0 (take i text) → 10 * value + (get_or text i 0 - 48) ≡ value_after 0 (take (i + 1) text)
value_step text i value l e = ap (λ z. 10 * z + (get_or text i 0 - 48)) e ∙ sym (value_more text i l)

-- where one digit more makes the value too large
pub value_large : (text : List ℕ) (i value : ℕ) → i < length text → value ≡ value_after 0 (take i text) → 2147483648 < 10 * value + (get_or text i 0 - 48) → 2147483648 < value_after 0 (take (i + 1) text)
value_large text i value l e h = subst (λ z. 2147483648 < z) (value_step text i value l e) h
