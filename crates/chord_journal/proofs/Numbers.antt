-- Numbers: what is read is the decimal, and the decimal is read.
use Rattle.std.proofs.Common.{◌≡◌, ℕ, zero, suc, ◌<◌, ◌≤◌, ◌+◌, ◌-◌, ◌^◌, true, false, cond, if◌then◌else◌, ◌==◌, List, [], ◌∷◌, ◌++◌, length, take, drop, get_or, Some, None, refl, ap, sym, ◌∙◌, arith, ◌⊎◌, inl, inr, subst}
use Rattle.std.specs.Prelude.{decimal, nat_lt}
use Rattle.std.specs.List.{prefix_len}
use Rattle.std.specs.Char.{is_ascii_digit}
use Rattle.std.specs.Str.Parse.{digits_value, AllDigits}
use Rattle.std.proofs.lemmas.Str.Parse.{IsNumeralModel, numerals_by_value, tells_digits, digit_from_value}
use Rattle.std.proofs.lemmas.Str.{digit_value_digit}
use Rattle.std.proofs.lemmas.Fmt.{digits_decimal, digits_value-decimal, decimal-digits_value, decimal_nonempty, decimal_digit, first_decimal}
use Rattle.std.proofs.lemmas.List.{take-append-drop}
use Rattle.std.proofs.Math.Seq.{take-append_seam, drop-append_seam}
use Rattle.std.proofs.lemmas.Bool.Decides.{nat_tests}
use Rattle.std.specs.Prelude.{ℤ, pos, negsuc}
use Rattle.std.specs.Fmt.{signed_decimal}
use Rattle.chord_io.specs.Digits.{IsInt}
use Rattle.chord_journal.specs.Reading.{Read, ◌>>=◌, decimal_at, int_at, negative_at, is_decimal, value_if_below}
use Rattle.chord_journal.proofs.Binds.{bound, guarded, passed, same_read}

-- digits, with the value that they are read as, meet what std asks of numerals
own : IsNumeralModel (AllDigits 10) (digits_value 10)
own = numerals_by_value (AllDigits 10) tells_digits

-- a digit is a byte between 48 and 57
digit_range : (b : ℕ) → is_ascii_digit b ≡ true → (48 ≤ b) × (b ≤ 57)
digit_range b is = grind (arith, nat_tests)

-- a byte between 48 and 57 is a digit
range_digit : (b : ℕ) → (48 ≤ b) × (b ≤ 57) → is_ascii_digit b ≡ true
range_digit b is = grind (arith, nat_tests)

-- the digits at the front are digits
front_all : (bytes : List ℕ) → AllDigits 10 (take (prefix_len is_ascii_digit bytes) bytes)
front_all [] = tt
front_all (b ∷ bytes) =
    elim (is_ascii_digit b) as (λ t. is_ascii_digit b ≡ t → AllDigits 10 (take (cond t (1 + prefix_len is_ascii_digit bytes) 0) (b ∷ bytes))) [
      | true ↦ λ is.
          (let value = digit_value_digit b (digit_range b is) in
          let range = digit_range b is in
          let one : 1 + prefix_len is_ascii_digit bytes ≡ suc (prefix_len is_ascii_digit bytes) = omega arith in
          rw one (omega (arith, value, range), front_all bytes))
      | false ↦ λ is. tt
    ] refl

-- all digits in front of what does not begin with one
digits_front : (ds rest : List ℕ) → AllDigits 10 ds → prefix_len is_ascii_digit rest ≡ 0 → prefix_len is_ascii_digit (ds ++ rest) ≡ length ds
digits_front [] rest all none = none
digits_front (d ∷ ds) rest (here, all) none =
    let is = range_digit d (digit_from_value d here) in
    let more = digits_front ds rest all none in
    rw is (omega (arith, more))

-- digits are a decimal where they are not led by a zero
plain_digits : (ds : List ℕ) → 0 < length ds → (48 < get_or ds 0 0) ⊎ (length ds ≡ 1) → is_decimal ds ≡ true
plain_digits [] some first = absurd (omega (arith, some))
plain_digits (d ∷ []) some first = refl
plain_digits (d ∷ e ∷ ds) some (inl big) = grind (arith, nat_tests, big)
plain_digits (d ∷ e ∷ ds) some (inr one) = absurd (omega (arith, one))

-- digits that are a decimal are at least one, and only one where a zero leads them
digits_plain : (ds : List ℕ) → is_decimal ds ≡ true → (0 < length ds) × (get_or ds 0 0 ≡ 48 → length ds ≡ 1)
digits_plain [] plain = absurd (cc)
digits_plain (d ∷ []) plain = (omega arith, λ zero. refl)
digits_plain (d ∷ e ∷ ds) plain = (omega arith, λ zero. absurd (grind (arith, nat_tests, plain, zero)))

-- the digits that a number of 64 bits is written with are a decimal
decimal_plain : (n : ℕ) → n < 2 ^ 64 → is_decimal (decimal n) ≡ true
decimal_plain zero fits = rw (decimal_digit 0 (omega arith)) refl
decimal_plain (suc n) fits = plain_digits (decimal (suc n)) (decimal_nonempty (suc n) fits) (inl (first_decimal (suc n) (omega arith) fits))

-- digits whose value is below the limit are read as their value
value_below : (limit : ℕ) (ds : List ℕ) (n : ℕ) → digits_value 10 ds ≡ n → n < limit → value_if_below limit ds ≡ Some n
value_below limit ds n is less =
    let test : nat_lt (digits_value 10 ds) limit ≡ true = grind (arith, nat_tests) in
    rw test (ap (λ x. Some x) is)

-- digits that are read as a number have it as their value, and it is below the limit
below_value : (limit : ℕ) (ds : List ℕ) (n : ℕ) → value_if_below limit ds ≡ Some n → (digits_value 10 ds ≡ n) × (n < limit)
below_value limit ds n read =
    let (test, is) = guarded (nat_lt (digits_value 10 ds) limit) (Some (digits_value 10 ds)) n read in
    let same : digits_value 10 ds ≡ n = cc in
    (same, grind (arith, nat_tests))

-- a decimal below the limit is read, where no digit follows
pub number_again : (limit n : ℕ) (rest : List ℕ) → n < limit → limit ≤ 2 ^ 64 → prefix_len is_ascii_digit rest ≡ 0 → decimal_at limit (decimal n ++ rest) ≡ Some (n, rest)
unfolding decimal_at
number_again limit n rest less fits none =
    let small : n < 2 ^ 64 = omega (arith, less, fits) in
    let count = digits_front (decimal n) rest (digits_decimal own n small) none in
    rw (count, take-append_seam (decimal n) rest, decimal_plain n small, value_below limit (decimal n) n (digits_value-decimal own n small) less, drop-append_seam (decimal n) rest) refl

-- what is read is a decimal below the limit
pub number_takes : (limit : ℕ) (bytes : List ℕ) (n : ℕ) (rest : List ℕ) → limit ≤ 2 ^ 64 → decimal_at limit bytes ≡ Some (n, rest) → (bytes ≡ decimal n ++ rest) × (n < limit)
unfolding decimal_at
number_takes limit bytes n rest fits read =
    let digits = take (prefix_len is_ascii_digit bytes) bytes in
    let behind = drop (prefix_len is_ascii_digit bytes) bytes in
    let (plain, valued) = guarded (is_decimal digits) (value_if_below limit digits >>= (λ m. Some (m, behind))) (n, rest) read in
    let (m, value, is) = bound (value_if_below limit digits) (λ m. Some (m, behind)) (n, rest) valued in
    let (same, less) = below_value limit digits m value in
    let (some, led) = digits_plain digits plain in
    let text = decimal-digits_value own digits (front_all bytes) some led (omega (arith, same, less, fits)) in
    let (number, left) = same_read m n behind rest is in
    let digits_are : digits ≡ decimal n = sym text ∙ ap decimal (same ∙ number) in
    (sym (take-append-drop (prefix_len is_ascii_digit bytes) bytes) ∙ ap (λ xs. xs ++ behind) digits_are ∙ ap (λ xs. decimal n ++ xs) left, omega (arith, number, less))

-- a decimal begins with no sign
begins_plain : (ds : List ℕ) → 0 < length ds → AllDigits 10 ds → (d : ℕ) × (rest : List ℕ) × (ds ≡ d ∷ rest) × ((d == 45) ≡ false)
begins_plain [] some all = absurd (omega (arith, some))
begins_plain (d ∷ ds) some (here, all) =
    let range = digit_from_value d here in
    (d, ds, refl, grind (arith, nat_tests, range))

-- a number that was read, as an int
abbrev as_positive : ℕ × List ℕ → Read ℤ
as_positive n = Some (pos n.0, n.1)

-- bytes that begin with no sign are read as a number without a sign
unsigned : (bytes : List ℕ) (b : ℕ) (more : List ℕ) → bytes ≡ b ∷ more → (b == 45) ≡ false → int_at bytes ≡ (decimal_at 2147483648 bytes >>= as_positive)
unfolding int_at
unsigned bytes b more is plain = rw (is, plain) refl

-- a number of 32 bits is read, where no digit follows
pub int_again : (z : ℤ) (rest : List ℕ) → IsInt z → prefix_len is_ascii_digit rest ≡ 0 → int_at (signed_decimal z ++ rest) ≡ Some (z, rest)
unfolding int_at negative_at
int_again (pos n) rest fits none =
    let small : n < 2 ^ 64 = omega (arith, fits) in
    let (d, ds, is, plain) = begins_plain (decimal n) (decimal_nonempty n small) (digits_decimal own n small) in
    let read = number_again 2147483648 n rest fits (omega arith) none in
    let whole = unsigned (decimal n ++ rest) d (ds ++ rest) (ap (λ xs. xs ++ rest) is) plain in
    whole ∙ rw read refl
int_again (negsuc n) rest fits none =
    let read = number_again 2147483649 (suc n) rest (omega (arith, fits)) (omega arith) none in
    let some : (suc n == 0) ≡ false = grind (arith, nat_tests) in
    let less : suc n - 1 ≡ n = omega arith in
    rw (read, some, less) refl

-- what is read without a sign is a number of 32 bits
unsigned_takes : (bytes : List ℕ) (z : ℤ) (rest : List ℕ) → (decimal_at 2147483648 bytes >>= as_positive) ≡ Some (z, rest) →
    (bytes ≡ signed_decimal z ++ rest) × IsInt z
unsigned_takes bytes z rest read =
    let (n, number, is) = bound (decimal_at 2147483648 bytes) as_positive (z, rest) read in
    let (same, left) = same_read (pos n.0) z n.1 rest is in
    let (text, less) = number_takes 2147483648 bytes n.0 n.1 (omega arith) number in
    (text ∙ ap (λ y. signed_decimal y ++ n.1) same ∙ ap (λ r. signed_decimal z ++ r) left, subst IsInt same less)

-- a number that was read behind a sign, as an int
abbrev as_negative : ℕ × List ℕ → Read ℤ
as_negative n = if n.0 == 0 then None else Some (negsuc (n.0 - 1), n.1)

-- what is read behind a sign is a number of 32 bits below 0
negative_takes : (bytes : List ℕ) (z : ℤ) (rest : List ℕ) → negative_at bytes ≡ Some (z, rest) → (45 ∷ bytes ≡ signed_decimal z ++ rest) × IsInt z
unfolding negative_at
negative_takes bytes z rest read =
    let (n, number, tested) = bound (decimal_at 2147483649 bytes) as_negative (z, rest) read in
    let (some, is) = passed (n.0 == 0) (Some (negsuc (n.0 - 1), n.1)) (z, rest) tested in
    let (same, left) = same_read (negsuc (n.0 - 1)) z n.1 rest is in
    let (text, less) = number_takes 2147483649 bytes n.0 n.1 (omega arith) number in
    let above : 0 < n.0 = grind (arith, nat_tests, some) in
    let one : n.0 ≡ suc (n.0 - 1) = omega (arith, above) in
    let fits : n.0 - 1 < 2147483648 = omega (arith, less, above) in (
      ap (λ xs. 45 ∷ xs) (text ∙ ap (λ m. decimal m ++ n.1) one) ∙ ap (λ y. signed_decimal y ++ n.1) same ∙ ap (λ r. signed_decimal z ++ r) left,
      subst IsInt same fits,
    )

-- what is read is a number of 32 bits
pub int_takes : (bytes : List ℕ) (z : ℤ) (rest : List ℕ) → int_at bytes ≡ Some (z, rest) → (bytes ≡ signed_decimal z ++ rest) × IsInt z
unfolding int_at
int_takes [] z rest read = absurd (cc)
int_takes (b ∷ bytes) z rest read =
    elim (b == 45) as
    (λ t. (b == 45) ≡ t → cond t (negative_at bytes) (decimal_at 2147483648 (b ∷ bytes) >>= as_positive) ≡ Some (z, rest) →
    (b ∷ bytes ≡ signed_decimal z ++ rest) × IsInt z) [
      | true ↦ λ is found. (let sign : b ≡ 45 = grind (arith, nat_tests, is) in rw sign (negative_takes bytes z rest found))
      | false ↦ λ is found. unsigned_takes (b ∷ bytes) z rest found
    ] refl read
