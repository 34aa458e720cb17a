-- Decimals: what their digits stand for.
use Rattle.std.proofs.Common.{◌≡◌, ℕ, ◌<◌, ◌≤◌, ◌+◌, ◌*◌, ◌-◌, false, List, length, take, get_or, refl, arith}
use Rattle.std.specs.List.{prefix_len}
use Rattle.std.specs.Char.{is_ascii_digit}
use Rattle.std.specs.Str.Parse.{digits_value}
use Rattle.std.proofs.lemmas.Int.Digits.{digits_value_more}
use Rattle.std.proofs.lemmas.Str.{digit_value_digit}
use Rattle.std.specs.Prelude.{None, nat_lt}
use Rattle.chord_journal.specs.Reading.{value_if_below}
use Rattle.std.proofs.lemmas.Bool.Decides.{nat_tests}
use Rattle.std.proofs.lemmas.List.Folds.{length-prefix_len}
use Rattle.std.proofs.lemmas.List.Sums.{prefix_len_passes}
use Rattle.std.proofs.lemmas.List.{get_or-take}

-- one more digit
pub value_next : (ds : List ℕ) (i : ℕ) → i < length ds → (48 ≤ get_or ds i 0) × (get_or ds i 0 ≤ 57) →
    digits_value 10 (take (i + 1) ds) ≡ digits_value 10 (take i ds) * 10 + (get_or ds i 0 - 48)
value_next ds i within digit =
    let more = digits_value_more 10 ds i within in
    let value = digit_value_digit (get_or ds i 0) digit in
    omega (arith, more, value)

-- what stands before the first byte that is no digit is digits
pub front_digits : (bytes : List ℕ) (i : ℕ) → i < length (take (prefix_len is_ascii_digit bytes) bytes) →
    (48 ≤ get_or (take (prefix_len is_ascii_digit bytes) bytes) i 0) × (get_or (take (prefix_len is_ascii_digit bytes) bytes) i 0 ≤ 57)
front_digits bytes i within =
    let long = length-prefix_len is_ascii_digit bytes in
    let passes = prefix_len_passes is_ascii_digit bytes i 0 (omega (arith, within, long)) in
    let at = get_or-take (prefix_len is_ascii_digit bytes) bytes i 0 (omega (arith, within, long)) in
    rw at (grind (arith, passes))

-- digits that stand for too much have no value below the bound
pub value_if_above : (bound : ℕ) (ds : List ℕ) → bound ≤ digits_value 10 ds → value_if_below bound ds ≡ None
value_if_above bound ds above =
    let test : nat_lt (digits_value 10 ds) bound ≡ false = grind (arith, nat_tests) in
    rw test refl
