-- Texts: what is read has these digits, and these digits are read.
use Rattle.std.proofs.Common.{◌≡◌, ℕ, ◌<◌, ◌+◌, ◌-◌, ◌*◌, ◌/◌, ◌%◌, true, false, if◌then◌else◌, ◌&&◌, List, [], ◌∷◌, ◌++◌, Some, None, refl, arith}
use Rattle.std.specs.Prelude.{nat_lt, nat_le}
use Rattle.std.specs.List.{flat_map}
use Rattle.std.specs.Fmt.{digit_glyph}
use Rattle.std.proofs.lemmas.Bool.Decides.{nat_tests}
use Rattle.chord_io.specs.Digits.{byte_text, AreBytes}
use Rattle.chord_journal.specs.Typed.{IsText}
use Rattle.chord_journal.specs.Reading.{Read, ◌>>=◌, digit_of, begins_digit, byte_at, text_at}
use Rattle.chord_journal.proofs.Binds.{bound, guarded, same_read}
use Rattle.chord_journal.proofs.Repeats.{Each, many_takes, many_again}

-- the digit of a number below 16 stands for it
glyph_again : (d : ℕ) → d < 16 → digit_of (digit_glyph false d) ≡ Some d
glyph_again d less =
    elim (nat_lt d 10) as (λ t. nat_lt d 10 ≡ t → digit_of (if t then 48 + d else 87 + d) ≡ Some d) [
      | true ↦ λ is. grind (arith, nat_tests)
      | false ↦ λ is. grind (arith, nat_tests)
    ] refl

-- what a digit stands for is below 16 and has this digit
digit_takes : (a d : ℕ) → digit_of a ≡ Some d → (d < 16) × (digit_glyph false d ≡ a)
digit_takes a d read =
    elim (nat_le 48 a && nat_lt a 58) as
    (λ t. (nat_le 48 a && nat_lt a 58) ≡ t →
    (if t then Some (a - 48) else (if nat_le 97 a && nat_lt a 103 then Some (a - 87) else None)) ≡ Some d → (d < 16) × (digit_glyph false d ≡ a)) [
      | true ↦ λ is found. (let same : a - 48 ≡ d = cc in (grind (arith, nat_tests), grind (arith, nat_tests)))
      | false ↦ λ no other.
          (let (is, found) = guarded (nat_le 97 a && nat_lt a 103) (Some (a - 87)) d other in
          let same : a - 87 ≡ d = cc in
          (grind (arith, nat_tests), grind (arith, nat_tests)))
    ] refl read

-- a byte from its digits
abbrev byte_of_digits : ℕ → ℕ → List ℕ → Read ℕ
byte_of_digits high low rest = Some (16 * high + low, rest)

-- two digits are read as a byte, whatever follows
byte_again : (b : ℕ) (rest : List ℕ) → b < 256 → byte_at (byte_text b ++ rest) ≡ Some (b, rest)
unfolding byte_at
byte_again b rest less =
    let high = glyph_again (b / 16) (omega arith) in
    let low = glyph_again (b % 16) (omega arith) in
    let whole : 16 * (b / 16) + b % 16 ≡ b = omega arith in
    rw (high, low, whole) refl

-- what is read is a byte with these digits
byte_takes : (bytes : List ℕ) (b : ℕ) (rest : List ℕ) → byte_at bytes ≡ Some (b, rest) → (bytes ≡ byte_text b ++ rest) × (b < 256)
unfolding byte_at
byte_takes [] b rest read = absurd (cc)
byte_takes (x ∷ []) b rest read = absurd (cc)
byte_takes (x ∷ y ∷ bytes) b rest read =
    let (high, first, second) = bound (digit_of x) (λ high. digit_of y >>= (λ low. byte_of_digits high low bytes)) (b, rest) read in
    let (low, third, is) = bound (digit_of y) (λ low. byte_of_digits high low bytes) (b, rest) second in
    let (same, left) = same_read (16 * high + low) b bytes rest is in
    let (small, glyph) = digit_takes x high first in
    let (little, mark) = digit_takes y low third in
    let upper : b / 16 ≡ high = omega (arith, same, small, little) in
    let lower : b % 16 ≡ low = omega (arith, same, small, little) in
    (rw (upper, lower, glyph, mark, left) refl, omega (arith, same, small, little))

-- bytes, each for itself
each_byte : (bytes : List ℕ) → AreBytes bytes → Each (λ b. b < 256) bytes
each_byte [] all = tt
each_byte (b ∷ bytes) (here, all) = (here, each_byte bytes all)

-- bytes that are each below 256 are the bytes of a text
all_bytes : (bytes : List ℕ) → Each (λ b. b < 256) bytes → AreBytes bytes
all_bytes [] each = tt
all_bytes (b ∷ bytes) (here, each) = (here, all_bytes bytes each)

-- the bytes of a text are read, where no digit follows
pub text_again : (bytes rest : List ℕ) → IsText bytes → begins_digit rest ≡ false → text_at (flat_map byte_text bytes ++ rest) ≡ Some (bytes, rest)
text_again bytes rest fits ended =
    many_again begins_digit byte_at byte_text (λ b. b < 256) rest
    (λ b more less. (begun b (flat_map byte_text more ++ rest) less, byte_again b (flat_map byte_text more ++ rest) less)) ended 1024 bytes fits.few
    (each_byte bytes fits.bytes)
  where
    begun : (b : ℕ) (more : List ℕ) → b < 256 → begins_digit (byte_text b ++ more) ≡ true
    begun b more less =
        let high = glyph_again (b / 16) (omega arith) in
        rw high refl

-- what is read is the bytes of a text
pub text_takes : (bytes text rest : List ℕ) → text_at bytes ≡ Some (text, rest) → (bytes ≡ flat_map byte_text text ++ rest) × IsText text
text_takes bytes text rest read =
    let (same, each, few) = many_takes begins_digit byte_at byte_text (λ b. b < 256) byte_takes 1024 bytes text rest read in
    (same, record { few = few; bytes = all_bytes text each })
