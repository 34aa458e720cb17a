-- Blanks, letters and runs of bytes.
use Rattle.std.specs.Prelude.{◌≡◌, ℕ, Bool, true, false, ◌&&◌, ◌||◌, List, [], ◌∷◌, nat_eq}
use Rattle.std.specs.Char.{is_ascii_digit, is_ascii_alphabetic}

-- A blank is one of the bytes 20, 09, 0D and 0A.
abbrev pub is_blank : ℕ → Bool
is_blank b = nat_eq b 0x20 || nat_eq b 0x09 || nat_eq b 0x0D || nat_eq b 0x0A

-- A digit is one of `0` to `9`.
abbrev pub is_digit : ℕ → Bool
is_digit b = is_ascii_digit b

-- An identifier begins with an ASCII letter or `_`.
abbrev pub is_letter : ℕ → Bool
is_letter b = is_ascii_alphabetic b || nat_eq b 0x5F

-- An identifier goes on with letters, `_` and digits.
abbrev pub is_identifier_byte : ℕ → Bool
is_identifier_byte b = is_letter b || is_digit b

-- A line ends before 0D or 0A.
abbrev pub ends_line : ℕ → Bool
ends_line b = nat_eq b 0x0D || nat_eq b 0x0A

-- each of the bytes passes the test
abbrev pub all_pass : (ℕ → Bool) → List ℕ → Bool
all_pass test [] = true
all_pass test (b ∷ bs) = test b && all_pass test bs

-- the first of the bytes passes the test
abbrev pub first_passes : (ℕ → Bool) → List ℕ → Bool
first_passes test [] = false
first_passes test (b ∷ bs) = test b

-- A whole run: each byte passes the test, and the byte that follows, if there is one, does not.
abbrev pub IsMaximalRun : (ℕ → Bool) → List ℕ → List ℕ → Type 0
IsMaximalRun test run rest = (all_pass test run ≡ true) × (first_passes test rest ≡ false)
