-- How bytes are written in digits, and what the types of bytes and of numbers with a sign hold of them.
use Rattle.std.specs.Prelude.{ℕ, ◌<◌, ◌/◌, ◌%◌, false, List, [], ◌∷◌, ℤ, pos, negsuc}
use Rattle.std.specs.Fmt.{digit_glyph}

-- a byte: two hexadecimal digits in lower case
abbrev pub byte_text : ℕ → List ℕ
byte_text byte = digit_glyph false (byte / 16) ∷ digit_glyph false (byte % 16) ∷ []

-- each is a byte
abbrev pub AreBytes : List ℕ → Type 0
AreBytes [] = Unit {0}
AreBytes (b ∷ bytes) = (b < 256) × AreBytes bytes

-- a number of 32 bits with a sign
abbrev pub IsInt : ℤ → Type 0
IsInt (pos n) = n < 2147483648
IsInt (negsuc n) = n < 2147483648
