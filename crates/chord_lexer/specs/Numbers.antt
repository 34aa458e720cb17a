-- Numbers.
use Rattle.std.specs.Prelude.{◌≡◌, ℕ, ◌+◌, ◌*◌, ◌-◌, ◌<◌, ◌≤◌, true, false, List, [], ◌∷◌, length}
use Rattle.chord_lexer.specs.Letters.{is_digit, is_identifier_byte, all_pass, first_passes}

-- The value of decimal digits, where those before them have the value n.
abbrev pub value_after : ℕ → List ℕ → ℕ
value_after n [] = n
value_after n (b ∷ bs) = value_after (10 * n + (b - 0x30)) bs

-- A number is one digit or more, as many as there are, with no letter after them, and is at most 2,147,483,648. Zeros may lead.
pub record IsNumber (n : ℕ) (digits rest : List ℕ) : Type 0 where
  pub some : 0 < length digits
  pub all : all_pass is_digit digits ≡ true
  pub end : first_passes is_identifier_byte rest ≡ false
  pub value : value_after 0 digits ≡ n
  pub small : n ≤ 2147483648
