-- Text literals.
use Rattle.std.specs.Prelude.{◌≡◌, ℕ, Bool, true, not, cond, ◌||◌, List, [], ◌∷◌, ◌++◌, Option, Some, None, nat_eq, encode_utf8}
use Rattle.std.specs.Char.{IsScalar}

-- A character stands for itself if it is none of `"`, `\`, 0D and 0A.
abbrev pub is_plain : ℕ → Bool
is_plain c = not (nat_eq c 0x22 || nat_eq c 0x5C || nat_eq c 0x0D || nat_eq c 0x0A)

-- The byte that an escape stands for, by its second byte: `\"`, `\\`, `\n`, `\t` and `\r`.
abbrev pub escaped : ℕ → Option ℕ
escaped b = cond (nat_eq b 0x22) (Some 0x22) (cond (nat_eq b 0x5C) (Some 0x5C) (cond (nat_eq b 0x6E) (Some 0x0A) (cond (nat_eq b 0x74) (Some 0x09) (cond (nat_eq b 0x72) (Some 0x0D) None))))

-- The bytes between the quotes, and those that they stand for: characters in UTF-8, which stand for themselves, and escapes.
pub data StandsFor : List ℕ → List ℕ → Type 0 where
  none : StandsFor [] []
  plain : (c : ℕ) {body bytes : List ℕ} → IsScalar c → is_plain c ≡ true → StandsFor body bytes → StandsFor (encode_utf8 c ++ body) (encode_utf8 c ++ bytes)
  escape : {b byte : ℕ} {body bytes : List ℕ} → escaped b ≡ Some byte → StandsFor body bytes → StandsFor (0x5C ∷ b ∷ body) (byte ∷ bytes)

-- A literal is a body between quotes.
pub record IsLiteral (bytes literal : List ℕ) : Type 0 where
  pub body : List ℕ
  pub quoted : literal ≡ 0x22 ∷ (body ++ 0x22 ∷ [])
  pub meaning : StandsFor body bytes
