-- The word of a message's place: 1 in bit 0, the object's number in bits 1 to 20, its class in bits 21 to 30, the method in bits 31 to 35.
use Rattle.std.specs.Prelude.{◌≡◌, ◌≢◌, ◌⊎◌, ℕ, ◌+◌, ◌*◌, ◌^◌, ◌<◌}
use Rattle.chord_base.specs.declared.value.Object.{Object}
use Rattle.chord_word.specs.Bits.{bits}

-- the object's number, its class and the method fit in their bits
abbrev pub PlaceFits : Object → ℕ → Type 0
PlaceFits object method = (object.number < 2 ^ 20) × (object.class < 2 ^ 10) × (method < 2 ^ 5)

-- the word of a method of an object, a number below 2 ^ 36
abbrev pub place_word : Object → ℕ → ℕ
place_word object method = 1 + 2 ^ 1 * object.number + 2 ^ 21 * object.class + 2 ^ 31 * method

-- the word shows the place: each part is read off its own bits, and no other bit is set
pub record ShowsPlace (word : ℕ) (object : Object) (method : ℕ) : Type 0 where
  pub placed : bits word 0 0 ≡ 1
  pub object_number : bits word 1 20 ≡ object.number
  pub object_class : bits word 21 30 ≡ object.class
  pub method_number : bits word 31 35 ≡ method
  pub rest : bits word 36 63 ≡ 0

-- the words that are no place: bit 0 isn't set, or one from 36 on is
abbrev pub IsNoPlace : ℕ → Type 0
IsNoPlace word = (bits word 0 0 ≡ 0) ⊎ (bits word 36 63 ≢ 0)
