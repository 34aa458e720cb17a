-- The type of a slot is that of a parameter or of a local.
use Rattle.std.proofs.Common.{◌≡◌, ℕ, zero, suc, ◌-◌, ◌<◌, ◌≤◌, List, [], ◌∷◌, ◌++◌, length, map, refl, ap, ◌∙◌, Option, Some, slice_get, arith}
use Rattle.chord_base.specs.declared.static_type.StaticType.{StaticType}
use Rattle.chord_bodies.specs.Types.{typed_slot}

-- the types of slots, each of which has one
abbrev all_typed : List StaticType → List (Option StaticType)
all_typed ts = map (λ t. Some t) ts

-- the type at a place below the number of the parameters is that of a parameter
within : (ps ls : List StaticType) (i : ℕ) → i < length ps → typed_slot (slice_get (all_typed (ps ++ ls)) i) ≡ slice_get ps i
within [] ls i h = absurd (omega (arith, h))
within (p ∷ ps) ls zero h = refl
within (p ∷ ps) ls (suc i) h = within ps ls i (let below : suc i < suc (length ps) = h in omega (arith, below))

-- the types of slots, each of which has one, are at each place what the list has there
there : (ls : List StaticType) (i : ℕ) → typed_slot (slice_get (all_typed ls) i) ≡ slice_get ls i
there [] i = refl
there (l ∷ ls) zero = refl
there (l ∷ ls) (suc i) = there ls i

-- the type at a place after the parameters is that of a local
past : (ps ls : List StaticType) (i : ℕ) → length ps ≤ i → typed_slot (slice_get (all_typed (ps ++ ls)) i) ≡ slice_get ls (i - length ps)
past [] ls i h = let same : i ≡ i - 0 = omega arith in there ls i ∙ ap (slice_get ls) same
past (p ∷ ps) ls zero h = absurd (let above : suc (length ps) ≤ 0 = h in omega (arith, above))
past (p ∷ ps) ls (suc i) h =
    let above : suc (length ps) ≤ suc i = h in
    let less : i - length ps ≡ suc i - suc (length ps) = omega arith in
    past ps ls i (omega (arith, above)) ∙ ap (slice_get ls) less

-- a slot of a parameter
pub parameter_slot : (this : Option StaticType) (ps ls : List StaticType) (slot : ℕ) → (slot ≡ 0 → ⊥) → slot - 1 < length ps → typed_slot (slice_get (this ∷ all_typed (ps ++ ls)) slot) ≡ slice_get ps (slot - 1)
parameter_slot this ps ls zero not h = absurd (not refl)
parameter_slot this ps ls (suc i) not h = let one : i ≡ suc i - 1 = omega arith in within ps ls i (omega (arith, one, h)) ∙ ap (slice_get ps) one

-- a slot of a local
pub local_slot : (this : Option StaticType) (ps ls : List StaticType) (slot : ℕ) → (slot ≡ 0 → ⊥) → length ps ≤ slot - 1 → typed_slot (slice_get (this ∷ all_typed (ps ++ ls)) slot) ≡ slice_get ls (slot - 1 - length ps)
local_slot this ps ls zero not h = absurd (not refl)
local_slot this ps ls (suc i) not h =
    let one : i ≡ suc i - 1 = omega arith in
    let same : i - length ps ≡ suc i - 1 - length ps = omega (arith, one) in
    past ps ls i (omega (arith, one, h)) ∙ ap (slice_get ls) same
