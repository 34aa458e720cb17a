-- A place's word is packed from one place alone, and its parts are read off their own bits.
use Rattle.std.proofs.Common.{◌≡◌, inl, inr, ℕ, ◌+◌, ◌*◌, ◌^◌, ◌<◌, sym, subst, ◌∙◌, arith}
use Rattle.chord_base.specs.declared.value.Object.{Object}
use Rattle.chord_word.specs.Bits.{bits}
use Rattle.chord_word.specs.Places.{PlaceFits, place_word, ShowsPlace, IsNoPlace}

-- a packed place is below 2 to the 36
pub place_low : (o : Object) (m : ℕ) → PlaceFits o m → place_word o m < 2 ^ 36
place_low o m f = let a = f.0 in let b = f.1 in let c = f.2 in omega arith

-- three numbers within their bits are read off the word again
place_parts : (n c m : ℕ) → n < 2 ^ 20 → c < 2 ^ 10 → m < 2 ^ 5 → let word : ℕ = 1 + 2 ^ 1 * n + 2 ^ 21 * c + 2 ^ 31 * m in (bits word 0 0 ≡ 1) × (bits word 1 20 ≡ n) × (bits word 21 30 ≡ c) × (bits word 31 35 ≡ m) × (bits word 36 63 ≡ 0)
place_parts n c m f g h = (omega arith, omega arith, omega arith, omega arith, omega arith)

-- a packed place shows the object and the method
pub shows_place : (o : Object) (m : ℕ) → PlaceFits o m → ShowsPlace (place_word o m) o m
shows_place o m f = let p = place_parts o.number o.class m f.0 f.1 f.2 in record { placed = p.0; object_number = p.1; object_class = p.2; method_number = p.3; rest = p.4 }

-- two places whose words have the same parts are one
pub same_place_parts : (word : ℕ) (o p : Object) (m k : ℕ) → ShowsPlace word o m → ShowsPlace word p k → (o ≡ p) × (m ≡ k)
same_place_parts word o p m k a b =
    let number : o.number ≡ p.number = sym a.object_number ∙ b.object_number in
    let class : o.class ≡ p.class = sym a.object_class ∙ b.object_class in
    ((λ i. record { number = number i; class = class i }), sym a.method_number ∙ b.method_number)

-- two places that are packed to one word are equal
pub same_place : (o p : Object) (m k : ℕ) → PlaceFits o m → PlaceFits p k → place_word o m ≡ place_word p k → (o ≡ p) × (m ≡ k)
same_place o p m k f g e = same_place_parts (place_word p k) o p m k (subst (λ (n : ℕ). ShowsPlace n o m) e (shows_place o m f)) (shows_place p k g)

-- no word of a place is one that no place has
pub some_place : (o : Object) (m : ℕ) → PlaceFits o m → IsNoPlace (place_word o m) → ⊥
some_place o m f (inl e) = let p = (shows_place o m f).placed in omega arith
some_place o m f (inr e) = e (shows_place o m f).rest
