-- Steps that may give nothing.
use Rattle.std.proofs.Common.{◌≡◌, Bool, true, false, cond, Option, Some, None, refl, ap, List, ℕ}
use Rattle.chord_journal.specs.Reading.{◌>>=◌}

-- where two steps gave something, the first did, and the second gave it
pub bound : {A B : Type 0} (o : Option A) (f : A → Option B) (y : B) → (o >>= f) ≡ Some y → (x : A) × (o ≡ Some x) × (f x ≡ Some y)
bound None f y read = absurd (cc)
bound (Some x) f y read = (x, refl, read)

-- where a step under a test gave something, the test came out true
pub guarded : {A : Type 0} (b : Bool) (x : Option A) (y : A) → cond b x None ≡ Some y → (b ≡ true) × (x ≡ Some y)
guarded true x y read = (refl, read)
guarded false x y read = absurd (cc)

-- where a step behind a test that must not come out true gave something, it came out false
pub passed : {A : Type 0} (b : Bool) (x : Option A) (y : A) → cond b None x ≡ Some y → (b ≡ false) × (x ≡ Some y)
passed true x y read = absurd (cc)
passed false x y read = (refl, read)

-- what was read is one part and one rest
pub same_read : {A : Type 0} (x y : A) (rest more : List ℕ) → ◌≡◌ {A = Option (A × List ℕ)} (Some (x, rest)) (Some (y, more)) → (x ≡ y) × (rest ≡ more)
same_read {A} x y rest more is =
    let part : Option (A × List ℕ) → A = λ o. elim o [ Some p ↦ p.0 | None ↦ x ] in
    let left : Option (A × List ℕ) → List ℕ = λ o. elim o [ Some p ↦ p.1 | None ↦ rest ] in
    (ap part is, ap left is)

-- what a choice gave, one of the two gave, whose way the test went
pub by_branch : {A R : Type 0} (b : Bool) (x y : Option A) (z : A) → cond b x y ≡ Some z → (b ≡ true → x ≡ Some z → R) → (b ≡ false → y ≡ Some z → R) → R
by_branch true x y z read then_x then_y = then_x refl read
by_branch false x y z read then_x then_y = then_y refl read
