-- The methods of a code's classes, and so of its messages and chords, are below the width of its largest class.
use Rattle.std.proofs.Common.{◌≡◌, ℕ, zero, suc, ◌+◌, ◌<◌, ◌≤◌, max, true, false, ◌==◌, inl, inr, List, [], ◌∷◌, length, get_or, map, drop, Option, Some, None, slice_get, refl, sym, ap, ◌∙◌, subst, arith}
use Rattle.std.proofs.Math.Seq.{drop-cons}
use Rattle.std.proofs.lemmas.Bool.{eqb-true}
use Rattle.std.proofs.lemmas.Option.{slice_get_within}
use Rattle.chord_base.proofs.Waits.{either}
use Rattle.chord_base.specs.Messages.{has}
use Rattle.chord_code.specs.declared.parts.ClassLine.{ClassLine}
use Rattle.chord_code.specs.declared.parts.Parts.{Parts}
use Rattle.chord_code.specs.Meaning.{chord_lines, listed_methods, methods_of, methods_of_line}
use Rattle.chord_code.specs.Sound.{HasMethod}
use Rattle.chord_code.specs.Valid.{AllLess, IsValid}
use Rattle.chord_code.proofs.Validity.{line_valid}
use Rattle.chord_space.specs.Widest.{most_methods, widest}

-- the number from which the count begins is within
pub at_least : (k : ℕ) (cs : List ClassLine) → k ≤ most_methods k cs
at_least k [] = omega arith
at_least k (c ∷ cs) = let more = at_least (max k (length c.methods)) cs in omega (arith, more)

-- so is the number of methods of each class
class_within : (k : ℕ) (cs : List ClassLine) (i : ℕ) (c : ClassLine) → slice_get cs i ≡ Some c → length c.methods ≤ most_methods k cs
class_within k [] i c e = absurd (cc)
class_within k (d ∷ ds) zero c e = let same : d ≡ c = cc in let more = at_least (max k (length d.methods)) ds in let long = ap (λ (z : ClassLine). length z.methods) same in omega (arith, more, long)
class_within k (d ∷ ds) (suc i) c e = class_within (max k (length d.methods)) ds i c e

-- what bounds the number of methods of each class bounds the most
pub most_below : (b k : ℕ) (cs : List ClassLine) → k ≤ b → ((i : ℕ) (c : ClassLine) → slice_get cs i ≡ Some c → length c.methods ≤ b) → most_methods k cs ≤ b
most_below b k [] low each = low
most_below b k (c ∷ cs) low each = let here = each 0 c refl in most_below b (max k (length c.methods)) cs (omega (arith, low, here)) (λ i d e. each (suc i) d e)

-- a class more is counted
pub class_counted : (cs : List ClassLine) (i k m : ℕ) (c : ClassLine) → i < length cs → c ≡ get_or cs i c → max k (length c.methods) ≡ m → most_methods k (drop i cs) ≡ most_methods m (drop (i + 1) cs)
class_counted cs i k m c low is larger = let next : suc i ≡ i + 1 = omega arith in
    ap (most_methods k) (drop-cons cs i c low) ∙ ap (λ (z : ClassLine). most_methods (max k (length z.methods)) (drop (suc i) cs)) (sym is) ∙ (λ t. most_methods (larger t) (drop (next t) cs))

-- a method of a class of the code
listed_within : (code : Parts) (c j : ℕ) (line : Option ClassLine) → slice_get code.classes c ≡ line → j < length (methods_of_line line) → j < widest code
listed_within code c j None e low = absurd (omega arith)
listed_within code c j (Some line) e low = let within = class_within 0 code.classes c line e in omega (arith, low, within)

-- a method of the code has a number below the width
pub method_within : (code : Parts) (c j n : ℕ) → HasMethod code c j n → j < widest code
method_within code c j n has = listed_within code c j (slice_get code.classes c) refl (slice_get_within (listed_methods code c) j has.line has.found)

-- what stands among numbers below n is below n
has_less : (n : ℕ) (js : List ℕ) → AllLess n js → (j : ℕ) → has j js ≡ true → j < n
has_less n [] a j h = (let z : false ≡ true = h in cc)
has_less n (k ∷ js) a j h = elim (either (j == k)) [ inl y ↦ subst (λ z. z < n) (sym (eqb-true j k y)) a.0 | inr o ↦ has_less n js a.1 j (rw o at h) ]

-- so has each method of a chord of a valid code
pub chord_within : (code : Parts) → IsValid code → (c k j : ℕ) (js : List ℕ) → slice_get (map methods_of (chord_lines code c)) k ≡ Some js → has j js ≡ true → j < widest code
chord_within code valid c k j js e h =
    let l = line_valid code valid c k js e in
    let low = has_less (length l.0.methods) l.1.methods l.3.there j (subst (λ (z : List ℕ). has j z ≡ true) (sym l.4) h) in let within = class_within 0 code.classes c l.0 l.2 in omega (arith, low, within)
