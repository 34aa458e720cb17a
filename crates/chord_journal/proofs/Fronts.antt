-- A text at the front of bytes.
use Rattle.std.proofs.Common.{◌≡◌, ℕ, true, false, ◌==◌, ◌&&◌, nat_eq, List, [], ◌∷◌, ◌++◌, length, take, drop, Some, None, cond, refl, arith}
use Rattle.std.specs.Cmp.Lexicographic.{pointwise}
use Rattle.chord_journal.specs.Reading.{after_text}

-- where the text is at the front, the bytes behind it
pub after_front : (text bytes : List ℕ) → pointwise nat_eq (take (length text) bytes) text ≡ true → after_text text bytes ≡ Some (drop (length text) bytes)
after_front [] bytes same = refl
after_front (c ∷ cs) [] same = absurd (cc)
after_front (c ∷ cs) (b ∷ bytes) same =
    elim (b == c) as (λ t. (b == c) ≡ t → (t && pointwise nat_eq (take (length cs) bytes) cs) ≡ true → cond t (after_text cs bytes) None ≡ Some (drop (length cs) bytes)) [
      | true ↦ λ is rest. after_front cs bytes rest
      | false ↦ λ is rest. absurd (cc)
    ] refl same

-- where it is not, nothing
pub after_none : (text bytes : List ℕ) → pointwise nat_eq (take (length text) bytes) text ≡ false → after_text text bytes ≡ None
after_none [] bytes same = absurd (cc)
after_none (c ∷ cs) [] same = refl
after_none (c ∷ cs) (b ∷ bytes) same =
    elim (b == c) as (λ t. (b == c) ≡ t → (t && pointwise nat_eq (take (length cs) bytes) cs) ≡ false → cond t (after_text cs bytes) None ≡ None) [
      | true ↦ λ is rest. after_none cs bytes rest
      | false ↦ λ is rest. refl
    ] refl same

-- bytes with a text in front
pub after_again : (text rest : List ℕ) → after_text text (text ++ rest) ≡ Some rest
after_again [] rest = refl
after_again (c ∷ cs) rest =
    let same : (c == c) ≡ true = grind arith in
    rw same (after_again cs rest)

-- what the text is behind
pub after_takes : (text bytes rest : List ℕ) → after_text text bytes ≡ Some rest → bytes ≡ text ++ rest
after_takes [] bytes rest read = cc
after_takes (c ∷ cs) [] rest read = absurd (cc)
after_takes (c ∷ cs) (b ∷ bytes) rest read =
    elim (b == c) as (λ t. (b == c) ≡ t → cond t (after_text cs bytes) None ≡ Some rest → b ∷ bytes ≡ c ∷ (cs ++ rest)) [
      | true ↦ λ is found. (let head : b ≡ c = grind arith in let tail = after_takes cs bytes rest found in cc)
      | false ↦ λ is found. absurd (cc)
    ] refl read
