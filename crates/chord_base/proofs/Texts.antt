-- Two runs of bytes that were written one behind the other.
use Rattle.std.proofs.Common.{◌≡◌, ℕ, ◌+◌, List, ◌++◌, length, take, refl, append_assoc, length-append}
use Rattle.std.proofs.lemmas.List.{take_at}

-- what was written first and what was written behind it are the front
pub both_written : (left right first second rest tail : List ℕ) → first ≡ left → second ≡ right → take (length left + length right) (take (length left) (first ++ rest) ++ (second ++ tail)) ≡ left ++ right
both_written left right first second rest tail e f =
    rw (e, f, take_at left rest (length left) refl, ← append_assoc left right tail) (take_at (left ++ right) tail (length left + length right) (length-append left right))
