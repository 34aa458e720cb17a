-- Members are looked at in order.
use Rattle.std.proofs.Common.{suc, ◌≡◌, ℕ, ◌+◌, ◌-◌, ◌<◌, List, [], ◌∷◌, ◌++◌, length, reverse, take, drop, append_assoc, slice_index_or, refl, sym, ap, ◌∙◌, arith}
use Rattle.std.proofs.Math.Seq.{take-suc}
use Rattle.std.proofs.lemmas.List.{reverse-append}
use Rattle.chord_word.specs.declared.cells.Cell.{Cell}
use Rattle.chord_word.specs.declared.cells.Cell.TheVariants.{Pending, Claimed}
use Rattle.chord_word.specs.declared.cells.Word.{Word}
use Rattle.chord_rule.specs.declared.view.Look.{Look}
use Rattle.chord_match.specs.Claiming.{members_from, WentAndCame}
use Rattle.chord_match.specs.Fires.{messages_and_cells, all_with}
use Rattle.chord_match.proofs.Lists.{from_place}

-- the messages of looks and of those before them
pub both_looks : (a b : List Look) → messages_and_cells (a ++ b) ≡ messages_and_cells a ++ messages_and_cells b
both_looks [] b = refl
both_looks (l ∷ a) b = ap (λ (z : List (ℕ × Cell)). (l.number, l.word.cell) ∷ z) (both_looks a b)

-- messages and those behind them with one cell
both_with : (c : Cell) (is js : List ℕ) → all_with c (is ++ js) ≡ all_with c is ++ all_with c js
both_with c [] js = refl
both_with c (i ∷ is) js = ap (λ (z : List (ℕ × Cell)). (i, c) ∷ z) (both_with c is js)

-- the first one of messages is the last one of them in reverse
pub reversed_with : (c : Cell) (i : ℕ) (is : List ℕ) → all_with c (reverse is) ++ (i, c) ∷ [] ≡ all_with c (reverse (i ∷ is))
reversed_with c i is = sym (both_with c (reverse is) (i ∷ [])) ∙ ap (all_with c) (sym (reverse-append (i ∷ []) is))

-- the member of this place is the newest one of those up to it
pub newest_of : (ms : List ℕ) (k : ℕ) → k < length ms → reverse (take (suc k) ms) ≡ slice_index_or ms k 0 ∷ reverse (take k ms)
newest_of ms k low = ap reverse (take-suc ms k 0 low) ∙ reverse-append (take k ms) (slice_index_or ms k 0 ∷ [])

-- no member stands from a place on up to below it
pub none_from : (ms : List ℕ) (at : ℕ) → members_from at at ms ≡ []
none_from ms at = let none : at - at ≡ 0 = omega arith in ap (λ (k : ℕ). take k (drop at ms)) none

-- the member of this place is the first one from it on
pub first_from : (ms : List ℕ) (at end : ℕ) → at < end → at < length ms → members_from at end ms ≡ slice_index_or ms at 0 ∷ members_from (at + 1) end ms
first_from ms at end more low =
    let e : end - at ≡ suc (end - (at + 1)) = omega (arith, more) in
    ap (λ (k : ℕ). take k (drop at ms)) e ∙ ap (take (suc (end - (at + 1)))) (from_place ms at low)

-- the members from the first one on are those before the end
pub all_from : (ms : List ℕ) (end : ℕ) → members_from 0 end ms ≡ take end ms
all_from ms end = let e : end - 0 ≡ end = omega arith in ap (λ (k : ℕ). take k ms) e

-- one member more was claimed before, and given back behind
pub went_further : (i : ℕ) (a b : Word) (ls : List Look) (is : List ℕ) (rest : List (ℕ × Cell)) → a.cell ≡ Claimed → b.cell ≡ Pending → WentAndCame is rest ls
    → WentAndCame (i ∷ is) rest (record { number = i; word = b } ∷ (ls ++ record { number = i; word = a } ∷ []))
went_further i a b ls is rest claimed pending e =
    ap (λ (z : List (ℕ × Cell)). (i, b.cell) ∷ z) (both_looks ls (record { number = i; word = a } ∷ []))
    ∙ (λ k. (i, pending k) ∷ (e k ++ (i, claimed k) ∷ []))
    ∙ ap (λ (z : List (ℕ × Cell)). (i, Pending) ∷ z) (append_assoc (all_with Pending is) (rest ++ all_with Claimed (reverse is)) ((i, Claimed) ∷ [])
    ∙ ap (λ (z : List (ℕ × Cell)). all_with Pending is ++ z) (append_assoc rest (all_with Claimed (reverse is)) ((i, Claimed) ∷ []) ∙ ap (λ (z : List (ℕ × Cell)). rest ++ z) (reversed_with Claimed i is)))
