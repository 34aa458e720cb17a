-- Parts one after the other: what is read has their texts, and their texts are read.
use Rattle.std.proofs.Common.{◌≡◌, ℕ, zero, suc, ◌≤◌, Bool, true, false, cond, List, [], ◌∷◌, ◌++◌, length, Some, refl, ap, sym, ◌∙◌, append_assoc, arith, subst}
use Rattle.std.specs.List.{flat_map}
use Rattle.chord_journal.specs.Reading.{Read, ◌>>=◌, many}
use Rattle.chord_journal.proofs.Binds.{bound, passed, same_read}

-- of each item
abbrev pub Each : {A : Type 0} → (A → Type 0) → List A → Type 0
Each P [] = Unit {0}
Each P (x ∷ xs) = P x × Each P xs

-- a part in front of those that were read
abbrev put_front : {A : Type 0} → A → List A × List ℕ → Read (List A)
put_front x xs = Some (x ∷ xs.0, xs.1)

-- what is read behind a part
abbrev then_more : {A : Type 0} → (List ℕ → Bool) → (List ℕ → Read A) → ℕ → A × List ℕ → Read (List A)
then_more begins part room x = many begins part room x.1 >>= put_front x.0

-- what is read is as many parts as the room has, and has their texts
pub many_takes :
    {A : Type 0} (begins : List ℕ → Bool) (part : List ℕ → Read A) (text : A → List ℕ) (P : A → Type 0) →
    ((bytes : List ℕ) (x : A) (more : List ℕ) → part bytes ≡ Some (x, more) → (bytes ≡ text x ++ more) × P x) → (room : ℕ) (bytes : List ℕ) (xs : List A)
    (rest : List ℕ) → many begins part room bytes ≡ Some (xs, rest) → (bytes ≡ flat_map text xs ++ rest) × Each P xs × (length xs ≤ room)
unfolding many
many_takes {A} begins part text P takes zero bytes xs rest read =
    let (ended, is) = passed (begins bytes) (Some ([], bytes)) (xs, rest) read in
    let (none, left) = same_read {A = List A} [] xs bytes rest is in
    subst (λ (ys : List A). (bytes ≡ flat_map text ys ++ rest) × Each P ys × (length ys ≤ 0)) none (left, tt, omega arith)
many_takes {A} begins part text P takes (suc room) bytes xs rest read =
    elim (begins bytes) as
    (λ t. cond t (part bytes >>= then_more begins part room) (Some ([], bytes)) ≡ Some (xs, rest) →
    (bytes ≡ flat_map text xs ++ rest) × Each P xs × (length xs ≤ suc room)) [
      | true ↦ λ found.
          (let (x, first, second) = bound (part bytes) (then_more begins part room) (xs, rest) found in
          let (ys, others, is) = bound (many begins part room x.1) (put_front x.0) (xs, rest) second in
          let (all, left) = same_read {A = List A} (x.0 ∷ ys.0) xs ys.1 rest is in
          let (here, good) = takes bytes x.0 x.1 first in
          let (there, each, few) = many_takes begins part text P takes room x.1 ys.0 ys.1 others in
          let whole : bytes ≡ flat_map text (x.0 ∷ ys.0) ++ rest =
          here ∙ ap (λ b. text x.0 ++ b) (there ∙ ap (λ r. flat_map text ys.0 ++ r) left) ∙ sym (append_assoc (text x.0) (flat_map text ys.0) rest) in
          subst (λ (zs : List A). (bytes ≡ flat_map text zs ++ rest) × Each P zs × (length zs ≤ suc room)) all (whole, (good, each), omega (arith, few)))
      | false ↦ λ found.
          (let (none, left) = same_read {A = List A} [] xs bytes rest found in
          subst (λ (ys : List A). (bytes ≡ flat_map text ys ++ rest) × Each P ys × (length ys ≤ suc room)) none (left, tt, omega arith))
    ] read

-- the texts of parts are read, where what follows begins none
pub many_again :
    {A : Type 0} (begins : List ℕ → Bool) (part : List ℕ → Read A) (text : A → List ℕ) (P : A → Type 0) (rest : List ℕ) →
    ((x : A) (ys : List A) → P x →
    (begins (text x ++ (flat_map text ys ++ rest)) ≡ true) × (part (text x ++ (flat_map text ys ++ rest)) ≡ Some (x, flat_map text ys ++ rest))) →
    begins rest ≡ false → (room : ℕ) (xs : List A) → length xs ≤ room → Each P xs → many begins part room (flat_map text xs ++ rest) ≡ Some (xs, rest)
unfolding many
many_again begins part text P rest again ended zero [] few each = rw ended refl
many_again begins part text P rest again ended zero (x ∷ xs) few each = absurd (omega (arith, few))
many_again begins part text P rest again ended (suc room) [] few each = rw ended refl
many_again {A} begins part text P rest again ended (suc room) (x ∷ xs) few (good, each) =
    let (begun, read) = again x xs good in
    let more = many_again begins part text P rest again ended room xs (omega (arith, few)) each in
    rw (append_assoc (text x) (flat_map text xs) rest, begun, read, more) refl
