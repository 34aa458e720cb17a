-- Parts that are read one after the other.
use Rattle.std.proofs.Common.{◌≡◌, ℕ, zero, suc, ◌<◌, ◌-◌, Bool, true, false, List, [], ◌∷◌, ◌++◌, length, Some, None, refl, ap, append_assoc, append-nil, arith, length-append}
use Rattle.chord_journal.specs.Reading.{Read, ◌>>=◌, many, with_prefix, numbers_at, next_number_at}

-- nothing in front
pub with_prefix_nothing : {A : Type 0} (read : Read (List A)) → with_prefix [] read ≡ read
with_prefix_nothing None = refl
with_prefix_nothing (Some found) = refl

-- one more in front
pub with_prefix_next : {A : Type 0} (front : List A) (x : A) (read : Read (List A)) →
    with_prefix (front ++ (x ∷ [])) read ≡ with_prefix front (read >>= (λ xs. Some (x ∷ xs.0, xs.1)))
with_prefix_next front x None = refl
with_prefix_next front x (Some found) = ap (λ xs. Some (xs, found.1)) (append_assoc front (x ∷ []) found.0)

-- the room that is left before the next is one more than behind it
room_next : {A : Type 0} (most : ℕ) (front : List A) (x : A) → length front < most → most - length front ≡ suc (most - length (front ++ (x ∷ [])))
room_next most front x less = omega (arith, length-append front (x ∷ []))

-- where the next begins and is read, it stands behind those so far
pub many_next :
    {A : Type 0} (begins : List ℕ → Bool) (part : List ℕ → Read A) (most : ℕ) (front : List A) (rest more : List ℕ) (x : A) → length front < most →
    begins rest ≡ true → part rest ≡ Some (x, more) →
    with_prefix (front ++ (x ∷ [])) (many begins part (most - length (front ++ (x ∷ []))) more) ≡ with_prefix front (many begins part (most - length front) rest)
unfolding many
many_next begins part most front rest more x less begun read =
    rw (room_next most front x less, begun, read) (with_prefix_next front x (many begins part (most - length (front ++ (x ∷ []))) more))

-- where the next begins and is no part, nothing is read
pub many_wrong :
    {A : Type 0} (begins : List ℕ → Bool) (part : List ℕ → Read A) (room : ℕ) (front : List A) (rest : List ℕ) → begins rest ≡ true →
    part rest ≡ None → with_prefix front (many begins part room rest) ≡ None
unfolding many
many_wrong begins part zero front rest begun read = rw begun refl
many_wrong begins part (suc room) front rest begun read = rw (begun, read) refl

-- where the next begins and there is no more room, nothing is read
pub many_full :
    {A : Type 0} (begins : List ℕ → Bool) (part : List ℕ → Read A) (most : ℕ) (front : List A) (rest : List ℕ) → begins rest ≡ true →
    length front ≡ most → with_prefix front (many begins part (most - length front) rest) ≡ None
unfolding many
many_full begins part most front rest begun full =
    let none : most - length front ≡ 0 = omega arith in
    rw (none, begun) refl

-- where no next begins, what was read so far is all
pub many_end :
    {A : Type 0} (begins : List ℕ → Bool) (part : List ℕ → Read A) (room : ℕ) (front : List A) (rest : List ℕ) → begins rest ≡ false →
    with_prefix front (many begins part room rest) ≡ Some (front, rest)
unfolding many
many_end begins part zero front rest ended = rw (ended, append-nil front) refl
many_end begins part (suc room) front rest ended = rw (ended, append-nil front) refl

-- where the next number is read, it stands behind those so far
pub numbers_next :
    (count : ℕ) (front : List ℕ) (rest more : List ℕ) (n : ℕ) → length front < count → next_number_at rest ≡ Some (n, more) →
    with_prefix (front ++ (n ∷ [])) (numbers_at (count - length (front ++ (n ∷ []))) more) ≡ with_prefix front (numbers_at (count - length front) rest)
unfolding numbers_at
numbers_next count front rest more n less read =
    rw (room_next count front n less, read) (with_prefix_next front n (numbers_at (count - length (front ++ (n ∷ []))) more))

-- where the next is no number, nothing is read
pub numbers_wrong :
    (count : ℕ) (front : List ℕ) (rest : List ℕ) → length front < count → next_number_at rest ≡ None →
    with_prefix front (numbers_at (count - length front) rest) ≡ None
unfolding numbers_at
numbers_wrong count front rest less read =
    let next : count - length front ≡ suc (count - length front - 1) = omega arith in
    rw (next, read) refl

-- where as many are read as there are to be, they are all
pub numbers_end : (count : ℕ) (front : List ℕ) (rest : List ℕ) → length front ≡ count → with_prefix front (numbers_at (count - length front) rest) ≡ Some (front, rest)
unfolding numbers_at
numbers_end count front rest full =
    let none : count - length front ≡ 0 = omega arith in
    rw (none, append-nil front) refl
