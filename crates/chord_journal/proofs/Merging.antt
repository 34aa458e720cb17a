-- Entries in the places of their numbers, as some are added, left out and put there.
use Rattle.std.proofs.Common.{◌≡◌, ℕ, zero, suc, ◌+◌, ◌==◌, ◌<◌, ◌≤◌, true, false, cond, List, [], ◌∷◌, ◌++◌, length, get_or, refl, ap, sym, ◌∙◌, arith, append_assoc, add-one}
use Rattle.std.specs.Prelude.{slice_set}
use Rattle.std.specs.List.Sorted.{IsPermutation}
use Rattle.std.proofs.lemmas.List.Sorted.{IsPermutation-refl, IsPermutation-trans, IsPermutation-cons, IsPermutation-sym, IsPermutation-middle, IsPermutation-append_left, IsPermutation-append_right, IsPermutation-append_comm, length_permutation}
use Rattle.std.proofs.lemmas.List.{append-nil, flat_map_more}
use Rattle.std.proofs.lemmas.List.Concat.{flat_map-cons}
use Rattle.std.specs.List.{flat_map}
use Rattle.chord_base.specs.declared.event.Entry.{Entry}
use Rattle.chord_journal.specs.Gathered.{in_places, StandInPlace, IsNumberNext, IsHole}

-- two lists before a third change places
turned : {A : Type 0} (first second third : List A) → IsPermutation (first ++ (second ++ third)) (second ++ (first ++ third))
turned first second third =
    let before = IsPermutation-append_left third _ _ (IsPermutation-append_comm first second) in
    rw (append_assoc first second third, append_assoc second first third) at before

-- an entry in its place behind others
pub placed_last : (n : ℕ) (es : List Entry) (e : Entry) → e.number ≡ n + length es → in_places n (es ++ e ∷ []) ≡ in_places n es ++ e ∷ []
placed_last n [] e is =
    let same : (e.number == n) ≡ true = grind (arith, is) in
    rw same refl
placed_last n (x ∷ es) e is =
    let below = placed_last (suc n) es e (omega (arith, is)) in
    elim (x.number == n) as (λ t. cond t (x ∷ in_places (suc n) (es ++ e ∷ [])) (in_places (suc n) (es ++ e ∷ [])) ≡ cond t (x ∷ in_places (suc n) es) (in_places (suc n) es) ++ e ∷ []) [
      | true ↦ ap (λ l. x ∷ l) below
      | false ↦ below
    ]

-- one out of its place behind others
pub out_of_place : (n : ℕ) (es : List Entry) (e : Entry) → (e.number == n + length es) ≡ false → in_places n (es ++ e ∷ []) ≡ in_places n es
out_of_place n [] e is =
    let same : (e.number == n) ≡ false = grind (arith, is) in
    rw same refl
out_of_place n (x ∷ es) e is =
    let below = out_of_place (suc n) es e (grind (arith, is)) in
    elim (x.number == n) as (λ t. cond t (x ∷ in_places (suc n) (es ++ e ∷ [])) (in_places (suc n) (es ++ e ∷ [])) ≡ cond t (x ∷ in_places (suc n) es) (in_places (suc n) es)) [
      | true ↦ ap (λ l. x ∷ l) below
      | false ↦ below
    ]

-- an entry in its place, where another stood out of its own
put : (n : ℕ) (es : List Entry) (i : ℕ) (e d : Entry) → i < length es → ((get_or es i d).number == n + i) ≡ false → e.number ≡ n + i → IsPermutation (e ∷ in_places n es) (in_places n (slice_set es i e))
put n [] i e d within hole is = absurd (omega (arith, within))
put n (x ∷ es) zero e d within hole is =
    let was : (x.number == n) ≡ false = grind (arith, hole) in
    let now : (e.number == n) ≡ true = grind (arith, is) in
    rw (was, now) (IsPermutation-refl _)
put n (x ∷ es) (suc i) e d within hole is =
    let below = put (suc n) es i e d (omega (arith, within)) (grind (arith, hole)) (omega (arith, is)) in
    elim (x.number == n) as (λ t. IsPermutation (e ∷ cond t (x ∷ in_places (suc n) es) (in_places (suc n) es)) (cond t (x ∷ in_places (suc n) (slice_set es i e)) (in_places (suc n) (slice_set es i e)))) [
      | true ↦ IsPermutation-trans _ _ _ (IsPermutation-sym _ _ (IsPermutation-middle (x ∷ []) e _)) (IsPermutation-cons x _ _ below)
      | false ↦ below
    ]

-- the number of the first of others
number_of_next : (rest left : List Entry) (e : Entry) (n : ℕ) → IsNumberNext n rest → rest ≡ e ∷ left → e.number ≡ n
number_of_next rest left e n next is =
    let (entry, more, same, numbered) = next in
    let first : e ≡ entry = cc in
    rw first numbered

-- the first of others in the place of a hole
pub hole_filled : (es rest left : List Entry) (i : ℕ) (e : Entry) → IsHole i es → IsNumberNext i rest → rest ≡ e ∷ left → IsPermutation (in_places 0 es ++ rest) (in_places 0 (slice_set es i e) ++ left)
hole_filled es rest left i e hole next is =
    let start : 0 + i ≡ i = omega arith in
    let there = put 0 es i e e hole.0 (rw start (hole.1 e)) (rw start (number_of_next rest left e i next is)) in
    rw is (IsPermutation-trans _ _ _ (IsPermutation-middle (in_places 0 es) e left) (IsPermutation-append_left left _ _ there))

-- the first of others behind those in their places
pub appended_to_placed : (es rest left : List Entry) (e : Entry) → IsNumberNext (length es) rest → rest ≡ e ∷ left → in_places 0 (es ++ e ∷ []) ++ left ≡ in_places 0 es ++ rest
appended_to_placed es rest left e next is =
    let numbered = number_of_next rest left e (length es) next is in
    ap (λ l. l ++ left) (placed_last 0 es e (omega (arith, numbered))) ∙ append_assoc (in_places 0 es) (e ∷ []) left ∙ ap (λ l. in_places 0 es ++ l) (sym is)

-- one that stands in its place is kept
pub placed_kept : (strays others given : List Entry) (n : ℕ) (e : Entry) (es left : List Entry) → strays ++ in_places n es ≡ given → es ≡ e ∷ left → e.number ≡ n → others ≡ strays ++ e ∷ [] → others ++ in_places (n + 1) left ≡ given
placed_kept strays others given n e es left had is numbered more =
    let same : (e.number == n) ≡ true = grind (arith, numbered) in
    let here : in_places n (e ∷ left) ≡ e ∷ in_places (suc n) left = rw same refl in
    let parts : (strays ++ e ∷ []) ++ in_places (suc n) left ≡ strays ++ e ∷ in_places (suc n) left = append_assoc strays (e ∷ []) (in_places (suc n) left) in
    rw (more, add-one n) (parts ∙ ap (λ l. strays ++ l) (sym here) ∙ ap (λ l. strays ++ in_places n l) (sym is) ∙ had)

-- one that does not is left out
pub without_hole_kept : (strays given : List Entry) (n : ℕ) (e : Entry) (es left : List Entry) → strays ++ in_places n es ≡ given → es ≡ e ∷ left → (e.number == n) ≡ false → strays ++ in_places (n + 1) left ≡ given
without_hole_kept strays given n e es left had is other =
    let here : in_places n (e ∷ left) ≡ in_places (suc n) left = rw other refl in
    rw (add-one n) (ap (λ l. strays ++ l) (sym here) ∙ ap (λ l. strays ++ in_places n l) (sym is) ∙ had)

-- no more are in their places than there are
few_placed : (n : ℕ) (es : List Entry) → length (in_places n es) ≤ length es
few_placed n [] = omega arith
few_placed n (x ∷ es) =
    let below = few_placed (suc n) es in
    elim (x.number == n) as (λ t. length (cond t (x ∷ in_places (suc n) es) (in_places (suc n) es)) ≤ suc (length es)) [
      | true ↦ omega (arith, below)
      | false ↦ omega (arith, below)
    ]

-- where as many are in their places as there are, all are
pub all_placed : (n : ℕ) (es : List Entry) → length (in_places n es) ≡ length es → in_places n es ≡ es
all_placed n [] all = refl
all_placed n (x ∷ es) all =
    elim (x.number == n) as (λ t. length (cond t (x ∷ in_places (suc n) es) (in_places (suc n) es)) ≡ suc (length es) → cond t (x ∷ in_places (suc n) es) (in_places (suc n) es) ≡ x ∷ es) [
      | true ↦ λ h. ap (λ l. x ∷ l) (all_placed (suc n) es (omega (arith, h)))
      | false ↦ λ h. (let few = few_placed (suc n) es in absurd (omega (arith, h, few)))
    ] all

-- an entry in its place before others in theirs
stand_at : (n : ℕ) (x : Entry) (es : List Entry) (i : ℕ) (d : Entry) → x.number ≡ n → ((j : ℕ) (d : Entry) → j < length es → (get_or es j d).number ≡ suc n + j) → i < suc (length es) → (get_or (x ∷ es) i d).number ≡ n + i
stand_at n x es zero d here below within = omega (arith, here)
stand_at n x es (suc i) d here below within =
    let there = below i d (omega (arith, within)) in
    omega (arith, there)

-- and each has the number of its place
stand_from : (n : ℕ) (es : List Entry) → length (in_places n es) ≡ length es → (i : ℕ) (d : Entry) → i < length es → (get_or es i d).number ≡ n + i
stand_from n [] all i d within = absurd (omega (arith, within))
stand_from n (x ∷ es) all i d within =
    elim (x.number == n) as (λ t. (x.number == n) ≡ t → length (cond t (x ∷ in_places (suc n) es) (in_places (suc n) es)) ≡ suc (length es) → (get_or (x ∷ es) i d).number ≡ n + i) [
      | true ↦ λ is h. stand_at n x es i d (grind (arith, is)) (stand_from (suc n) es (omega (arith, h))) within
      | false ↦ λ is h. (let few = few_placed (suc n) es in absurd (omega (arith, h, few)))
    ] refl all

-- lists before and behind change places with a third between them
pub beside_between : (before after rest left between : List Entry) → IsPermutation (before ++ rest) (after ++ left) → IsPermutation (before ++ (between ++ rest)) (after ++ (between ++ left))
beside_between before after rest left between moved =
    let behind = IsPermutation-append_right between _ _ moved in
    IsPermutation-trans _ _ _ (turned before between rest) (IsPermutation-trans _ _ _ behind (turned between after left))

-- the same of what did not move
pub beside_between_same : (before after rest left between : List Entry) → after ++ left ≡ before ++ rest → IsPermutation (before ++ (between ++ rest)) (after ++ (between ++ left))
beside_between_same before after rest left between same =
    let moved : IsPermutation (before ++ rest) (after ++ left) = rw same (IsPermutation-refl _) in
    beside_between before after rest left between moved

-- three lists before a fourth
parted : {A : Type 0} (first second third fourth : List A) → (first ++ (second ++ third)) ++ fourth ≡ first ++ (second ++ (third ++ fourth))
parted first second third fourth = append_assoc first (second ++ third) fourth ∙ ap (λ l. first ++ l) (append_assoc second third fourth)

-- of several lists, what all but one have
abbrev beside_one : {X A : Type 0} → (X → List A) → List X → ℕ → List A
beside_one f [] i = []
beside_one f (x ∷ xs) zero = flat_map f xs
beside_one f (x ∷ xs) (suc i) = f x ++ beside_one f xs i

-- all have what one of them and the others have
one_beside : {X A : Type 0} (f : X → List A) (xs : List X) (i : ℕ) (d : X) → i < length xs → IsPermutation (flat_map f xs) (f (get_or xs i d) ++ beside_one f xs i)
one_beside f [] i d within = absurd (omega (arith, within))
one_beside f (x ∷ xs) zero d within = rw (flat_map-cons f x xs) (IsPermutation-refl _)
one_beside f (x ∷ xs) (suc i) d within =
    let below = IsPermutation-append_right (f x) _ _ (one_beside f xs i d (omega (arith, within))) in
    rw (flat_map-cons f x xs) (IsPermutation-trans _ _ _ below (turned (f x) (f (get_or xs i d)) (beside_one f xs i)))

-- and so where that one is another now
other_beside : {X A : Type 0} (f : X → List A) (xs : List X) (i : ℕ) (x : X) → i < length xs → IsPermutation (flat_map f (slice_set xs i x)) (f x ++ beside_one f xs i)
other_beside f [] i x within = absurd (omega (arith, within))
other_beside f (y ∷ xs) zero x within = rw (flat_map-cons f x xs) (IsPermutation-refl _)
other_beside f (y ∷ xs) (suc i) x within =
    let below = IsPermutation-append_right (f y) _ _ (other_beside f xs i x (omega (arith, within))) in
    rw (flat_map-cons f y (slice_set xs i x)) (IsPermutation-trans _ _ _ below (turned (f y) (f x) (beside_one f xs i)))

-- what went from one of several lists to the places and the strays
pub one_list_less : {X : Type 0} (f : X → List Entry) (xs : List X) (i : ℕ) (x d : X) (before after strays others : List Entry) → i < length xs → IsPermutation (before ++ (strays ++ f (get_or xs i d))) (after ++ (others ++ f x))
    → IsPermutation (before ++ (strays ++ flat_map f xs)) (after ++ (others ++ flat_map f (slice_set xs i x)))
one_list_less f xs i x d before after strays others within moved =
    let left = beside_one f xs i in
    let had = IsPermutation-append_right before _ _ (IsPermutation-append_right strays _ _ (one_beside f xs i d within)) in
    let has = IsPermutation-append_right after _ _ (IsPermutation-append_right others _ _ (IsPermutation-sym _ _ (other_beside f xs i x within))) in
    let more = IsPermutation-append_left left _ _ moved in
    IsPermutation-trans _ _ _ had (IsPermutation-trans _ _ _ (rw (parted before strays (f (get_or xs i d)) left, parted after others (f x) left) at more) has)

-- one list more that is to be taken from its front
pub one_rest_more : {X Y A : Type 0} (f : X → List A) (g : Y → List A) (xs : List X) (x : X) (y : Y) (ys left : List Y) (all : List A) → flat_map f xs ++ flat_map g ys ≡ all → ys ≡ y ∷ left → f x ≡ g y → flat_map f (xs ++ x ∷ []) ++ flat_map g left ≡ all
one_rest_more f g xs x y ys left all had is same =
    ap (λ l. l ++ flat_map g left) (sym (flat_map_more f [] xs x)) ∙ append_assoc (flat_map f xs) (f x) (flat_map g left)
    ∙ ap (λ l. flat_map f xs ++ l) (ap (λ l. l ++ flat_map g left) same ∙ sym (flat_map-cons g y left) ∙ ap (flat_map g) (sym is)) ∙ had

-- one list more behind the strays
pub one_list_aside : {X A : Type 0} (f : X → List A) (xs left : List X) (x : X) (strays others all : List A) → strays ++ flat_map f xs ≡ all → xs ≡ x ∷ left → others ≡ strays ++ f x → others ++ flat_map f left ≡ all
one_list_aside f xs left x strays others all had is more =
    ap (λ l. l ++ flat_map f left) more ∙ append_assoc strays (f x) (flat_map f left) ∙ ap (λ l. strays ++ l) (sym (flat_map-cons f x left) ∙ ap (flat_map f) (sym is)) ∙ had

-- where as many entries stand as came, and there is no stray, each stands in its place
pub complete : (came es strays : List Entry) → length es ≡ length came → strays ≡ [] → IsPermutation came (in_places 0 es ++ strays) → IsPermutation came es × StandInPlace (length es) es
complete came es strays long none moved =
    let whole : IsPermutation came (in_places 0 es) = rw (none, append-nil (in_places 0 es)) at moved in
    let count = length_permutation came (in_places 0 es) whole in
    let all : length (in_places 0 es) ≡ length es = omega (arith, long, count) in
    (rw (all_placed 0 es all) at whole, λ i d within. (let stands = stand_from 0 es all i d within in omega (arith, stands)))

-- where there are others, those that stand in their places go behind the strays
pub apart : (came es strays others : List Entry) → others ≡ strays ++ in_places 0 es → IsPermutation came (in_places 0 es ++ strays) → IsPermutation came others
apart came es strays others is moved = rw is (IsPermutation-trans _ _ _ moved (IsPermutation-append_comm (in_places 0 es) strays))
