-- What is known where a note is read or written.
use Rattle.std.proofs.Common.{zero, suc, ◌≡◌, ◌≢◌, ℕ, ◌<◌, List, [], ◌∷◌, length, slice_index_or, slice_set, refl, ap, Option, Some, None, arith}
use mathlib.Core.Path.{Path}
use Rattle.chord_bag.specs.declared.walk.Sought.{Sought}
use Rattle.chord_bag.specs.declared.walk.Sought.TheVariants as a_sought
use Rattle.chord_match.specs.declared.notes.Note.{Note}
use Rattle.chord_match.specs.declared.notes.Note.TheVariants.{Nothing, Bare, Busy, Last, Before}
use Rattle.chord_match.specs.Noting.{told_by, all_told}

-- what a note that was read says is known
pub told_at_place : (notes : List Note) (j : ℕ) (d : Note) → j < length notes → slice_index_or (all_told notes) j None ≡ told_by (slice_index_or notes j d)
told_at_place [] j d l = absurd (omega (arith, l))
told_at_place (n ∷ notes) zero d l = refl
told_at_place (n ∷ notes) (suc j) d l = told_at_place notes j d (omega (arith, l))

-- what a note that is written says is known from then on
pub told_where_set : (notes : List Note) (j : ℕ) (n : Note) → all_told (slice_set notes j n) ≡ slice_set (all_told notes) j (told_by n)
told_where_set [] j n = refl
told_where_set (x ∷ notes) zero n = refl
told_where_set (x ∷ notes) (suc j) n = ap (λ (z : List (Option Sought)). told_by x ∷ z) (told_where_set notes j n)

-- a note for each bag
pub all_long : (notes : List Note) → length (all_told notes) ≡ length notes
all_long [] = refl
all_long (x ∷ notes) = ap suc (all_long notes)

-- a note that is not of a bare bag tells none
pub not_told_bare : (n : Note) → n ≢ Bare → told_by n ≢ Some a_sought.Bare
not_told_bare Nothing ne e = let z : Path (Option Sought) None (Some a_sought.Bare) = e in absurd (cc)
not_told_bare Bare ne e = absurd (ne refl)
not_told_bare (Busy i) ne e = let z : Path (Option Sought) (Some (a_sought.Busy i)) (Some a_sought.Bare) = e in absurd (cc)
not_told_bare (Last i) ne e = let z : Path (Option Sought) (Some (a_sought.Found i None)) (Some a_sought.Bare) = e in absurd (cc)
not_told_bare (Before i next) ne e = let z : Path (Option Sought) (Some (a_sought.Found i (Some next))) (Some a_sought.Bare) = e in absurd (cc)

-- a note that is not of a busy bag tells none
pub not_told_busy : (n : Note) (x : ℕ) → ((i : ℕ) → n ≢ Busy i) → told_by n ≢ Some (a_sought.Busy x)
not_told_busy Nothing x ne e = let z : Path (Option Sought) None (Some (a_sought.Busy x)) = e in absurd (cc)
not_told_busy Bare x ne e = let z : Path (Option Sought) (Some a_sought.Bare) (Some (a_sought.Busy x)) = e in absurd (cc)
not_told_busy (Busy i) x ne e = absurd (ne i refl)
not_told_busy (Last i) x ne e = let z : Path (Option Sought) (Some (a_sought.Found i None)) (Some (a_sought.Busy x)) = e in absurd (cc)
not_told_busy (Before i next) x ne e = let z : Path (Option Sought) (Some (a_sought.Found i (Some next))) (Some (a_sought.Busy x)) = e in absurd (cc)
