-- The labels of all methods as a list.
use Rattle.std.specs.Prelude.{ℕ, ◌+◌, ◌<◌, zero, suc, cond, List, [], ◌∷◌, map, slice_index, nat_le}
use Rattle.chord_bodies.specs.Resolved.{ChordOf}
use Rattle.chord_classes.specs.Table.{among}
use Rattle.chord_rules.specs.Groups.{label, merged}

-- so many numbers from one on
abbrev pub numbers : ℕ → ℕ → List ℕ
numbers from zero = []
numbers from (suc n) = from ∷ numbers (from + 1) n

-- the labels of the first methods
abbrev pub labels_of : ℕ → List ChordOf → List ℕ
labels_of n ks = map (label ks) (numbers 0 n)

-- each label after a chord, where labels holds those before
abbrev pub merged_all : List ℕ → List ℕ → List ℕ
merged_all k labels = map (merged k (λ i. slice_index labels i)) labels

-- a label that is among others becomes another
abbrev pub relabelled : List ℕ → ℕ → ℕ → ℕ
relabelled joined first v = cond (among v joined) first v

-- all numbers are below a bound
abbrev pub AreUnder : ℕ → List ℕ → Type 0
AreUnder n [] = Unit {0}
AreUnder n (j ∷ js) = (j < n) × AreUnder n js

-- all methods of all chords are among the first n
abbrev pub AllIn : ℕ → List ChordOf → Type 0
AllIn n [] = Unit {0}
AllIn n (k ∷ ks) = AreUnder n k.methods × AllIn n ks

-- the greater of a number and the one after the greatest of these
abbrev pub above_methods : ℕ → List ℕ → ℕ
above_methods bound [] = bound
above_methods bound (method ∷ more) = above_methods (cond (nat_le bound method) (method + 1) bound) more

-- the greater of a number and the one after the greatest method of chords
abbrev pub above_chords : ℕ → List ChordOf → ℕ
above_chords bound [] = bound
above_chords bound (chord ∷ more) = above_chords (above_methods bound chord.methods) more
