-- The labels of all methods, chord by chord.
use Rattle.std.proofs.lemmas.Bool.{leb-true, leb-false}
use Rattle.std.proofs.Common.{◌≡◌, ℕ, zero, suc, ◌+◌, ◌-◌, ◌<◌, ◌≤◌, Bool, true, false, nat_le, List, [], ◌∷◌, cond, map, length, slice_index, drop, get_or, subst, refl, sym, ap, ◌∙◌, arith}
use Rattle.chord_bodies.specs.Resolved.{ChordOf}
use Rattle.chord_bodies.specs.declared.plan.ChordPlan.{ChordPlan}
use Rattle.chord_bodies.specs.View.{view_chord_plan}
use Rattle.chord_classes.proofs.Search.{item_here}
use Rattle.chord_classes.specs.Table.{among}
use Rattle.chord_rules.specs.Groups.{label, merged}
use Rattle.chord_rules.specs.Labels.{numbers, labels_of, merged_all, AreUnder, AllIn, above_methods, above_chords}

-- the first of the numbers that are left, and the others
pub numbers_step : (n i : ℕ) → i < n → numbers i (n - i) ≡ i ∷ numbers (i + 1) (n - (i + 1))
numbers_step n i l = let e : n - i ≡ suc (n - (i + 1)) = omega arith in ap (numbers i) e

-- item j of what a function makes of the numbers from a on is what it makes of a + j
index_numbers : (f : ℕ → ℕ) (a n j : ℕ) → j < n → slice_index (map f (numbers a n)) j ≡ f (a + j)
index_numbers f a zero j l = absurd (omega arith)
index_numbers f a (suc n) zero l = ap f (omega arith)
index_numbers f a (suc n) (suc j) l = index_numbers f (a + 1) n j (omega arith) ∙ ap f (omega arith)

-- the label v after a chord whose methods have these labels
abbrev by_list : List ℕ → ℕ → ℕ
by_list [] v = v
by_list (x ∷ xs) v = cond (among v (x ∷ xs)) x v

-- the label after a chord is the one by the list of its methods' labels
merged_list : (k : List ℕ) (f : ℕ → ℕ) (v : ℕ) → merged k f v ≡ by_list (map f k) v
merged_list [] f v = refl
merged_list (j ∷ js) f v = refl

-- what a function makes of numbers below n stands at their places in the list of what it makes of the first n numbers
same_map : (f : ℕ → ℕ) (n : ℕ) (k : List ℕ) → AreUnder n k → map (λ j. slice_index (map f (numbers 0 n)) j) k ≡ map f k
same_map f n [] h = refl
same_map f n (j ∷ js) h =
    ap (λ z. z ∷ map (λ i. slice_index (map f (numbers 0 n)) i) js) (index_numbers f 0 n j h.0 ∙ ap f (omega arith)) ∙ ap (λ z. f j ∷ z) (same_map f n js h.1)

-- to map by one function and then by one that equals another is to map by the first and that other at once
map_twice : (f g : ℕ → ℕ) (h : ℕ → ℕ) → ((v : ℕ) → f v ≡ h v) → (xs : List ℕ) → map f (map g xs) ≡ map (λ i. h (g i)) xs
map_twice f g h e [] = refl
map_twice f g h e (x ∷ xs) = ap (λ z. z ∷ map f (map g xs)) (e (g x)) ∙ ap (λ z. h (g x) ∷ z) (map_twice f g h e xs)

-- one more chord
pub merge_labels : (n : ℕ) (k : ChordOf) (ks : List ChordOf) → AreUnder n k.methods → merged_all k.methods (labels_of n ks) ≡ labels_of n (k ∷ ks)
merge_labels n k ks h =
    map_twice (merged k.methods (λ i. slice_index (labels_of n ks) i)) (label ks) (merged k.methods (label ks))
    (λ v. merged_list k.methods (λ i. slice_index (labels_of n ks) i) v ∙ ap (λ z. by_list z v) (same_map (label ks) n k.methods h) ∙ sym (merged_list k.methods (label ks) v)) (numbers 0 n)

-- without chords, the labels of numbers are these numbers
same : (xs : List ℕ) → xs ≡ map (label []) xs
same [] = refl
same (x ∷ xs) = ap (λ z. x ∷ z) (same xs)

-- without chords each method has its own number as its label
pub no_chords : (n : ℕ) → numbers 0 n ≡ labels_of n []
no_chords n = same (numbers 0 n)

-- the methods of the chords from a place on are among the first n, if those of all chords are
all_drop : (n : ℕ) (xs : List ChordPlan) (i : ℕ) → AllIn n (map view_chord_plan xs) → AllIn n (map view_chord_plan (drop i xs))
all_drop n xs zero h = h
all_drop n [] (suc i) h = h
all_drop n (x ∷ xs) (suc i) h = all_drop n xs i h.1

-- the chord at i, and then those after it
pub labels_more : (n : ℕ) (xs : List ChordPlan) (i j : ℕ) (x : ChordPlan) (old : List ℕ) → AllIn n (map view_chord_plan xs) → j ≡ i + 1 → i < length xs → x ≡ get_or xs i x
    → old ≡ labels_of n (map view_chord_plan (drop j xs)) → merged_all x.methods.items old ≡ labels_of n (map view_chord_plan (drop i xs))
labels_more n xs i j x old h e l is o =
    let at = item_here xs i x l is in
    let below = subst (λ z. AllIn n (map view_chord_plan z)) at (all_drop n xs i h) in
    ap (merged_all x.methods.items) (o ∙ ap (λ z. labels_of n (map view_chord_plan (drop z xs))) e)
    ∙ merge_labels n (view_chord_plan x) (map view_chord_plan (drop (i + 1) xs)) below.0
    ∙ ap (λ z. labels_of n (map view_chord_plan z)) (sym at)

-- the label of one of the first methods
pub label_of : (n : ℕ) (ks : List ChordOf) (i : ℕ) → i < n → slice_index (labels_of n ks) i ≡ label ks i
label_of n ks i l = index_numbers (label ks) 0 n i l ∙ ap (label ks) (omega arith)

-- the bound of methods is not below the number that it began with
more_methods : (b : ℕ) (js : List ℕ) → b ≤ above_methods b js
more_methods b [] = omega arith
more_methods b (j ∷ js) = by_less (nat_le b j) refl (more_methods (j + 1) js) (more_methods b js)
  where
    by_less : (c : Bool) → nat_le b j ≡ c → j + 1 ≤ above_methods (j + 1) js → b ≤ above_methods b js → b ≤ above_methods (cond c (j + 1) b) js
    by_less true e m k = let l = leb-true b j e in omega (arith, l, m)
    by_less false e m k = k

-- numbers below a bound are below each bound that is not less
under_more : (m n : ℕ) (js : List ℕ) → m ≤ n → AreUnder m js → AreUnder n js
under_more m n [] l h = tt
under_more m n (j ∷ js) l h = (let k = h.0 in omega arith, under_more m n js l h.1)

-- methods are below their bound
under_methods : (b : ℕ) (js : List ℕ) → AreUnder (above_methods b js) js
under_methods b [] = tt
under_methods b (j ∷ js) = (by_less (nat_le b j) refl, under_methods (cond (nat_le b j) (j + 1) b) js)
  where
    by_less : (c : Bool) → nat_le b j ≡ c → j < above_methods (cond c (j + 1) b) js
    by_less true e = let m = more_methods (j + 1) js in omega (arith, m)
    by_less false e = let l = leb-false b j e in let m = more_methods b js in omega (arith, l, m)

-- the bound of all methods of chords is not below the number that it began with
pub more_chords : (b : ℕ) (ks : List ChordOf) → b ≤ above_chords b ks
more_chords b [] = omega arith
more_chords b (k ∷ ks) = let l = more_methods b k.methods in let m = more_chords (above_methods b k.methods) ks in omega (arith, l, m)

-- all methods of chords are below their bound
pub under_chords : (b : ℕ) (ks : List ChordOf) → AllIn (above_chords b ks) ks
under_chords b [] = tt
under_chords b (k ∷ ks) = (under_more (above_methods b k.methods) (above_chords (above_methods b k.methods) ks) k.methods (more_chords (above_methods b k.methods) ks) (under_methods b k.methods), under_chords (above_methods b k.methods) ks)
