-- The groups of a class's methods, computed: each method has a label, and a chord gives all labels of its methods one label.
use Rattle.std.specs.Prelude.{◌≡◌, ◌↔◌, ℕ, List, [], ◌∷◌, cond, map}
use Rattle.chord_bodies.specs.Resolved.{ChordOf}
use Rattle.chord_classes.specs.Table.{among}
use Rattle.chord_classes.specs.DeclarationRules.{Grouped}

-- the label v after a chord with these methods
abbrev pub merged : List ℕ → (ℕ → ℕ) → ℕ → ℕ
merged [] f v = v
merged (j ∷ js) f v = cond (among v (map f (j ∷ js))) (f j) v

-- the label of a method after these chords
abbrev pub label : List ChordOf → ℕ → ℕ
label [] i = i
label (k ∷ ks) i = merged k.methods (label ks) (label ks i)

-- methods have one label exactly where they are of one group
abbrev pub LabelsGroup : Type 0
LabelsGroup = (chords : List ChordOf) (i j : ℕ) → (label chords i ≡ label chords j) ↔ Grouped chords i j
