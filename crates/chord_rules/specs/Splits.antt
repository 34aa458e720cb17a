-- C11 as a list: where a class overrides some and not all methods of a group of its base class.
use Rattle.std.specs.Prelude.{◌↔◌, ℕ, zero, suc, List, [], ◌∷◌, ◌++◌, Bool, false, not, ◌&&◌, ◌||◌, nat_eq, length, Contains}
use Rattle.chord_tree.specs.Tree.{HeaderTree, ClassTree}
use Rattle.chord_tree.specs.Walk.{headers_of}
use Rattle.chord_bodies.specs.Resolved.{ChordOf, ClassOf}
use Rattle.chord_classes.specs.Table.{Method, Shape, among, inherited, base_of}
use Rattle.chord_classes.specs.NameRules.{when}
use Rattle.chord_classes.specs.Plan.{header_number, overridden, base_chords}
use Rattle.chord_classes.specs.DeclarationRules.{overriding, SplitAmong}
use Rattle.chord_classes.specs.ChordRules.{over_plans}
use Rattle.chord_rules.specs.Groups.{label}

module _ (chords : List ChordOf) (taken : List ℕ) (methods : List Method) where
  -- one of the first methods has the label of this one, and is not overridden
  abbrev pub any_spared : ℕ → ℕ → Bool
  any_spared i zero = false
  any_spared i (suc n) = (nat_eq (label chords i) (label chords n) && not (among n taken)) || any_spared i n

  -- one of these headers has the label of this one
  abbrev pub any_labelled : HeaderTree → List HeaderTree → Bool
  any_labelled header [] = false
  any_labelled header (other ∷ more) = nat_eq (label chords (header_number methods header)) (label chords (header_number methods other)) || any_labelled header more

  -- the first headers of groups that are not overridden whole, behind others
  abbrev pub split_from : List HeaderTree → List HeaderTree → List ℕ
  split_from before [] = []
  split_from before (header ∷ more) =
      when (not (any_labelled header before) && any_spared (header_number methods header) (length methods)) header.name.at ++ split_from (before ++ (header ∷ [])) more

-- the first overriding headers of the groups of its base that a class overrides in part
abbrev pub split : List Shape → List ClassOf → ClassTree → List ℕ
split done plans class =
    split_from (base_chords plans (base_of done class)) (overridden (inherited done (base_of done class)) (headers_of class)) (inherited done (base_of done class)) [] (overriding (inherited done (base_of done class)) (headers_of class))

-- the list over all classes has the tokens at which a group is split, and no others
abbrev pub SplitsAreListed : Type 0
SplitsAreListed = (done : List Shape) (plans : List ClassOf) (number : ℕ) (classes : List ClassTree) (at : ℕ) → Contains (over_plans split done plans number classes) at ↔ SplitAmong done plans number classes at
