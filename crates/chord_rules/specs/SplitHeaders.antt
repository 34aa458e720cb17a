-- The rule on groups, header by header, where each method has a label.
use Rattle.std.specs.Prelude.{ℕ, zero, suc, List, [], ◌∷◌, ◌++◌, Bool, false, not, ◌&&◌, ◌||◌, nat_eq, cond, length, Option, Some, None, option_map}
use Rattle.chord_tree.specs.Tree.{HeaderTree}
use Rattle.chord_classes.specs.Table.{Method, Found, method_named, among}
use Rattle.chord_classes.specs.NameRules.{when}
use Rattle.chord_classes.specs.OverrideRules.{overrides}

-- the number of the method that a header overrides
abbrev pub overridden_number : List Method → HeaderTree → Option ℕ
overridden_number methods header = cond (overrides header) (option_map (λ (found : Found). found.number) (method_named methods header.name.text)) None

-- one of the first methods has this label, and is not overridden
abbrev pub spared_below : (ℕ → ℕ) → List ℕ → ℕ → ℕ → Bool
spared_below labelled taken label zero = false
spared_below labelled taken label (suc n) = (nat_eq (labelled n) label && not (among n taken)) || spared_below labelled taken label n

-- labels, and one more if it is not among them
abbrev pub with_label : List ℕ → ℕ → List ℕ
with_label seen label = cond (among label seen) seen (seen ++ (label ∷ []))

-- labels, and that of a method that is overridden
abbrev pub seen_with_number : (ℕ → ℕ) → List ℕ → Option ℕ → List ℕ
seen_with_number labelled seen None = seen
seen_with_number labelled seen (Some number) = with_label seen (labelled number)

-- the labels that were seen after headers
abbrev pub seen_after : (ℕ → ℕ) → List Method → List ℕ → List HeaderTree → List ℕ
seen_after labelled methods seen [] = seen
seen_after labelled methods seen (header ∷ more) = seen_after labelled methods (seen_with_number labelled seen (overridden_number methods header)) more

-- a header is the first of its group, and the group is not overridden whole
abbrev pub splits_at : (ℕ → ℕ) → List ℕ → ℕ → List ℕ → Option ℕ → ℕ → List ℕ
splits_at labelled taken count seen None at = []
splits_at labelled taken count seen (Some number) at = when (not (among (labelled number) seen) && spared_below labelled taken (labelled number) count) at

-- the first headers of groups that are not overridden whole, behind headers whose labels were seen
abbrev pub splits_from : (ℕ → ℕ) → List ℕ → List Method → List ℕ → List HeaderTree → List ℕ
splits_from labelled taken methods seen [] = []
splits_from labelled taken methods seen (header ∷ more) =
    splits_at labelled taken (length methods) seen (overridden_number methods header) header.name.at ++ splits_from labelled taken methods (seen_with_number labelled seen (overridden_number methods header)) more
