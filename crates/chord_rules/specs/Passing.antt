-- The one pass over the classes: one more class.
use Rattle.std.specs.Prelude.{◌≡◌, ℕ, ◌+◌, List, [], ◌∷◌, ◌++◌, map, length, take, Option}
use Rattle.chord_bodies.specs.Resolved.{ClassOf}
use Rattle.chord_tree.specs.Tree.{ClassTree}
use Rattle.chord_tree.specs.Node.{IsNumbered}
use Rattle.chord_tree.specs.ClassNodes.{node_classes}
use Rattle.chord_bodies.specs.View.{view_class_plan}
use Rattle.chord_classes.specs.Table.{shape_of}
use Rattle.chord_classes.specs.Plan.{class_plan, plans_after}
use Rattle.chord_classes.specs.ChordRules.{over_plans}
use Rattle.chord_rules.specs.declared.classes.Progress.{Progress}
use Rattle.chord_rules.specs.ClassKeys.{class_keys}
use Rattle.chord_rules.specs.Limits.{base_depth}
use Rattle.chord_rules.specs.Planning.{AreAlike}

-- The table went on by one class, and the plans stay.
pub record HasNextShape (before : Progress) (class : ClassTree) (base : Option ℕ) (next : Progress) : Type 0 where
  pub table : next.table ≡ before.table ++ (shape_of before.table class ∷ [])
  pub plans : next.plans.items ≡ before.plans.items
  pub depths : next.depths.items ≡ before.depths.items ++ (base_depth before.depths.items base ∷ [])
  pub number : next.number ≡ before.number

-- The plans went on by this one of a class, and the table stays.
pub record HasNextPlan (before : Progress) (class : ClassTree) (plan : ClassOf) (next : Progress) : Type 0 where
  pub table : next.table ≡ before.table
  pub plans : map view_class_plan next.plans.items ≡ map view_class_plan before.plans.items ++ (plan ∷ [])
  pub depths : next.depths.items ≡ before.depths.items
  pub number : next.number ≡ before.number + length class.members

-- The pass went on by one class.
pub record IsNextClass (before : Progress) (class : ClassTree) (next : Progress) : Type 0 where
  pub table : next.table ≡ before.table ++ (shape_of before.table class ∷ [])
  pub plans : map view_class_plan next.plans.items ≡ map view_class_plan before.plans.items ++ (class_plan before.table (map view_class_plan before.plans.items) before.number class ∷ [])
  pub number : next.number ≡ before.number + length class.members
  pub alike : AreAlike next.table (map view_class_plan next.plans.items) next.depths.items

-- Each number in classes is the place of its token, where the first stands at some place.
abbrev pub ClassesNumbered : List ClassTree → Type 0
ClassesNumbered classes = (at : ℕ) × IsNumbered (node_classes classes) at

-- The plans are those of the first classes, one for each, and none of these classes breaks a rule.
pub record StopBeforeBreak (classes : List ClassTree) (plans : List ClassOf) : Type 0 where
  pub planned : plans ≡ plans_after [] [] 0 (take (length plans) classes)
  pub unbroken : over_plans (class_keys classes) [] [] 0 (take (length plans) classes) ≡ []
