use Rattle.std.proofs.Common.{◌≡◌, ◌++◌, map, drop}
use Rattle.chord_bodies.specs.View.{view_method_plan}
use Rattle.chord_classes.specs.Plan.{method_plan}
use Rattle.chord_classes.specs.MethodViews.{see_method}
use Rattle.chord_rules.proofs.class_plan.with_methods.Given as goal

abbrev pub invariant-loop-method : goal.invariant-loop-method
invariant-loop-method l = map view_method_plan l.plans.items ++ map method_plan (map see_method (drop l.method-index l.methods)) ≡ map view_method_plan l.initial.plans.items ++ map method_plan (map see_method l.methods)
