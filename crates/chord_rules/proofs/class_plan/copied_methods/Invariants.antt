use Rattle.std.proofs.Common.{◌≡◌, ◌++◌, map, drop}
use Rattle.chord_bodies.specs.View.{view_method_plan}
use Rattle.chord_rules.proofs.class_plan.copied_methods.Given as goal

abbrev pub invariant-loop-plan : goal.invariant-loop-plan
invariant-loop-plan l = map view_method_plan l.same.items ++ map view_method_plan (drop l.plan-index l.plans) ≡ map view_method_plan l.plans
