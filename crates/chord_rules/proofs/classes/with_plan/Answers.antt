use Rattle.std.proofs.Common.{[], ◌∷◌, ◌++◌, ◌+◌, map, refl, ap, ◌∙◌}
use Rattle.chord_bodies.specs.View.{view_class_plan}
use Rattle.chord_classes.proofs.GrownMethods.{map_end}
use Rattle.chord_rules.proofs.classes.with_plan.Goals as goal

pub returns : goal.returns
returns c = record {
  table = refl;
  plans = ap (map view_class_plan) c.in_ok-push.ensures.items ∙ map_end view_class_plan c.args.progress.plans.items c.in_ok-plan.plan ∙ ap (λ z. map view_class_plan c.args.progress.plans.items ++ (z ∷ [])) c.in_ok-plan.ensures;
  depths = refl;
  number = c.in_ok-progress.ensures.next ∙ ap (λ z. c.args.progress.number + z) c.member_count.ensures;
}
