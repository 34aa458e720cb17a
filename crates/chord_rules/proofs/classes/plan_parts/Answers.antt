use Rattle.std.proofs.Common.{◌++◌, map, ap, ◌∙◌}
use Rattle.chord_bodies.specs.View.{view_class_plan, view_chord_plan}
use Rattle.chord_classes.specs.Plan.{method_plan, chords_without, base_chords}
use Rattle.chord_classes.specs.MethodViews.{see_method}
use Rattle.chord_rules.specs.Planning.{base_methods}
use Rattle.chord_rules.proofs.classes.plan_parts.Goals as goal

pub returns-clause-number : goal.returns-clause-number
returns-clause-number c = c.in_ok-number.ensures.same ∙ c.class_count.ensures

pub returns-clause-methods : goal.returns-clause-methods
returns-clause-methods c =
    c.in_ok-methods.ensures
    ∙ ap (λ z. base_methods (map view_class_plan z) c.args.base ++ map method_plan (map see_method c.deref-2.result.now)) c.deref.ensures.value
    ∙ ap (λ z. base_methods (map view_class_plan c.args.progress.now.plans.items) c.args.base ++ map method_plan (map see_method z)) c.deref-2.ensures.value

pub returns-clause-inherited : goal.returns-clause-inherited
returns-clause-inherited c =
    c.in_ok-chords_without.ensures
    ∙ ap (λ z. chords_without z (map view_chord_plan c.base_chords-chords.result.now)) c.deref-4.ensures.value
    ∙ ap (chords_without c.args.looked.now.taken.items) (c.base_chords-chords.ensures ∙ ap (λ z. base_chords (map view_class_plan z) c.args.base) c.deref-3.ensures.value)
