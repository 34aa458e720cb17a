use Rattle.std.proofs.Common.{map, ap, ◌∙◌}
use Rattle.chord_tree.specs.View.{see_class, see_member}
use Rattle.chord_bodies.specs.View.{view_class_plan}
use Rattle.chord_rules.proofs.ClassNotes.{class_noted}
use Rattle.chord_rules.proofs.classes.class_breaks.Goals as goal

pub returns-clause-noted : goal.returns-clause-noted
returns-clause-noted c =
    class_noted (map see_class c.args.classes.now) c.args.progress.now.table (map view_class_plan c.args.progress.now.plans.items) (map view_class_plan c.deref-3.result.now) (see_class c.args.class.now) c.base_of-base.result c.in_ok-owner.owner (map see_member c.deref-2.result.now)
    _ _ _ _ _ c.base_of-base.ensures (c.in_ok-owner.ensures.same ∙ c.class_count.ensures) (ap (map see_member) c.deref-2.ensures.value) (ap (map view_class_plan) c.deref-3.ensures.value)
    c.names_break.ensures c.in_ok-places_break.ensures.noted c.in_ok-own.ensures.noted c.in_ok-taken.ensures.noted
