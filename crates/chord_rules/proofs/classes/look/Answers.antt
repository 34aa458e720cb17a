use Rattle.std.proofs.Common.{None, [], ◌∷◌, ◌++◌, ◌+◌, map, take, drop, sym, subst, ap, ◌∙◌}
use Rattle.chord_tree.specs.View.{see_class}
use Rattle.chord_bodies.specs.View.{view_class_plan}
use Rattle.chord_classes.specs.Plan.{plans_after}
use Rattle.chord_classes.specs.ChordRules.{over_plans}
use Rattle.chord_classes.specs.Least.{least}
use Rattle.chord_classes.proofs.Facts.{there_is_some}
use Rattle.chord_classes.proofs.Search.{item_here}
use Rattle.chord_rules.specs.ClassKeys.{class_keys}
use Rattle.chord_rules.specs.Passing.{ClassesNumbered, StopBeforeBreak}
use Rattle.chord_rules.proofs.Stopping.{WereUnbroken, classes_stopped, numbered_rest, no_some, one_unbroken, stop_before_break, both_parts, all_taken, one_taken}
use Rattle.chord_rules.proofs.classes.look.Goals as goal

pub loop-class-preserved : goal.loop-class-preserved
loop-class-preserved c =
    let before = c.loop-class.progress in
    let plans = map view_class_plan before.plans.items in
    let rule = class_keys (map see_class c.args.classes.now) in
    let class = see_class c.class-item.result in
    let next = c.in_ok-progress.ensures in
    let none = no_some c.class_breaks.new.breaks.found (sym c.is_some.ensures ∙ c.if-is_some.false) in
    record {
      alike = next.alike;
      none = none;
      numbered = numbered_rest class (map see_class (drop (c.loop-class.class-index + 1) c.args.classes.now)) (subst (λ cs. ClassesNumbered (map see_class cs)) (item_here c.args.classes.now c.loop-class.class-index c.class-item.result c.loop-class-test.true c.class-item.is) c.loop-class.invariant.numbered);
      unbroken = subst (λ cs. WereUnbroken rule cs c.in_ok-progress.progress.table (map view_class_plan c.in_ok-progress.progress.plans.items) c.in_ok-progress.progress.number) (sym (one_taken see_class c.args.classes.now c.loop-class.class-index c.class-item.result c.loop-class-test.true c.class-item.is))
          (one_unbroken rule (map see_class (take c.loop-class.class-index c.args.classes.now)) before.table _ plans _ before.number _ class c.loop-class.breaks.found _ c.loop-class.invariant.unbroken next.table next.plans next.number c.in_ok-looked.ensures.noted none);
    }

pub returns-then-is_some-clause-noted : goal.returns-then-is_some-clause-noted
returns-then-is_some-clause-noted c =
    let before = c.loop-class.progress in
    let plans = map view_class_plan before.plans.items in
    let classes = map see_class c.args.classes.now in
    let class = see_class c.class-item.result in
    let rest = map see_class (drop (c.loop-class.class-index + 1) c.args.classes.now) in
    let here = item_here c.args.classes.now c.loop-class.class-index c.class-item.result c.loop-class-test.true c.class-item.is in
    let found = there_is_some c.class_breaks.new.breaks.found (sym c.is_some.ensures ∙ c.if-is_some.true) in
    let whole = ap (λ z. map see_class (take c.loop-class.class-index c.args.classes.now) ++ map see_class z) (sym here) ∙ both_parts see_class c.args.classes.now c.loop-class.class-index in
    sym (classes_stopped classes before.table plans before.number class rest c.loop-class.breaks.found c.class_breaks.new.breaks.found found.0 (subst (λ cs. ClassesNumbered (map see_class cs)) here c.loop-class.invariant.numbered)
    c.loop-class.invariant.none c.in_ok-looked.ensures.noted found.1)
    ∙ ap (λ z. least z (over_plans (class_keys classes) before.table plans before.number (class ∷ rest))) c.loop-class.invariant.none
    ∙ ap (least None) (sym (c.loop-class.invariant.unbroken.unbroken (class ∷ rest)) ∙ ap (over_plans (class_keys classes) [] [] 0) whole)

pub returns-then-is_some-clause-stops : goal.returns-then-is_some-clause-stops
returns-then-is_some-clause-stops c =
    subst (λ z. StopBeforeBreak (map see_class c.args.classes.now) (map view_class_plan z)) (sym c.into_plans.ensures)
    (stop_before_break (map see_class c.args.classes.now) _ (map see_class (drop c.loop-class.class-index c.args.classes.now)) c.loop-class.progress.table _ c.loop-class.progress.number
    (both_parts see_class c.args.classes.now c.loop-class.class-index) c.loop-class.invariant.unbroken)

pub returns-clause-plans : goal.returns-clause-plans
returns-clause-plans c = λ none.
    ap (map view_class_plan) c.into_plans-2.ensures
    ∙ sym (c.loop-class.invariant.unbroken.planned []) ∙ ap (plans_after [] [] 0) (all_taken see_class c.args.classes.now c.loop-class.class-index c.loop-class-test.false)

pub returns-clause-noted : goal.returns-clause-noted
returns-clause-noted c =
    let classes = map see_class c.args.classes.now in
    c.loop-class.invariant.none
    ∙ ap (least None) (sym (c.loop-class.invariant.unbroken.unbroken []) ∙ ap (over_plans (class_keys classes) [] [] 0) (all_taken see_class c.args.classes.now c.loop-class.class-index c.loop-class-test.false))

pub returns-clause-stops : goal.returns-clause-stops
returns-clause-stops c =
    subst (λ z. StopBeforeBreak (map see_class c.args.classes.now) (map view_class_plan z)) (sym c.into_plans-2.ensures)
    (stop_before_break (map see_class c.args.classes.now) _ (map see_class (drop c.loop-class.class-index c.args.classes.now)) c.loop-class.progress.table _ c.loop-class.progress.number
    (both_parts see_class c.args.classes.now c.loop-class.class-index) c.loop-class.invariant.unbroken)
