use Rattle.std.proofs.Common.{[], map, sym, subst, ap, ◌∙◌}
use Rattle.std.specs.Prelude.{unwrap_or}
use Rattle.chord_tree.specs.View.{see_class, tree_of}
use Rattle.chord_classes.specs.Plan.{plans_after, plan_of, main_in}
use Rattle.chord_classes.specs.ChordRules.{mains_of, wrong_mains}
use Rattle.chord_classes.specs.Least.{keys}
use Rattle.chord_rules.specs.Family.{IsRuleFault}
use Rattle.chord_rules.specs.Passing.{ClassesNumbered}
use Rattle.chord_rules.proofs.FirstBreak.{is_break, is_free, program_noted}
use Rattle.chord_rules.proofs.Stopping.{numbered_classes, none_before}
use Rattle.chord_rules.proofs.plan.plan.Goals as goal

pub look-requires-clause-numbered : goal.look-requires-clause-numbered
look-requires-clause-numbered c = subst (λ z. ClassesNumbered (map see_class z)) (sym c.classes-classes.ensures.classes) (numbered_classes (tree_of c.args.program.now) c.classes-classes.ensures.program)

pub returns-in-Some-clause-fault : goal.returns-in-Some-clause-fault
returns-in-Some-clause-fault c =
    let program = tree_of c.args.program.now in
    let noted = program_noted program (map see_class c.classes-classes.result.now) c.token_count.result _ _ (ap (map see_class) c.classes-classes.ensures.classes) c.token_count.ensures c.in_ok-plans.ensures.noted c.wrong_mains.ensures in
    subst (IsRuleFault program) (sym c.rule_fault.ensures) (is_break program _ c.in-Some.key noted c.in-Some.is)

pub returns-in_ok-main_member-in-None-clause-free : goal.returns-in_ok-main_member-in-None-clause-free
returns-in_ok-main_member-in-None-clause-free c =
    let program = tree_of c.args.program.now in
    let noted = program_noted program (map see_class c.classes-classes.result.now) c.token_count.result _ _ (ap (map see_class) c.classes-classes.ensures.classes) c.token_count.ensures c.in_ok-plans.ensures.noted c.wrong_mains.ensures in
    is_free program _ noted c.in-None.is

pub returns-in_ok-main_member-in-None-clause-planned : goal.returns-in_ok-main_member-in-None-clause-planned
returns-in_ok-main_member-in-None-clause-planned c =
    let classes = ap (map see_class) c.classes-classes.ensures.classes in
    let none = none_before c.look.new.breaks.found (keys 13 (wrong_mains (mains_of (map see_class c.classes-classes.result.now)) c.token_count.result)) (sym c.wrong_mains.ensures ∙ c.in-None.is) in
    c.new.ensures
    ∙ ap (λ z. record { classes = z; main = c.in_ok-main_member-in-None.field-0 }) (c.in_ok-plans.ensures.plans none ∙ ap (plans_after [] [] 0) classes)
    ∙ ap (λ z. record { classes = plan_of (tree_of c.args.program.now); main = z }) (c.in_ok-main_member-in-None.ensures.main ∙ ap (λ z. unwrap_or (main_in 0 z) 0) classes)
