use Rattle.std.proofs.Common.{◌∷◌, [], map, ◌++◌, sym, ap, ◌∙◌}
use Rattle.chord_tree.specs.Program.{token_kinds}
use Rattle.chord_tree.specs.View.{see_class}
use Rattle.chord_tree.proofs.Ahead.{next_small}
use Rattle.chord_parser.proofs.Reading.{step, ends}
use Rattle.chord_parser.proofs.Chains.{stops, stops_in, exits, from_the_start, enters, then, renamed, as_node}
use Rattle.chord_parser.proofs.ClassLists.{push_seen_after, first_seen, one_seen, one_after, class_way, classes_all, shorter_by, sized_class, classes_end, at_end_of}
use Rattle.chord_parser.proofs.made.ClassSteps.{classes_class, classes_class_at, classes_none}
use Rattle.chord_parser.proofs.classes.classes_of.Goals as goal

pub each-init : goal.each-init
each-init c = (renamed from_the_start (λ n. one_after see_class class_way _ _ n (c.in_ok-push.ensures.items ∙ ap (λ z. z ++ (c.args.first ∷ [])) c.new-list.ensures.items)), one_seen see_class class_way _ _ (c.in_ok-push.ensures.items ∙ ap (λ z. z ++ (c.args.first ∷ [])) c.new-list.ensures.items))

pub returns-in_err-one-clause-err : goal.returns-in_err-one-clause-err
returns-in_err-one-clause-err c = exits _ _ _ _ _ c.from_residual-in_err-one.ensures.1 (stops_in c.each.invariant.0 _ (stops {count = c.args.count} (classes_class (classes_class_at _ (next_small (token_kinds c.each.left.now)) (λ q. c.each-test.true (c.next.ensures ∙ q)))) _ c.in_err-one.ensures.err))

pub each-smaller : goal.each-smaller
each-smaller c = shorter_by _ _ c.in_ok-one.ensures.ok (sized_class (see_class c.in_ok-one.one))

pub each-preserved : goal.each-preserved
each-preserved c = (renamed (then c.each.invariant.0 (enters (step (classes_class (classes_class_at _ (next_small (token_kinds c.each.left.now)) (λ q. c.each-test.true (c.next.ensures ∙ q)))) c.in_ok-one.ensures.ok))) (λ n. push_seen_after see_class class_way _ _ _ _ n c.each.invariant.1 c.in_ok-push-2.ensures.items), first_seen see_class class_way _ _ _ _ c.each.invariant.1 c.in_ok-push-2.ensures.items)

pub returns-clause-ok : goal.returns-clause-ok
returns-clause-ok c = as_node (c.each.invariant.0.reads _ _ (ends (classes_none (classes_end _ (sym c.next.ensures ∙ c.each-test.false))))) (classes_all (map see_class c.each.list.items))

pub returns-clause-first : goal.returns-clause-first
returns-clause-first c = c.each.invariant.1

pub returns-clause-end : goal.returns-clause-end
returns-clause-end c = at_end_of _ (sym c.next.ensures ∙ c.each-test.false)
