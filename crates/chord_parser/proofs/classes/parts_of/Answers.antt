use Rattle.std.proofs.Common.{sym, ap, ◌∙◌}
use Rattle.chord_tree.specs.Program.{token_kinds}
use Rattle.chord_tree.proofs.Ahead.{next_small}
use Rattle.chord_parser.specs.Lists.{wrapped}
use Rattle.chord_parser.proofs.Reading.{step, ends}
use Rattle.chord_parser.proofs.Chains.{stops, stops_in, exits, from_the_start, enters, then, renamed, as_node, shorter}
use Rattle.chord_parser.proofs.ClassLists.{push, part_way, all_parts}
use Rattle.chord_parser.proofs.made.ClassSteps.{name_parts_dot, name_parts_dot_at, name_parts_none, name_parts_none_at}
use Rattle.chord_parser.proofs.classes.parts_of.Goals as goal

pub each-init : goal.each-init
each-init c = renamed from_the_start (λ n. ap (λ z. wrapped part_way z n) (sym c.new-list.ensures.items))

pub returns-in_err-at-clause-err : goal.returns-in_err-at-clause-err
returns-in_err-at-clause-err c = exits _ _ _ _ _ c.from_residual.ensures.1 (stops_in c.each.invariant _ (stops {count = c.args.count} (name_parts_dot (name_parts_dot_at _ (sym c.next.ensures ∙ c.each-test.true))) _ c.in_err-at.ensures.err))

pub returns-in_err-name-clause-err : goal.returns-in_err-name-clause-err
returns-in_err-name-clause-err c = exits _ _ _ _ _ c.from_residual-in_err-name.ensures.1 (stops_in c.each.invariant _ (stops {count = c.args.count} (step (name_parts_dot (name_parts_dot_at _ (sym c.next.ensures ∙ c.each-test.true))) c.in_ok-at.ensures.ok) _ c.in_err-name.ensures.err))

pub each-smaller : goal.each-smaller
each-smaller c = shorter _ _ _ c.in_ok-at.ensures.ok c.in_ok-name.ensures.ok

pub each-preserved : goal.each-preserved
each-preserved c = renamed (then c.each.invariant (enters (step (step (name_parts_dot (name_parts_dot_at _ (sym c.next.ensures ∙ c.each-test.true))) c.in_ok-at.ensures.ok) c.in_ok-name.ensures.ok))) (λ n. push part_way _ _ _ n c.in_ok-push.ensures.items)

pub returns-clause-ok : goal.returns-clause-ok
returns-clause-ok c = as_node (c.each.invariant.reads _ _ (ends (name_parts_none (name_parts_none_at _ (next_small (token_kinds c.each.left.now)) (λ q. c.each-test.false (c.next.ensures ∙ q)))))) (all_parts c.each.list.items)
