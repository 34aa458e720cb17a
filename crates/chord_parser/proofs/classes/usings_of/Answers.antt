use Rattle.std.proofs.Common.{map, sym, ap, ◌∙◌}
use Rattle.chord_tree.specs.Program.{token_kinds}
use Rattle.chord_tree.specs.View.{see_using}
use Rattle.chord_tree.proofs.Ahead.{next_small}
use Rattle.chord_parser.specs.Lists.{wrapped}
use Rattle.chord_parser.proofs.Reading.{step, ends}
use Rattle.chord_parser.proofs.Chains.{stops, stops_in, exits, from_the_start, enters, then, renamed, as_node}
use Rattle.chord_parser.proofs.ClassLists.{push_seen, using_way, all_usings, shorter_by, sized_using}
use Rattle.chord_parser.proofs.made.ClassSteps.{usings_none, usings_none_at, usings_using, usings_using_at}
use Rattle.chord_parser.proofs.classes.usings_of.Goals as goal

pub each-init : goal.each-init
each-init c = renamed from_the_start (λ n. ap (λ z. wrapped using_way (map see_using z) n) (sym c.new-list.ensures.items))

pub returns-in_err-one-clause-err : goal.returns-in_err-one-clause-err
returns-in_err-one-clause-err c = exits _ _ _ _ _ c.from_residual.ensures.1 (stops_in c.each.invariant _ (stops {count = c.args.count} (usings_using (usings_using_at _ (sym c.next.ensures ∙ c.each-test.true))) _ c.in_err-one.ensures.err))

pub each-smaller : goal.each-smaller
each-smaller c = shorter_by _ _ c.in_ok-one.ensures.ok (sized_using (see_using c.in_ok-one.one))

pub each-preserved : goal.each-preserved
each-preserved c = renamed (then c.each.invariant (enters (step (usings_using (usings_using_at _ (sym c.next.ensures ∙ c.each-test.true))) c.in_ok-one.ensures.ok))) (λ n. push_seen see_using using_way _ _ _ n c.in_ok-push.ensures.items)

pub returns-clause-ok : goal.returns-clause-ok
returns-clause-ok c = as_node (c.each.invariant.reads _ _ (ends (usings_none (usings_none_at _ (next_small (token_kinds c.each.left.now)) (λ q. c.each-test.false (c.next.ensures ∙ q)))))) (all_usings (map see_using c.each.list.items))
