use Rattle.std.proofs.Common.{map, sym, ap, ◌∙◌}
use Rattle.chord_tree.specs.Program.{token_kinds}
use Rattle.chord_tree.specs.View.{see_member}
use Rattle.chord_tree.proofs.Ahead.{next_small}
use Rattle.chord_parser.specs.Lists.{wrapped}
use Rattle.chord_parser.proofs.Reading.{step, ends}
use Rattle.chord_parser.proofs.Chains.{stops, stops_in, exits, from_the_start, enters, then, renamed, as_node}
use Rattle.chord_parser.proofs.ClassLists.{push_seen, member_way, all_members, shorter_by, sized_member}
use Rattle.chord_parser.proofs.made.ClassSteps.{members_member, members_member_at, members_none, members_none_at}
use Rattle.chord_parser.proofs.classes.members_of.Goals as goal

pub each-init : goal.each-init
each-init c = renamed from_the_start (λ n. ap (λ z. wrapped member_way (map see_member z) n) (sym c.new-list.ensures.items))

pub returns-in_err-one-clause-err : goal.returns-in_err-one-clause-err
returns-in_err-one-clause-err c = exits _ _ _ _ _ c.from_residual.ensures.1 (stops_in c.each.invariant _ (stops {count = c.args.count} (members_member (members_member_at _ (next_small (token_kinds c.each.left.now)) (λ q. c.each-test.true (c.next.ensures ∙ q)))) _ c.in_err-one.ensures.err))

pub each-smaller : goal.each-smaller
each-smaller c = shorter_by _ _ c.in_ok-one.ensures.ok (sized_member _)

pub each-preserved : goal.each-preserved
each-preserved c = renamed (then c.each.invariant (enters (step (members_member (members_member_at _ (next_small (token_kinds c.each.left.now)) (λ q. c.each-test.true (c.next.ensures ∙ q)))) c.in_ok-one.ensures.ok))) (λ n. push_seen see_member member_way _ _ _ n c.in_ok-push.ensures.items)

pub returns-clause-ok : goal.returns-clause-ok
returns-clause-ok c = as_node (c.each.invariant.reads _ _ (ends (members_none (members_none_at _ (sym c.next.ensures ∙ c.each-test.false))))) (all_members (map see_member c.each.list.items))
