use Rattle.std.proofs.Common.{◌∷◌, [], map, ◌++◌, sym, ap, ◌∙◌}
use Rattle.chord_tree.specs.Program.{token_kinds}
use Rattle.chord_tree.specs.View.{see_header}
use Rattle.chord_tree.proofs.Ahead.{next_small}
use Rattle.chord_parser.proofs.Reading.{step, ends}
use Rattle.chord_parser.proofs.Chains.{stops, stops_in, exits, from_the_start, enters, then, renamed, as_node, shorter}
use Rattle.chord_parser.proofs.ClassLists.{push_seen_after, first_seen, one_seen, one_after, header_way, headers_all}
use Rattle.chord_parser.proofs.made.MemberSteps.{headers_ampersand, headers_ampersand_at, headers_none, headers_none_at}
use Rattle.chord_parser.proofs.classes.headers_of.Goals as goal

pub each-init : goal.each-init
each-init c = (renamed from_the_start (λ n. one_after see_header header_way _ _ n (c.in_ok-push.ensures.items ∙ ap (λ z. z ++ (c.args.first ∷ [])) c.new-list.ensures.items)), one_seen see_header header_way _ _ (c.in_ok-push.ensures.items ∙ ap (λ z. z ++ (c.args.first ∷ [])) c.new-list.ensures.items))

pub returns-in_err-rest-clause-err : goal.returns-in_err-rest-clause-err
returns-in_err-rest-clause-err c = exits _ _ _ _ _ c.from_residual-in_err-rest.ensures.1 (stops_in c.each.invariant.0 _ (stops {count = c.args.count} (headers_ampersand (headers_ampersand_at _ (sym c.next.ensures ∙ c.each-test.true))) _ c.in_err-rest.ensures.err))

pub returns-in_err-one-clause-err : goal.returns-in_err-one-clause-err
returns-in_err-one-clause-err c = exits _ _ _ _ _ c.from_residual-in_err-one.ensures.1 (stops_in c.each.invariant.0 _ (stops {count = c.args.count} (step (headers_ampersand (headers_ampersand_at _ (sym c.next.ensures ∙ c.each-test.true))) c.in_ok-rest.ensures.ok) _ c.in_err-one.ensures.err))

pub each-smaller : goal.each-smaller
each-smaller c = shorter _ _ _ c.in_ok-rest.ensures.ok c.in_ok-one.ensures.ok

pub each-preserved : goal.each-preserved
each-preserved c = (renamed (then c.each.invariant.0 (enters (step (step (headers_ampersand (headers_ampersand_at _ (sym c.next.ensures ∙ c.each-test.true))) c.in_ok-rest.ensures.ok) c.in_ok-one.ensures.ok))) (λ n. push_seen_after see_header header_way _ _ _ _ n c.each.invariant.1 c.in_ok-push-2.ensures.items), first_seen see_header header_way _ _ _ _ c.each.invariant.1 c.in_ok-push-2.ensures.items)

pub returns-clause-ok : goal.returns-clause-ok
returns-clause-ok c = as_node (c.each.invariant.0.reads _ _ (ends (headers_none (headers_none_at _ (next_small (token_kinds c.each.left.now)) (λ q. c.each-test.false (c.next.ensures ∙ q)))))) (headers_all (map see_header c.each.list.items))

pub returns-clause-first : goal.returns-clause-first
returns-clause-first c = c.each.invariant.1
