use Rattle.std.proofs.Common.{◌∷◌, [], ◌++◌, sym, ap, ◌∙◌}
use Rattle.chord_tree.specs.Program.{token_kinds}
use Rattle.chord_tree.specs.ClassNodes.{node_formal_list}
use Rattle.chord_tree.proofs.Ahead.{next_small}
use Rattle.chord_parser.proofs.Reading.{step, ends}
use Rattle.chord_parser.proofs.Chains.{stops, stops_in, exits, enters, then, renamed, as_node, shorter, pushed}
use Rattle.chord_parser.proofs.ClassLists.{formal_list, formals_first, formals_push}
use Rattle.chord_parser.proofs.made.MemberSteps.{more_formals_comma, more_formals_comma_at, more_formals_none, more_formals_none_at, optional_formals_formal, optional_formals_formal_at, optional_formals_none, optional_formals_none_at}
use Rattle.chord_parser.proofs.classes.formals_inside.Goals as goal

pub returns-then-next-eq-CLOSE-clause-ok : goal.returns-then-next-eq-CLOSE-clause-ok
returns-then-next-eq-CLOSE-clause-ok c = as_node (ends (optional_formals_none (optional_formals_none_at _ (sym c.next.ensures ∙ c.if-next-eq-CLOSE.true)))) (sym (ap node_formal_list c.new-list.ensures.items))

pub returns-in_err-first-clause-err : goal.returns-in_err-first-clause-err
returns-in_err-first-clause-err c = exits _ _ _ _ _ c.from_residual.ensures.1 (stops {count = c.args.count} (optional_formals_formal (optional_formals_formal_at _ (next_small (token_kinds c.args.tokens.now)) (λ q. c.if-next-eq-CLOSE.false (c.next.ensures ∙ q)))) _ c.in_err-first.ensures.err)

pub each-init : goal.each-init
each-init c = (renamed (enters (step (optional_formals_formal (optional_formals_formal_at _ (next_small (token_kinds c.args.tokens.now)) (λ q. c.if-next-eq-CLOSE.false (c.next.ensures ∙ q)))) c.in_ok-first.ensures.ok)) (λ n. formals_first _ _ n (c.in_ok-push.ensures.items ∙ ap (λ z. z ++ (c.in_ok-first.first ∷ [])) c.new-list.ensures.items)), pushed _ _ _ c.in_ok-push.ensures.items)

pub returns-in_err-rest-clause-err : goal.returns-in_err-rest-clause-err
returns-in_err-rest-clause-err c = exits _ _ _ _ _ c.from_residual-in_err-rest.ensures.1 (stops_in c.each.invariant.0 _ (stops {count = c.args.count} (more_formals_comma (more_formals_comma_at _ (sym c.next-in-each.ensures ∙ c.each-test.true))) _ c.in_err-rest.ensures.err))

pub returns-in_err-one-clause-err : goal.returns-in_err-one-clause-err
returns-in_err-one-clause-err c = exits _ _ _ _ _ c.from_residual-in_err-one.ensures.1 (stops_in c.each.invariant.0 _ (stops (step (more_formals_comma (more_formals_comma_at _ (sym c.next-in-each.ensures ∙ c.each-test.true))) c.in_ok-rest.ensures.ok) _ c.in_err-one.ensures.err))

pub each-smaller : goal.each-smaller
each-smaller c = shorter _ _ _ c.in_ok-rest.ensures.ok c.in_ok-one.ensures.ok

pub each-preserved : goal.each-preserved
each-preserved c = (renamed (then c.each.invariant.0 (enters (step (step (more_formals_comma (more_formals_comma_at _ (sym c.next-in-each.ensures ∙ c.each-test.true))) c.in_ok-rest.ensures.ok) c.in_ok-one.ensures.ok))) (λ n. formals_push _ _ _ n c.each.invariant.1 c.in_ok-push-2.ensures.items), pushed _ _ _ c.in_ok-push-2.ensures.items)

pub returns-clause-ok : goal.returns-clause-ok
returns-clause-ok c = as_node (c.each.invariant.0.reads _ _ (ends (more_formals_none (more_formals_none_at _ (next_small (token_kinds c.each.left.now)) (λ q. c.each-test.false (c.next-in-each.ensures ∙ q)))))) (formal_list _ c.each.invariant.1)
