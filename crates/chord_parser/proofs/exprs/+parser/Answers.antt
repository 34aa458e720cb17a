use Rattle.std.proofs.Common.{◌≡◌, ℕ, List, refl, ◌+◌, ◌-◌, ◌∷◌, [], map, ◌++◌, sym, ap, subst, ◌∙◌, arith}
use Rattle.chord_lexer.specs.declared.token.Kind.{Kind}
use Rattle.chord_tree.specs.Symbol.{Terminal, number_of}
use Rattle.chord_tree.specs.Symbols as grammar
use Rattle.chord_tree.specs.Derivation.{next}
use Rattle.chord_tree.specs.Node.{End, ◌▸◌, Made}
use Rattle.chord_tree.specs.Program.{token_kinds}
use Rattle.chord_tree.specs.ExprNodes.{precedence, operator_level, level_symbol, level_tail, node_at, node_links, node_start, node_actuals, node_dot, node_exprs}
use Rattle.chord_tree.specs.Tree.{PrimaryExpr, NoDots, MoreDots, MoreLinks, links, dots, exprs}
use Rattle.chord_tree.specs.ViewExprs.{see_expr, see_link, see_dot}
use Rattle.chord_tree.proofs.Ahead.{next_small}
use Rattle.chord_parser.specs.Reading.{StopsAs, IsOther, one_link, before_links}
use Rattle.chord_parser.specs.Climbing.{NoneUpTo, IsLinkRead}
use Rattle.chord_parser.specs.Runs.{Reads, Onward}
use Rattle.chord_parser.proofs.Reading.{step, ends, goes_into}
use Rattle.chord_parser.proofs.Chains.{stops, stops_in, exits, enters, then, renamed, as_node, no_link, begun_link, dots_all, dots_push, opt_push, opt_first, opt_all, shorter, shorter_dot, operator_read, pushed, links_all, links_push, one_dot}
use Rattle.chord_parser.proofs.Climb.{chain_read, link_read, operand_stops, fewer_left, chain_shorter, link_shorter, some_level, top_level, none_at_zero, climb_begins, climb_goes_on, climb_ends, climb_stops, lifted_to_or, links_done, one_more_level}
use Rattle.chord_parser.proofs.made.ChainSteps.{expr_and, expr_and_at, more_or_none, more_or_none_at}
use Rattle.chord_parser.proofs.made.ExprSteps.{actuals_open, actuals_open_at, dot_dot, dot_dot_at, dots_dot, dots_dot_at, dots_none, dots_none_at, more_exprs_comma, more_exprs_comma_at, more_exprs_none, more_exprs_none_at, optional_actuals_actuals, optional_actuals_actuals_at, optional_actuals_none, optional_actuals_none_at, optional_exprs_expr, optional_exprs_expr_at, optional_exprs_none, optional_exprs_none_at, primary_operand_start, primary_operand_start_at, operand_start_name, operand_start_name_at, operand_start_new, operand_start_new_at, operand_start_open, operand_start_open_at, operand_start_number, operand_start_number_at, unary_minus, unary_minus_at, unary_not, unary_not_at, unary_primary, unary_primary_at}
use Rattle.chord_parser.proofs.exprs.+parser.Goals as goal

-- where a number comes next, what has no operator before it begins with a start
number_begun : {count d : ℕ} {ks : List Kind} → next ks ≡ number_of grammar.NUMBER → Onward count grammar.Unary d ks (grammar.Operand_start ∷ grammar.Dots ∷ []) (d + 1) ks (λ ns. Made grammar.Unary (Made grammar.Primary ns ▸ End))
number_begun {ks = ks} e =
    let n : next ks ≡ 44 = e in
    goes_into (unary_primary (unary_primary_at _ (next_small ks) (λ q. omega arith) (λ q. omega arith))) (primary_operand_start (primary_operand_start_at _ (next_small ks)))

pub actuals-returns-in_err-at-clause-err : goal.actuals-returns-in_err-at-clause-err
actuals-returns-in_err-at-clause-err t c = exits _ _ _ _ _ c.from_residual.ensures.1 (stops {count = c.args.count} (actuals_open (actuals_open_at _ (next_small (token_kinds c.args.tokens.now)))) _ c.in_err-at.ensures.err)

pub actuals-returns-in_err-passed-clause-err : goal.actuals-returns-in_err-passed-clause-err
actuals-returns-in_err-passed-clause-err t c = exits _ _ _ _ _ c.from_residual-in_err-passed.ensures.1 (stops {count = c.args.count} (step (actuals_open (actuals_open_at _ (next_small (token_kinds c.args.tokens.now)))) c.in_ok-at.ensures.ok) _ c.in_err-passed.ensures.err)

pub actuals-returns-in_err-rest-clause-err : goal.actuals-returns-in_err-rest-clause-err
actuals-returns-in_err-rest-clause-err t c = exits _ _ _ _ _ c.from_residual-in_err-rest.ensures.1 (stops {count = c.args.count} (step (step (actuals_open (actuals_open_at _ (next_small (token_kinds c.args.tokens.now)))) c.in_ok-at.ensures.ok) c.in_ok-passed.ensures.ok) _ c.in_err-rest.ensures.err)

pub actuals-returns-clause-ok : goal.actuals-returns-clause-ok
actuals-returns-clause-ok t c = as_node (ends (step (step (step (actuals_open (actuals_open_at _ (next_small (token_kinds c.args.tokens.now)))) c.in_ok-at.ensures.ok) c.in_ok-passed.ensures.ok) c.in_ok-rest.ensures.ok)) (sym (ap node_actuals c.new.ensures))

pub dot-returns-in_err-at-clause-err : goal.dot-returns-in_err-at-clause-err
dot-returns-in_err-at-clause-err t c = exits _ _ _ _ _ c.from_residual.ensures.1 (stops {count = c.args.count} (dot_dot (dot_dot_at _ (next_small (token_kinds c.args.tokens.now)))) _ c.in_err-at.ensures.err)

pub dot-returns-in_err-name-clause-err : goal.dot-returns-in_err-name-clause-err
dot-returns-in_err-name-clause-err t c = exits _ _ _ _ _ c.from_residual-in_err-name.ensures.1 (stops {count = c.args.count} (step (dot_dot (dot_dot_at _ (next_small (token_kinds c.args.tokens.now)))) c.in_ok-at.ensures.ok) _ c.in_err-name.ensures.err)

pub dot-returns-in_err-passed-clause-err : goal.dot-returns-in_err-passed-clause-err
dot-returns-in_err-passed-clause-err t c = exits _ _ _ _ _ c.from_residual-in_err-passed.ensures.1 (stops {count = c.args.count} (step (step (dot_dot (dot_dot_at _ (next_small (token_kinds c.args.tokens.now)))) c.in_ok-at.ensures.ok) c.in_ok-name.ensures.ok) _ c.in_err-passed.ensures.err)

pub dot-returns-clause-ok : goal.dot-returns-clause-ok
dot-returns-clause-ok t c = as_node (ends (step (step (step (dot_dot (dot_dot_at _ (next_small (token_kinds c.args.tokens.now)))) c.in_ok-at.ensures.ok) c.in_ok-name.ensures.ok) c.in_ok-passed.ensures.ok)) (sym (ap node_dot c.new.ensures))

pub start_group-returns-in_err-at-clause-err : goal.start_group-returns-in_err-at-clause-err
start_group-returns-in_err-at-clause-err t c = exits _ _ _ _ _ c.from_residual.ensures.1 (stops {count = c.args.count} (operand_start_open (operand_start_open_at _ c.requires.first)) _ c.in_err-at.ensures.err)

pub start_group-returns-in_err-inner-clause-err : goal.start_group-returns-in_err-inner-clause-err
start_group-returns-in_err-inner-clause-err t c = exits _ _ _ _ _ c.from_residual-in_err-inner.ensures.1 (stops {count = c.args.count} (step (operand_start_open (operand_start_open_at _ c.requires.first)) c.in_ok-at.ensures.ok) _ c.in_err-inner.ensures.err)

pub start_group-returns-in_err-rest-clause-err : goal.start_group-returns-in_err-rest-clause-err
start_group-returns-in_err-rest-clause-err t c = exits _ _ _ _ _ c.from_residual-in_err-rest.ensures.1 (stops {count = c.args.count} (step (step (operand_start_open (operand_start_open_at _ c.requires.first)) c.in_ok-at.ensures.ok) c.in_ok-inner.ensures.ok) _ c.in_err-rest.ensures.err)

pub start_group-returns-clause-ok : goal.start_group-returns-clause-ok
start_group-returns-clause-ok t c = as_node (ends (step (step (step (operand_start_open (operand_start_open_at _ c.requires.first)) c.in_ok-at.ensures.ok) c.in_ok-inner.ensures.ok) c.in_ok-rest.ensures.ok)) (sym (ap node_start c.in_ok-group.ensures))

pub start_new-returns-in_err-at-clause-err : goal.start_new-returns-in_err-at-clause-err
start_new-returns-in_err-at-clause-err t c = exits _ _ _ _ _ c.from_residual.ensures.1 (stops {count = c.args.count} (operand_start_new (operand_start_new_at _ c.requires.first)) _ c.in_err-at.ensures.err)

pub start_new-returns-in_err-name-clause-err : goal.start_new-returns-in_err-name-clause-err
start_new-returns-in_err-name-clause-err t c = exits _ _ _ _ _ c.from_residual-in_err-name.ensures.1 (stops {count = c.args.count} (step (operand_start_new (operand_start_new_at _ c.requires.first)) c.in_ok-at.ensures.ok) _ c.in_err-name.ensures.err)

pub start_new-returns-in_err-passed-clause-err : goal.start_new-returns-in_err-passed-clause-err
start_new-returns-in_err-passed-clause-err t c = exits _ _ _ _ _ c.from_residual-in_err-passed.ensures.1 (stops {count = c.args.count} (step (step (operand_start_new (operand_start_new_at _ c.requires.first)) c.in_ok-at.ensures.ok) c.in_ok-name.ensures.ok) _ c.in_err-passed.ensures.err)

pub start_new-returns-clause-ok : goal.start_new-returns-clause-ok
start_new-returns-clause-ok t c = as_node (ends (step (step (step (operand_start_new (operand_start_new_at _ c.requires.first)) c.in_ok-at.ensures.ok) c.in_ok-name.ensures.ok) c.in_ok-passed.ensures.ok)) (sym (ap node_start c.in_ok-new_object.ensures))

pub start_name-returns-in_err-name-clause-err : goal.start_name-returns-in_err-name-clause-err
start_name-returns-in_err-name-clause-err t c = exits _ _ _ _ _ c.from_residual.ensures.1 (stops {count = c.args.count} (operand_start_name (operand_start_name_at _ c.requires.first)) _ c.in_err-name.ensures.err)

pub start_name-returns-in_err-passed-clause-err : goal.start_name-returns-in_err-passed-clause-err
start_name-returns-in_err-passed-clause-err t c = exits _ _ _ _ _ c.from_residual-in_err-passed.ensures.1 (stops {count = c.args.count} (goes_into (step (operand_start_name (operand_start_name_at _ c.requires.first)) c.in_ok-name.ensures.ok) (optional_actuals_actuals (optional_actuals_actuals_at _ (sym c.next.ensures ∙ c.if-next-eq-OPEN.true)))) _ c.in_err-passed.ensures.err)

pub start_name-returns-then-next-eq-OPEN-clause-ok : goal.start_name-returns-then-next-eq-OPEN-clause-ok
start_name-returns-then-next-eq-OPEN-clause-ok t c = as_node (ends (step (goes_into (step (operand_start_name (operand_start_name_at _ c.requires.first)) c.in_ok-name.ensures.ok) (optional_actuals_actuals (optional_actuals_actuals_at _ (sym c.next.ensures ∙ c.if-next-eq-OPEN.true)))) c.in_ok-passed.ensures.ok)) (sym (ap node_start c.in_ok-call.ensures))

pub start_name-returns-clause-ok : goal.start_name-returns-clause-ok
start_name-returns-clause-ok t c = as_node (ends (step (step (operand_start_name (operand_start_name_at _ c.requires.first)) c.in_ok-name.ensures.ok) (ends (optional_actuals_none (optional_actuals_none_at _ (next_small (token_kinds c.in_ok-name.rest.now)) (λ q. c.if-next-eq-OPEN.false (c.next.ensures ∙ q))))))) (sym (ap node_start c.variable.ensures))

pub unary_minus-returns-in_err-at-clause-err : goal.unary_minus-returns-in_err-at-clause-err
unary_minus-returns-in_err-at-clause-err t c = exits _ _ _ _ _ c.from_residual.ensures.1 (stops {count = c.args.count} (unary_minus (unary_minus_at _ c.requires.first)) _ c.in_err-at.ensures.err)

pub unary_minus-returns-in_err-inner-clause-err : goal.unary_minus-returns-in_err-inner-clause-err
unary_minus-returns-in_err-inner-clause-err t c = exits _ _ _ _ _ c.from_residual-in_err-inner.ensures.1 (stops {count = c.args.count} (step (unary_minus (unary_minus_at _ c.requires.first)) c.in_ok-at.ensures.ok) _ c.in_err-inner.ensures.err)

pub unary_minus-returns-clause-ok : goal.unary_minus-returns-clause-ok
unary_minus-returns-clause-ok t c = as_node (ends (step (step (unary_minus (unary_minus_at _ c.requires.first)) c.in_ok-at.ensures.ok) c.in_ok-inner.ensures.ok)) (sym (ap (node_at 0) c.in_ok-minus.ensures))

pub unary_not-returns-in_err-at-clause-err : goal.unary_not-returns-in_err-at-clause-err
unary_not-returns-in_err-at-clause-err t c = exits _ _ _ _ _ c.from_residual.ensures.1 (stops {count = c.args.count} (unary_not (unary_not_at _ c.requires.first)) _ c.in_err-at.ensures.err)

pub unary_not-returns-in_err-inner-clause-err : goal.unary_not-returns-in_err-inner-clause-err
unary_not-returns-in_err-inner-clause-err t c = exits _ _ _ _ _ c.from_residual-in_err-inner.ensures.1 (stops {count = c.args.count} (step (unary_not (unary_not_at _ c.requires.first)) c.in_ok-at.ensures.ok) _ c.in_err-inner.ensures.err)

pub unary_not-returns-clause-ok : goal.unary_not-returns-clause-ok
unary_not-returns-clause-ok t c = as_node (ends (step (step (unary_not (unary_not_at _ c.requires.first)) c.in_ok-at.ensures.ok) c.in_ok-inner.ensures.ok)) (sym (ap (node_at 0) c.in_ok-not.ensures))

pub any_unary-returns-in_err-first-clause-err : goal.any_unary-returns-in_err-first-clause-err
any_unary-returns-in_err-first-clause-err t c = exits _ _ _ _ _ c.from_residual.ensures.1 (stops {count = c.args.count} (goes_into (unary_primary (unary_primary_at _ (next_small (token_kinds c.args.tokens.now)) (λ q. c.if-ahead-eq-MINUS.false (c.next-ahead.ensures ∙ q)) (λ q. c.if-ahead-eq-NOT.false (c.next-ahead.ensures ∙ q)))) (primary_operand_start (primary_operand_start_at _ (next_small (token_kinds c.args.tokens.now))))) _ c.in_err-first.ensures.err)

pub any_unary-returns-in_err-whole-clause-err : goal.any_unary-returns-in_err-whole-clause-err
any_unary-returns-in_err-whole-clause-err t c = exits _ _ _ _ _ c.from_residual-in_err-whole.ensures.1 (stops {count = c.args.count} (step (goes_into (unary_primary (unary_primary_at _ (next_small (token_kinds c.args.tokens.now)) (λ q. c.if-ahead-eq-MINUS.false (c.next-ahead.ensures ∙ q)) (λ q. c.if-ahead-eq-NOT.false (c.next-ahead.ensures ∙ q)))) (primary_operand_start (primary_operand_start_at _ (next_small (token_kinds c.args.tokens.now))))) c.in_ok-first.ensures.ok) _ c.in_err-whole.ensures.err)

pub any_unary-returns-then-next-eq-DOT-clause-ok : goal.any_unary-returns-then-next-eq-DOT-clause-ok
any_unary-returns-then-next-eq-DOT-clause-ok t c = as_node (ends (step (step (goes_into (unary_primary (unary_primary_at _ (next_small (token_kinds c.args.tokens.now)) (λ q. c.if-ahead-eq-MINUS.false (c.next-ahead.ensures ∙ q)) (λ q. c.if-ahead-eq-NOT.false (c.next-ahead.ensures ∙ q)))) (primary_operand_start (primary_operand_start_at _ (next_small (token_kinds c.args.tokens.now))))) c.in_ok-first.ensures.ok) c.in_ok-whole.ensures.ok.2)) (sym (ap (node_at 0) c.in_ok-whole.ensures.ok.1))

pub any_unary-returns-then-next-eq-DOT-clause-precedence : goal.any_unary-returns-then-next-eq-DOT-clause-precedence
any_unary-returns-then-next-eq-DOT-clause-precedence t c = ap precedence c.in_ok-whole.ensures.ok.1

pub any_unary-returns-clause-ok : goal.any_unary-returns-clause-ok
any_unary-returns-clause-ok t c = as_node (ends (step (step (goes_into (unary_primary (unary_primary_at _ (next_small (token_kinds c.args.tokens.now)) (λ q. c.if-ahead-eq-MINUS.false (c.next-ahead.ensures ∙ q)) (λ q. c.if-ahead-eq-NOT.false (c.next-ahead.ensures ∙ q)))) (primary_operand_start (primary_operand_start_at _ (next_small (token_kinds c.args.tokens.now))))) c.in_ok-first.ensures.ok) (ends (dots_none (dots_none_at _ (next_small (token_kinds c.in_ok-first.rest.now)) (λ q. c.if-next-eq-DOT.false (c.next.ensures ∙ q))))))) (sym (ap (node_at 0) c.start-2.ensures))

pub calls_on-returns-in_err-first-clause-err : goal.calls_on-returns-in_err-first-clause-err
calls_on-returns-in_err-first-clause-err t c = exits _ _ _ _ _ c.from_residual.ensures.1 (stops {count = c.args.count} (dots_dot (dots_dot_at _ c.requires.first)) _ c.in_err-first.ensures.err)

pub calls_on-returns-in_err-more-clause-err : goal.calls_on-returns-in_err-more-clause-err
calls_on-returns-in_err-more-clause-err t c = exits _ _ _ _ _ c.from_residual-in_err-more.ensures.1 (stops {count = c.args.count} (step (dots_dot (dots_dot_at _ c.requires.first)) c.in_ok-first.ensures.ok) _ c.in_err-more.ensures.err)

pub calls_on-returns-clause-ok : goal.calls_on-returns-clause-ok
calls_on-returns-clause-ok t c = (MoreDots (see_dot c.in_ok-first.first) (dots (map see_dot c.in_ok-more.more.items)), c.in_ok-calls.ensures, as_node (ends (step (step (dots_dot (dots_dot_at _ c.requires.first)) c.in_ok-first.ensures.ok) c.in_ok-more.ensures.ok)) (one_dot (see_dot c.in_ok-first.first) (dots (map see_dot c.in_ok-more.more.items))))

pub expr-returns-in_err-first-clause-err : goal.expr-returns-in_err-first-clause-err
expr-returns-in_err-first-clause-err t c = exits _ _ _ _ _ c.from_residual.ensures.1 (stops {count = c.args.count} (expr_and (expr_and_at _ (next_small (token_kinds c.args.tokens.now)))) _ c.in_err-first.ensures.err)

pub unary-returns-in_err-value-clause-err : goal.unary-returns-in_err-value-clause-err
unary-returns-in_err-value-clause-err t c = exits _ _ _ _ _ c.from_residual.ensures.1 (stops {count = c.args.count} (number_begun (sym c.next-ahead.ensures ∙ c.if-ahead-eq-NUMBER.true)) _ (stops {count = c.args.count} (operand_start_number (operand_start_number_at _ (sym c.next-ahead.ensures ∙ c.if-ahead-eq-NUMBER.true))) _ c.in_err-value.ensures.err))

pub unary-returns-then-after-ne-DOT-clause-ok : goal.unary-returns-then-after-ne-DOT-clause-ok
unary-returns-then-after-ne-DOT-clause-ok t c = as_node (ends (step (step (number_begun (sym c.next-ahead.ensures ∙ c.if-ahead-eq-NUMBER.true)) (ends (step (operand_start_number (operand_start_number_at _ (sym c.next-ahead.ensures ∙ c.if-ahead-eq-NUMBER.true))) c.in_ok-value.ensures.ok))) (ends (dots_none (dots_none_at _ (next_small (token_kinds c.in_ok-value.rest.now)) (λ q. c.if-after-ne-DOT.true (c.next-after.ensures ∙ q))))))) (sym (ap (node_at 0) (c.start.ensures ∙ ap (λ z. PrimaryExpr z NoDots) c.number.ensures)))

pub unary-returns-in_err-whole-clause-err : goal.unary-returns-in_err-whole-clause-err
unary-returns-in_err-whole-clause-err t c = exits _ _ _ _ _ c.from_residual-in_err-whole.ensures.1 c.in_err-whole.ensures.err

pub chained_by_or-returns-clause-ok : goal.chained_by_or-returns-clause-ok
chained_by_or-returns-clause-ok t c = c.chained.ensures.ok

pub chained_by_or-returns-clause-err : goal.chained_by_or-returns-clause-err
chained_by_or-returns-clause-err t c = c.chained.ensures.err

pub expr-returns-then-next-ne-OR-clause-ok : goal.expr-returns-then-next-ne-OR-clause-ok
expr-returns-then-next-ne-OR-clause-ok t c = as_node (ends (step (step (expr_and (expr_and_at _ (next_small (token_kinds c.args.tokens.now)))) c.in_ok-first.ensures.ok) (ends (more_or_none (more_or_none_at _ (next_small (token_kinds c.in_ok-first.rest.now)) (λ q. c.if-next-ne-OR.true (c.next.ensures ∙ q))))))) (lifted_to_or _ c.in_ok-first.ensures.within)

pub expr-returns-in_err-whole-clause-err : goal.expr-returns-in_err-whole-clause-err
expr-returns-in_err-whole-clause-err t c = exits _ _ _ _ _ c.from_residual-in_err-whole.ensures.1 (stops {count = c.args.count} (step (expr_and (expr_and_at _ (next_small (token_kinds c.args.tokens.now)))) c.in_ok-first.ensures.ok) _ c.in_err-whole.ensures.err)

pub expr-returns-clause-ok : goal.expr-returns-clause-ok
expr-returns-clause-ok t c = as_node (ends (step (step (expr_and (expr_and_at _ (next_small (token_kinds c.args.tokens.now)))) c.in_ok-first.ensures.ok) c.in_ok-whole.ensures.ok.reads)) (sym c.in_ok-whole.ensures.ok.node)

pub link-take_known-requires-clause-next : goal.link-take_known-requires-clause-next
link-take_known-requires-clause-next t c = c.requires.next ∙ sym c.terminal_of_operator.ensures

pub chain-returns-in_err-whole-clause-err : goal.chain-returns-in_err-whole-clause-err
chain-returns-in_err-whole-clause-err t c = exits _ _ _ _ _ c.from_residual.ensures.1 (operand_stops _ _ c.args.level c.requires.level _ c.in_err-whole.ensures.err)

pub chain-each-init : goal.chain-each-init
chain-each-init t c = climb_begins _ c.in_ok-whole.ensures.ok c.in_ok-whole.ensures.precedence

pub chain-returns-in_err-longer-clause-err : goal.chain-returns-in_err-longer-clause-err
chain-returns-in_err-longer-clause-err t c = exits _ _ _ _ _ c.from_residual-in_err-longer.ensures.1 (climb_stops _ c.in-Some.operator c.requires.level c.each.invariant c.in-Some.ensures.some c.in-Some.ensures.within _ c.in_err-longer.ensures.err)

pub chain-each-smaller : goal.chain-each-smaller
chain-each-smaller t c = chain_shorter _ _ c.in_ok-longer.ensures.ok

pub chain-each-preserved : goal.chain-each-preserved
chain-each-preserved t c = climb_goes_on _ _ c.in-Some.operator c.requires.level c.each.invariant c.in-Some.ensures.some c.in-Some.ensures.within c.in_ok-longer.ensures.ok c.in_ok-longer.ensures.none

pub chain-returns-clause-ok : goal.chain-returns-clause-ok
chain-returns-clause-ok t c = climb_ends _ c.requires.level c.each.invariant c.in_default.ensures.none

pub chain-returns-clause-within : goal.chain-returns-clause-within
chain-returns-clause-within t c = c.each.invariant.within

pub chain-returns-clause-none : goal.chain-returns-clause-none
chain-returns-clause-none t c = c.in_default.ensures.none

pub chained-returns-in_err-one-clause-err : goal.chained-returns-in_err-one-clause-err
chained-returns-in_err-one-clause-err t c = exits _ _ _ _ _ c.from_residual.ensures.1 c.in_err-one.ensures.err

pub chained-returns-clause-ok : goal.chained-returns-clause-ok
chained-returns-clause-ok t c = chain_read _ _ _ _ c.in_ok-one.ensures.ok c.in_ok-one.ensures.level c.in_ok-whole.ensures

pub links-returns-in_err-first-clause-err : goal.links-returns-in_err-first-clause-err
links-returns-in_err-first-clause-err t c = exits _ _ _ _ _ c.from_residual.ensures.1 c.in_err-first.ensures.err

pub links-returns-in_default-clause-ok : goal.links-returns-in_default-clause-ok
links-returns-in_default-clause-ok t c = as_node (c.in_ok-first.ensures.ok.goes_on.reads _ _ (no_link (operator_level c.args.operator) (some_level c.args.operator) (top_level c.args.operator) (subst (λ z. IsOther z (token_kinds c.in_ok-first.rest.now)) c.level_of.ensures c.in_default.ensures.none))) (links_done (operator_level c.args.operator) (see_link c.in_ok-first.first) [] ∙ ap (λ z. node_links (operator_level c.args.operator) (MoreLinks (see_link c.in_ok-first.first) (links (map see_link z)))) (sym c.new.ensures.items))

pub links-returns-in_default-clause-level : goal.links-returns-in_default-clause-level
links-returns-in_default-clause-level t c = c.in_ok-first.ensures.ok.level_is

pub links-returns-in_default-clause-none : goal.links-returns-in_default-clause-none
links-returns-in_default-clause-none t c = one_more_level _ (operator_level c.args.operator) (some_level c.args.operator) c.in_ok-first.ensures.ok.none (subst (λ z. IsOther z (token_kinds c.in_ok-first.rest.now)) c.level_of.ensures c.in_default.ensures.none)

pub links-returns-in_err-more-clause-err : goal.links-returns-in_err-more-clause-err
links-returns-in_err-more-clause-err t c = exits _ _ _ _ _ c.from_residual-in_err-more.ensures.1 (stops_in c.in_ok-first.ensures.ok.goes_on _ c.in_err-more.ensures.err)

pub links-returns-clause-ok : goal.links-returns-clause-ok
links-returns-clause-ok t c = as_node (c.in_ok-first.ensures.ok.goes_on.reads _ _ c.in_ok-more.ensures.ok) (ap (one_link (operator_level c.args.operator) (see_link c.in_ok-first.first)) (sym (links_all (operator_level c.args.operator) (map see_link c.in_ok-more.more.items))) ∙ links_done (operator_level c.args.operator) (see_link c.in_ok-first.first) (map see_link c.in_ok-more.more.items))

pub links-returns-clause-level : goal.links-returns-clause-level
links-returns-clause-level t c = c.in_ok-first.ensures.ok.level_is

pub more_links-each-init : goal.more_links-each-init
more_links-each-init t c = (renamed {u = λ n. n} (record { reads = λ rest n r. r; runs = λ s v r. r }) (λ n. ap (λ z. before_links (operator_level c.args.operator) (map see_link z) n) (sym c.in_ok-more.ensures.items)), c.requires.none)

pub more_links-returns-in_err-one-clause-err : goal.more_links-returns-in_err-one-clause-err
more_links-returns-in_err-one-clause-err t c = exits _ _ _ _ _ c.from_residual-in_err-one.ensures.1 (stops_in c.each.invariant.0 _ (subst (λ z. StopsAs (level_tail z) c.args.depth (token_kinds c.each.left.now) c.in_err-one.field-0.0) (c.in-Some.ensures.level ∙ c.level_of.ensures) c.in_err-one.ensures.err))

pub more_links-each-smaller : goal.more_links-each-smaller
more_links-each-smaller t c = link_shorter _ _ c.in_ok-one.ensures.ok

pub more_links-each-preserved : goal.more_links-each-preserved
more_links-each-preserved t c =
    let one : IsLinkRead c.args.count (operator_level c.args.operator) c.args.depth (token_kinds c.each.left.now) (token_kinds c.in_ok-one.rest.now) (see_link c.in_ok-one.one) = subst (λ z. IsLinkRead c.args.count z c.args.depth (token_kinds c.each.left.now) (token_kinds c.in_ok-one.rest.now) (see_link c.in_ok-one.one)) (c.in-Some.ensures.level ∙ c.level_of.ensures) c.in_ok-one.ensures.ok in
    (renamed (then c.each.invariant.0 one.goes_on) (λ n. links_push (operator_level c.args.operator) _ _ c.in_ok-one.one _ n c.in_ok-push.ensures.items refl), one.none)

pub more_links-returns-clause-ok : goal.more_links-returns-clause-ok
more_links-returns-clause-ok t c = as_node (c.each.invariant.0.reads _ _ (no_link (operator_level c.args.operator) (some_level c.args.operator) (top_level c.args.operator) (subst (λ z. IsOther z (token_kinds c.each.left.now)) c.level_of.ensures c.in_default.ensures.none))) (links_all (operator_level c.args.operator) (map see_link c.each.more.items))

pub more_links-returns-clause-none : goal.more_links-returns-clause-none
more_links-returns-clause-none t c = one_more_level _ (operator_level c.args.operator) (some_level c.args.operator) c.each.invariant.1 (subst (λ z. IsOther z (token_kinds c.each.left.now)) c.level_of.ensures c.in_default.ensures.none)

pub link-returns-in_err-at-clause-err : goal.link-returns-in_err-at-clause-err
link-returns-in_err-at-clause-err t c = exits _ _ _ _ _ c.from_residual.ensures.1 (stops {count = c.args.count} (begun_link c.args.operator _ refl c.requires.next) _ (subst (λ z. StopsAs (Terminal z) c.args.depth (token_kinds c.args.tokens.now) c.in_err-at.field-0.0) c.terminal_of_operator.ensures c.in_err-at.ensures.err))

pub link-returns-in_err-operand-clause-err : goal.link-returns-in_err-operand-clause-err
link-returns-in_err-operand-clause-err t c = exits _ _ _ _ _ c.from_residual-in_err-operand.ensures.1 (stops (step (begun_link c.args.operator _ refl c.requires.next) (operator_read _ c.args.operator c.terminal_of_operator.ensures c.in_ok-at.ensures.ok)) _ (subst (λ z. StopsAs (level_symbol (z - 1)) c.args.depth (token_kinds c.in_ok-at.rest.now) c.in_err-operand.field-0.0) c.level_of.ensures c.in_err-operand.ensures.err))

pub link-returns-clause-ok : goal.link-returns-clause-ok
link-returns-clause-ok t c =
    let operand : Reads c.args.count (level_symbol (operator_level c.args.operator - 1)) c.args.depth (token_kinds c.in_ok-at.rest.now) (token_kinds c.in_ok-operand.rest.now) (node_at (operator_level c.args.operator - 1) (see_expr c.in_ok-operand.operand)) = subst (λ z. Reads c.args.count (level_symbol (z - 1)) c.args.depth (token_kinds c.in_ok-at.rest.now) (token_kinds c.in_ok-operand.rest.now) (node_at (z - 1) (see_expr c.in_ok-operand.operand))) c.level_of.ensures c.in_ok-operand.ensures.ok in
    link_read c.args.operator c.in_ok-at.at (see_expr c.in_ok-operand.operand) _ (enters (step (step (begun_link c.args.operator _ refl c.requires.next) (operator_read _ c.args.operator c.terminal_of_operator.ensures c.in_ok-at.ensures.ok)) operand)) refl (fewer_left c.in_ok-at.ensures.ok c.in_ok-operand.ensures.ok) (subst (λ z. NoneUpTo (z - 1) (token_kinds c.in_ok-operand.rest.now)) c.level_of.ensures c.in_ok-operand.ensures.none) c.new.ensures

pub operand-returns-in_err-bare-clause-err : goal.operand-returns-in_err-bare-clause-err
operand-returns-in_err-bare-clause-err t c = exits _ _ _ _ _ c.from_residual.ensures.1 (subst (λ z. StopsAs (level_symbol z) c.args.depth (token_kinds c.args.tokens.now) c.in_err-bare.field-0.0) (sym c.if-level-eq0.true) c.in_err-bare.ensures.err)

pub operand-returns-then-level-eq0-clause-ok : goal.operand-returns-then-level-eq0-clause-ok
operand-returns-then-level-eq0-clause-ok t c = subst (λ z. Reads c.args.count (level_symbol z) c.args.depth (token_kinds c.args.tokens.now) (token_kinds c.in_ok-bare.rest.now) (node_at z (see_expr c.in_ok-bare.bare))) (sym c.if-level-eq0.true) c.in_ok-bare.ensures.ok

pub operand-returns-then-level-eq0-clause-none : goal.operand-returns-then-level-eq0-clause-none
operand-returns-then-level-eq0-clause-none t c = subst (λ z. NoneUpTo z (token_kinds c.in_ok-bare.rest.now)) (sym c.if-level-eq0.true) (none_at_zero _)

pub operand-returns-in_err-whole-clause-err : goal.operand-returns-in_err-whole-clause-err
operand-returns-in_err-whole-clause-err t c = exits _ _ _ _ _ c.from_residual-in_err-whole.ensures.1 c.in_err-whole.ensures.err

pub dots_next-returns-in_err-one-clause-err : goal.dots_next-returns-in_err-one-clause-err
dots_next-returns-in_err-one-clause-err t c = exits _ _ _ _ _ c.from_residual.ensures.1 (stops_in c.each.invariant _ (stops {count = c.args.count} (dots_dot (dots_dot_at _ (sym c.next.ensures ∙ c.each-test.true))) _ c.in_err-one.ensures.err))

pub dots_next-each-smaller : goal.dots_next-each-smaller
dots_next-each-smaller t c = shorter_dot _ _ _ c.in_ok-one.ensures.ok

pub dots_next-each-preserved : goal.dots_next-each-preserved
dots_next-each-preserved t c = renamed (then c.each.invariant (enters (step (dots_dot (dots_dot_at _ (sym c.next.ensures ∙ c.each-test.true))) c.in_ok-one.ensures.ok))) (λ n. dots_push _ _ _ n c.in_ok-push.ensures.items)

pub dots_next-returns-clause-ok : goal.dots_next-returns-clause-ok
dots_next-returns-clause-ok t c = as_node (c.each.invariant.reads _ _ (ends (dots_none (dots_none_at _ (next_small (token_kinds c.each.left.now)) (λ q. c.each-test.false (c.next.ensures ∙ q)))))) (dots_all (map see_dot c.each.calls.items))

pub actuals_inside-returns-then-next-eq-CLOSE-clause-ok : goal.actuals_inside-returns-then-next-eq-CLOSE-clause-ok
actuals_inside-returns-then-next-eq-CLOSE-clause-ok t c = as_node (ends (optional_exprs_none (optional_exprs_none_at _ (sym c.next.ensures ∙ c.if-next-eq-CLOSE.true)))) (sym (ap (λ z. node_exprs (exprs (map see_expr z))) c.new-passed.ensures.items))

pub actuals_inside-returns-in_err-first-clause-err : goal.actuals_inside-returns-in_err-first-clause-err
actuals_inside-returns-in_err-first-clause-err t c = exits _ _ _ _ _ c.from_residual.ensures.1 (stops {count = c.args.count} (optional_exprs_expr (optional_exprs_expr_at _ (next_small (token_kinds c.args.tokens.now)) (λ q. c.if-next-eq-CLOSE.false (c.next.ensures ∙ q)))) _ c.in_err-first.ensures.err)

pub actuals_inside-each-init : goal.actuals_inside-each-init
actuals_inside-each-init t c = (renamed (enters (step (optional_exprs_expr (optional_exprs_expr_at _ (next_small (token_kinds c.args.tokens.now)) (λ q. c.if-next-eq-CLOSE.false (c.next.ensures ∙ q)))) c.in_ok-first.ensures.ok)) (λ n. opt_first _ _ n (c.in_ok-push.ensures.items ∙ ap (λ z. z ++ (c.in_ok-first.first ∷ [])) c.new-passed.ensures.items)), pushed _ _ _ c.in_ok-push.ensures.items)

pub actuals_inside-returns-in_err-rest-clause-err : goal.actuals_inside-returns-in_err-rest-clause-err
actuals_inside-returns-in_err-rest-clause-err t c = exits _ _ _ _ _ c.from_residual-in_err-rest.ensures.1 (stops_in c.each.invariant.0 _ (stops {count = c.args.count} (more_exprs_comma (more_exprs_comma_at _ (sym c.next-in-each.ensures ∙ c.each-test.true))) _ c.in_err-rest.ensures.err))

pub actuals_inside-returns-in_err-one-clause-err : goal.actuals_inside-returns-in_err-one-clause-err
actuals_inside-returns-in_err-one-clause-err t c = exits _ _ _ _ _ c.from_residual-in_err-one.ensures.1 (stops_in c.each.invariant.0 _ (stops (step (more_exprs_comma (more_exprs_comma_at _ (sym c.next-in-each.ensures ∙ c.each-test.true))) c.in_ok-rest.ensures.ok) _ c.in_err-one.ensures.err))

pub actuals_inside-each-smaller : goal.actuals_inside-each-smaller
actuals_inside-each-smaller t c = shorter _ _ _ c.in_ok-rest.ensures.ok c.in_ok-one.ensures.ok

pub actuals_inside-each-preserved : goal.actuals_inside-each-preserved
actuals_inside-each-preserved t c = (renamed (then c.each.invariant.0 (enters (step (step (more_exprs_comma (more_exprs_comma_at _ (sym c.next-in-each.ensures ∙ c.each-test.true))) c.in_ok-rest.ensures.ok) c.in_ok-one.ensures.ok))) (λ n. opt_push _ _ _ n c.each.invariant.1 c.in_ok-push-2.ensures.items), pushed _ _ _ c.in_ok-push-2.ensures.items)

pub actuals_inside-returns-clause-ok : goal.actuals_inside-returns-clause-ok
actuals_inside-returns-clause-ok t c = as_node (c.each.invariant.0.reads _ _ (ends (more_exprs_none (more_exprs_none_at _ (next_small (token_kinds c.each.left.now)) (λ q. c.each-test.false (c.next-in-each.ensures ∙ q)))))) (opt_all _ c.each.invariant.1)
