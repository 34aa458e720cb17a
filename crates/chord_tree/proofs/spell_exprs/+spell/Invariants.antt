use Rattle.std.proofs.Common.{List, map, drop, ◌+◌}
use Rattle.chord_tree.proofs.Weights.{total, weigh_expr, weigh_parts, weigh_calls, weigh_link, weigh_start, weigh_own_call, weigh_creation, weigh_actuals, weigh_dot}
use Rattle.chord_lexer.specs.declared.token.Token.{Token}
use Rattle.chord_tree.specs.Program.{Adds}
use Rattle.chord_tree.specs.ExprNodes.{node_links, node_more, node_dots}
use Rattle.chord_tree.specs.Tree.{links, dots, exprs}
use Rattle.chord_tree.specs.ViewExprs.{see_expr, see_link, see_dot}
use Rattle.chord_tree.proofs.spell_exprs.+spell.Given as goal

abbrev pub invariant-put_dots-each : goal.invariant-put_dots-each
invariant-put_dots-each l = (end : List Token) → Adds l.out.items end (node_dots (dots (map see_dot (drop l.dot-index l.calls)))) → Adds l.initial.out.items end (node_dots (dots (map see_dot l.calls)))

abbrev pub invariant-put_exprs-each : goal.invariant-put_exprs-each
invariant-put_exprs-each l = (end : List Token) → Adds l.out.items end (node_more (exprs (map see_expr (drop l.expr-index l.more)))) → Adds l.initial.out.items end (node_more (exprs (map see_expr l.more)))

abbrev pub invariant-put_links-each : goal.invariant-put_links-each
invariant-put_links-each l = (end : List Token) → Adds l.out.items end (node_links 0 (links (map see_link (drop l.link-index l.more)))) → Adds l.initial.out.items end (node_links 0 (links (map see_link l.more)))

abbrev pub decreases-put_expr : goal.decreases-put_expr
decreases-put_expr l = weigh_expr l.expr.now

abbrev pub decreases-put_chain : goal.decreases-put_chain
decreases-put_chain l = weigh_parts l.chain.now

abbrev pub decreases-put_calls : goal.decreases-put_calls
decreases-put_calls l = weigh_calls l.calls.now

abbrev pub decreases-put_link : goal.decreases-put_link
decreases-put_link l = weigh_link l.link.now

abbrev pub decreases-put_links : goal.decreases-put_links
decreases-put_links l = total (map weigh_link l.more.now) + 1

abbrev pub decreases-put_start : goal.decreases-put_start
decreases-put_start l = weigh_start l.start.now

abbrev pub decreases-put_own_call : goal.decreases-put_own_call
decreases-put_own_call l = weigh_own_call l.call.now

abbrev pub decreases-put_creation : goal.decreases-put_creation
decreases-put_creation l = weigh_creation l.creation.now

abbrev pub decreases-put_actuals : goal.decreases-put_actuals
decreases-put_actuals l = weigh_actuals l.actuals.now

abbrev pub decreases-put_exprs : goal.decreases-put_exprs
decreases-put_exprs l = total (map weigh_expr l.arguments.now) + 1

abbrev pub decreases-put_dots : goal.decreases-put_dots
decreases-put_dots l = total (map weigh_dot l.calls.now) + 1

abbrev pub decreases-put_dot : goal.decreases-put_dot
decreases-put_dot l = weigh_dot l.dot.now
