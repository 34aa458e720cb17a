use Rattle.std.proofs.Common.{◌≡◌, ℕ, Option, map, take, ◌+◌, ◌*◌}
use Rattle.std.specs.Prelude.{sum_by}
use Rattle.chord_tree.specs.Tree.{dots, links}
use Rattle.chord_tree.specs.Terms.{Term, called, operated}
use Rattle.chord_tree.specs.Walk.{Used, Receiver}
use Rattle.chord_tree.specs.ViewExprs.{see_expr, see_dot, see_link}
use Rattle.chord_tree.proofs.Weights.{total, weigh_expr, weigh_parts, weigh_calls, weigh_link, weigh_start, weigh_own_call, weigh_creation, weigh_actuals, weigh_dot}
use Rattle.chord_bodies.specs.View.{view_expr}
use Rattle.chord_types.specs.Views.{see_passed}
use Rattle.chord_types.specs.Sites.{see_site}
use Rattle.chord_types.specs.Checked.{IsChecked, IsReceiver}
use Rattle.chord_types.specs.Flat.{doubled}
use Rattle.chord_types.proofs.Nodes.{AreAll}
use Rattle.chord_types.proofs.exprs.+exprs.Given as goal

abbrev pub invariant-arguments-each : goal.invariant-arguments-each
invariant-arguments-each l = AreAll (see_site l.site) (map see_expr (take l.actual-index l.actuals)) l.initial.breaks.found l.breaks.found (map view_expr l.exprs.items) (map see_passed l.passed.items) × (sum_by doubled l.exprs.items ≡ 0)

abbrev pub invariant-calls_on-each : goal.invariant-calls_on-each
invariant-calls_on-each l = (t : Term) (o : Option ℕ) → IsReceiver (see_site l.site) Receiver t o l.initial.breaks.found l.fn.first → IsReceiver (see_site l.site) Receiver (called (dots (map see_dot (take l.dot-index l.calls))) t) o l.breaks.found l.receiver

abbrev pub invariant-links_on-each : goal.invariant-links_on-each
invariant-links_on-each l = (t : Term) (o : Option ℕ) → IsChecked (see_site l.site) Used t o l.initial.breaks.found l.fn.first → IsChecked (see_site l.site) Used (operated (links (map see_link (take l.link-index l.more))) t) o l.breaks.found l.left

abbrev pub decreases-expr : goal.decreases-expr
decreases-expr l = 2 * weigh_expr l.expr.now

abbrev pub decreases-minus_of : goal.decreases-minus_of
decreases-minus_of l = 2 * weigh_expr l.operand.now + 1

abbrev pub decreases-not_of : goal.decreases-not_of
decreases-not_of l = 2 * weigh_expr l.operand.now + 1

abbrev pub decreases-joined : goal.decreases-joined
decreases-joined l = 2 * weigh_parts l.chain.now

abbrev pub decreases-links_on : goal.decreases-links_on
decreases-links_on l = 2 * total (map weigh_link l.more.now) + 1

abbrev pub decreases-link_on : goal.decreases-link_on
decreases-link_on l = 2 * weigh_link l.link.now

abbrev pub decreases-with_calls : goal.decreases-with_calls
decreases-with_calls l = 2 * weigh_calls l.calls.now

abbrev pub decreases-start : goal.decreases-start
decreases-start l = 2 * weigh_start l.start.now

abbrev pub decreases-group : goal.decreases-group
decreases-group l = 2 * weigh_expr l.inner.now + 1

abbrev pub decreases-chain_group : goal.decreases-chain_group
decreases-chain_group l = 2 * weigh_parts l.chain.now + 1

abbrev pub decreases-start_call : goal.decreases-start_call
decreases-start_call l = 2 * weigh_own_call l.call.now

abbrev pub decreases-start_new : goal.decreases-start_new
decreases-start_new l = 2 * weigh_creation l.creation.now

abbrev pub decreases-own_call : goal.decreases-own_call
decreases-own_call l = 2 * weigh_actuals l.actuals.now

abbrev pub decreases-new_object : goal.decreases-new_object
decreases-new_object l = 2 * weigh_actuals l.actuals.now

abbrev pub decreases-calls_on : goal.decreases-calls_on
decreases-calls_on l = 2 * total (map weigh_dot l.calls.now) + 1

abbrev pub decreases-call_on : goal.decreases-call_on
decreases-call_on l = 2 * weigh_dot l.dot.now

abbrev pub decreases-arguments : goal.decreases-arguments
decreases-arguments l = 2 * total (map weigh_expr l.actuals.now) + 1
