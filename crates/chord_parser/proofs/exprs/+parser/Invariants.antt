use Rattle.std.proofs.Common.{◌<◌, length, ◌+◌, ◌-◌, ◌*◌, map}
use Rattle.chord_tree.specs.Symbols as grammar
use Rattle.chord_tree.specs.Program.{token_kinds}
use Rattle.chord_tree.specs.ExprNodes.{operator_level, level_tail}
use Rattle.chord_tree.specs.ViewExprs.{see_expr, see_link, see_dot}
use Rattle.chord_parser.specs.Reading.{Continues, before_links, before_dots, before_opt}
use Rattle.chord_parser.specs.Climbing.{NoneUpTo, Climbed}
use Rattle.chord_parser.proofs.exprs.+parser.Given as goal

abbrev pub decreases-actuals : goal.decreases-actuals
decreases-actuals l = 64 * (203 - l.depth) + 11

abbrev pub decreases-actuals_inside : goal.decreases-actuals_inside
decreases-actuals_inside l = 64 * (203 - l.depth) + 10

abbrev pub decreases-chain : goal.decreases-chain
decreases-chain l = 64 * (203 - l.depth) + (6 * l.level + 6)

abbrev pub decreases-chained : goal.decreases-chained
decreases-chained l = 64 * (203 - l.depth) + (6 * operator_level l.operator + 5)

abbrev pub decreases-chained_by_or : goal.decreases-chained_by_or
decreases-chained_by_or l = 64 * (203 - l.depth) + 42

abbrev pub decreases-links : goal.decreases-links
decreases-links l = 64 * (203 - l.depth) + (6 * operator_level l.operator + 4)

abbrev pub decreases-more_links : goal.decreases-more_links
decreases-more_links l = 64 * (203 - l.depth) + (6 * operator_level l.operator + 3)

abbrev pub decreases-link : goal.decreases-link
decreases-link l = 64 * (203 - l.depth) + (6 * operator_level l.operator + 2)

abbrev pub decreases-operand : goal.decreases-operand
decreases-operand l = 64 * (203 - l.depth) + (6 * l.level + 7)

abbrev pub decreases-dot : goal.decreases-dot
decreases-dot l = 64 * (203 - l.depth) + 12

abbrev pub decreases-calls_on : goal.decreases-calls_on
decreases-calls_on l = 64 * (203 - l.depth) + 14

abbrev pub decreases-dots_next : goal.decreases-dots_next
decreases-dots_next l = 64 * (203 - l.depth) + 13

abbrev pub decreases-expr : goal.decreases-expr
decreases-expr l = 64 * (203 - l.depth)

abbrev pub decreases-start : goal.decreases-start
decreases-start l = 64 * (203 - l.depth) + 15

abbrev pub decreases-start_group : goal.decreases-start_group
decreases-start_group l = 64 * (203 - l.depth) + 14

abbrev pub decreases-start_name : goal.decreases-start_name
decreases-start_name l = 64 * (203 - l.depth) + 14

abbrev pub decreases-start_new : goal.decreases-start_new
decreases-start_new l = 64 * (203 - l.depth) + 14

abbrev pub decreases-unary : goal.decreases-unary
decreases-unary l = 64 * (203 - l.depth) + 2

abbrev pub decreases-any_unary : goal.decreases-any_unary
decreases-any_unary l = 64 * (203 - l.depth) + 1

abbrev pub decreases-unary_minus : goal.decreases-unary_minus
decreases-unary_minus l = 64 * (203 - l.depth)

abbrev pub decreases-unary_not : goal.decreases-unary_not
decreases-unary_not l = 64 * (203 - l.depth)

abbrev pub invariant-chain-each : goal.invariant-chain-each
invariant-chain-each l = Climbed l.count l.depth l.level (token_kinds l.tokens) (token_kinds l.left) (see_expr l.whole)

abbrev pub decreases-chain-each : goal.decreases-chain-each
decreases-chain-each l = length l.left

abbrev pub invariant-more_links-each : goal.invariant-more_links-each
invariant-more_links-each l = Continues l.count (level_tail (operator_level l.operator)) l.depth (token_kinds l.tokens) (level_tail (operator_level l.operator)) l.depth (token_kinds l.left) (before_links (operator_level l.operator) (map see_link l.more.items)) × NoneUpTo (operator_level l.operator - 1) (token_kinds l.left)

abbrev pub decreases-more_links-each : goal.decreases-more_links-each
decreases-more_links-each l = length l.left

abbrev pub invariant-dots_next-each : goal.invariant-dots_next-each
invariant-dots_next-each l = Continues l.count grammar.Dots l.depth (token_kinds l.tokens) grammar.Dots l.depth (token_kinds l.left) (before_dots (map see_dot l.calls.items))

abbrev pub decreases-dots_next-each : goal.decreases-dots_next-each
decreases-dots_next-each l = length l.left

abbrev pub invariant-actuals_inside-each : goal.invariant-actuals_inside-each
invariant-actuals_inside-each l = Continues l.count grammar.Optional_exprs l.depth (token_kinds l.tokens) grammar.More_exprs l.depth (token_kinds l.left) (before_opt (map see_expr l.passed.items)) × (0 < length l.passed.items)

abbrev pub decreases-actuals_inside-each : goal.decreases-actuals_inside-each
decreases-actuals_inside-each l = length l.left
