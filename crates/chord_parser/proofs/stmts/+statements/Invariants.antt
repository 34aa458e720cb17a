use Rattle.std.proofs.Common.{length, ◌+◌, ◌-◌, ◌*◌, map}
use Rattle.chord_tree.specs.Symbols as grammar
use Rattle.chord_tree.specs.Program.{token_kinds}
use Rattle.chord_tree.specs.ViewStmts.{see_item}
use Rattle.chord_parser.specs.Reading.{Continues, before_items}
use Rattle.chord_parser.proofs.stmts.+statements.Given as goal

abbrev pub decreases-block : goal.decreases-block
decreases-block l = 8 * (203 - l.depth) + 6

abbrev pub decreases-boxed_stmt : goal.decreases-boxed_stmt
decreases-boxed_stmt l = 8 * (203 - l.depth) + 1

abbrev pub decreases-branches : goal.decreases-branches
decreases-branches l = 8 * (203 - l.depth) + 3

abbrev pub decreases-else_of : goal.decreases-else_of
decreases-else_of l = 8 * (203 - l.depth) + 2

abbrev pub decreases-if_stmt : goal.decreases-if_stmt
decreases-if_stmt l = 8 * (203 - l.depth) + 6

abbrev pub decreases-item : goal.decreases-item
decreases-item l = 8 * (203 - l.depth) + 1

abbrev pub decreases-items_of : goal.decreases-items_of
decreases-items_of l = 8 * (203 - l.depth) + 5

abbrev pub decreases-other : goal.decreases-other
decreases-other l = 8 * (203 - l.depth) + 7

abbrev pub decreases-stmt : goal.decreases-stmt
decreases-stmt l = 8 * (203 - l.depth) + 0

abbrev pub decreases-while_stmt : goal.decreases-while_stmt
decreases-while_stmt l = 8 * (203 - l.depth) + 6

abbrev pub invariant-items_of-each : goal.invariant-items_of-each
invariant-items_of-each l = Continues l.count grammar.Items l.depth (token_kinds l.tokens) grammar.Items l.depth (token_kinds l.left) (before_items (map see_item l.inside.items))

abbrev pub decreases-items_of-each : goal.decreases-items_of-each
decreases-items_of-each l = length l.left
