use Rattle.std.proofs.Common.{List, map, drop, ◌+◌}
use Rattle.chord_lexer.specs.declared.token.Token.{Token}
use Rattle.chord_tree.specs.Program.{Adds}
use Rattle.chord_tree.specs.StmtNodes.{node_items}
use Rattle.chord_tree.specs.Tree.{items}
use Rattle.chord_tree.specs.ViewStmts.{see_item}
use Rattle.chord_tree.proofs.Weights.{total}
use Rattle.chord_tree.proofs.WeightsStmts.{weigh_item, weigh_stmt, weigh_block}
use Rattle.chord_tree.proofs.spell_stmts.+spell.Given as goal

abbrev pub invariant-put_items-each : goal.invariant-put_items-each
invariant-put_items-each l = (end : List Token) → Adds l.out.items end (node_items (items (map see_item (drop l.item-index l.list)))) → Adds l.initial.out.items end (node_items (items (map see_item l.list)))

abbrev pub decreases-put_block : goal.decreases-put_block
decreases-put_block l = weigh_block l.block.now

abbrev pub decreases-put_items : goal.decreases-put_items
decreases-put_items l = total (map weigh_item l.list.now) + 1

abbrev pub decreases-put_item : goal.decreases-put_item
decreases-put_item l = weigh_item l.item.now

abbrev pub decreases-put_stmt : goal.decreases-put_stmt
decreases-put_stmt l = weigh_stmt l.stmt.now

abbrev pub decreases-put_if : goal.decreases-put_if
decreases-put_if l = weigh_stmt l.first.now + 1

abbrev pub decreases-put_if_else : goal.decreases-put_if_else
decreases-put_if_else l = weigh_stmt l.first.now + weigh_stmt l.second.now + 1

abbrev pub decreases-put_while : goal.decreases-put_while
decreases-put_while l = weigh_stmt l.body.now + 1
