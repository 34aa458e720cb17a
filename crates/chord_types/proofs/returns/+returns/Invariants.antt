use Rattle.std.proofs.Common.{◌≡◌, map, drop, ◌+◌}
use Rattle.chord_tree.specs.Tree.{items}
use Rattle.chord_tree.specs.ViewStmts.{see_item}
use Rattle.chord_tree.proofs.Weights.{total}
use Rattle.chord_tree.proofs.WeightsStmts.{weigh_item, weigh_stmt, weigh_block}
use Rattle.chord_classes.specs.ItemRules.{items_surely}
use Rattle.chord_types.proofs.returns.+returns.Given as goal

abbrev pub invariant-items_surely-each : goal.invariant-items_surely-each
invariant-items_surely-each l = items_surely (items (map see_item (drop l.item-index l.all))) ≡ items_surely (items (map see_item l.all))

abbrev pub decreases-surely : goal.decreases-surely
decreases-surely l = weigh_stmt l.stmt.now

abbrev pub decreases-both_surely : goal.decreases-both_surely
decreases-both_surely l = weigh_stmt l.first.now + weigh_stmt l.second.now + 1

abbrev pub decreases-block_surely : goal.decreases-block_surely
decreases-block_surely l = weigh_block l.block.now

abbrev pub decreases-items_surely : goal.decreases-items_surely
decreases-items_surely l = total (map weigh_item l.all.now) + 1

abbrev pub decreases-item_surely : goal.decreases-item_surely
decreases-item_surely l = weigh_item l.item.now
