use Rattle.std.proofs.Common.{ℕ, Option, map, drop, ◌+◌}
use Rattle.chord_tree.specs.Tree.{items}
use Rattle.chord_tree.specs.ViewStmts.{see_item}
use Rattle.chord_tree.proofs.Weights.{total}
use Rattle.chord_tree.proofs.WeightsStmts.{weigh_item, weigh_stmt, weigh_block}
use Rattle.chord_classes.specs.ChordRules.{items_names}
use Rattle.chord_rules.specs.Limits.{TakesRoom}
use Rattle.chord_rules.proofs.locals.+locals.Given as goal

-- what the items from here on take, all take from the room in the beginning
abbrev pub invariant-items_past-each : goal.invariant-items_past-each
invariant-items_past-each l = (over : ℕ) (p : Option ℕ) → TakesRoom (items_names (items (map see_item (drop l.item-index l.list)))) l.room over l.breaks.found p → TakesRoom (items_names (items (map see_item l.list))) l.initial.room over l.initial.breaks.found p

abbrev pub decreases-block_past : goal.decreases-block_past
decreases-block_past l = weigh_block l.block.now

abbrev pub decreases-items_past : goal.decreases-items_past
decreases-items_past l = total (map weigh_item l.list.now) + 1

abbrev pub decreases-item_past : goal.decreases-item_past
decreases-item_past l = weigh_item l.item.now

abbrev pub decreases-stmt_past : goal.decreases-stmt_past
decreases-stmt_past l = weigh_stmt l.stmt.now

abbrev pub decreases-both_past : goal.decreases-both_past
decreases-both_past l = weigh_stmt l.first.now + weigh_stmt l.second.now + 1
