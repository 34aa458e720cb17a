use Rattle.std.proofs.Common.{◌≡◌, map, drop, ◌+◌, ◌*◌}
use Rattle.std.specs.Prelude.{sum_by}
use Rattle.chord_tree.specs.ViewStmts.{see_item}
use Rattle.chord_tree.proofs.Weights.{total}
use Rattle.chord_tree.proofs.WeightsStmts.{weigh_item, weigh_stmt, weigh_block}
use Rattle.chord_bodies.specs.View.{view_stmt}
use Rattle.chord_types.specs.Flat.{doubled_stmt}
use Rattle.chord_types.proofs.Items.{AreLeft}
use Rattle.chord_types.proofs.stmts.+stmts.Given as goal

abbrev pub invariant-items-each : goal.invariant-items-each
invariant-items-each l = AreLeft l.initial.site l.site (map see_item l.items) (map see_item (drop l.one-index l.items)) l.initial.breaks.found l.breaks.found (map view_stmt l.stmts.items) × (sum_by doubled_stmt l.stmts.items ≡ 0)

abbrev pub decreases-stmt : goal.decreases-stmt
decreases-stmt l = 2 * weigh_stmt l.stmt.now

abbrev pub decreases-boxed_stmt : goal.decreases-boxed_stmt
decreases-boxed_stmt l = 2 * weigh_stmt l.inner.now + 1

abbrev pub decreases-if_then : goal.decreases-if_then
decreases-if_then l = 2 * weigh_stmt l.first.now + 2

abbrev pub decreases-if_else : goal.decreases-if_else
decreases-if_else l = 2 * (weigh_stmt l.first.now + weigh_stmt l.second.now) + 2

abbrev pub decreases-while_loop : goal.decreases-while_loop
decreases-while_loop l = 2 * weigh_stmt l.body.now + 2

abbrev pub decreases-block_stmt : goal.decreases-block_stmt
decreases-block_stmt l = 2 * weigh_block l.inner.now + 1

abbrev pub decreases-block : goal.decreases-block
decreases-block l = 2 * weigh_block l.block.now

abbrev pub decreases-items : goal.decreases-items
decreases-items l = 2 * total (map weigh_item l.items.now) + 1

abbrev pub decreases-item : goal.decreases-item
decreases-item l = 2 * weigh_item l.item.now
