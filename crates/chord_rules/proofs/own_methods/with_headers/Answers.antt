use Rattle.std.proofs.Common.{sym, subst, map}
use Rattle.chord_tree.specs.View.{see_header}
use Rattle.chord_classes.specs.Table.{inherited}
use Rattle.chord_rules.specs.Growing.{IsCounted}
use Rattle.chord_classes.proofs.Search.{item_here, behind_end}
use Rattle.chord_rules.proofs.Counted.{counted_over, counted_none}
use Rattle.chord_rules.proofs.own_methods.with_headers.Goals as goal

pub loop-header-preserved : goal.loop-header-preserved
loop-header-preserved c = λ after p more.
    c.loop-header.invariant after p
    (subst (λ hs. IsCounted (inherited c.args.table.now c.args.base) c.args.owner (map see_header hs) c.loop-header.grown after c.loop-header.breaks.found p)
    (sym (item_here c.args.headers.now c.loop-header.header-index c.header-item.result c.loop-header-test.true c.header-item.is))
    (counted_over c.in_ok-grown.ensures.counted more))

pub returns : goal.returns
returns c = c.loop-header.invariant c.loop-header.grown c.loop-header.breaks.found
    (subst (λ hs. IsCounted (inherited c.args.table.now c.args.base) c.args.owner (map see_header hs) c.loop-header.grown c.loop-header.grown c.loop-header.breaks.found c.loop-header.breaks.found)
    (sym (behind_end c.args.headers.now c.loop-header.header-index c.loop-header-test.false)) counted_none)
