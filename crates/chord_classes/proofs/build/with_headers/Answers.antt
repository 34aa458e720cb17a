use Rattle.std.proofs.Common.{sym, subst, map}
use Rattle.chord_tree.specs.View.{see_header}
use Rattle.chord_classes.specs.Table.{inherited}
use Rattle.chord_classes.specs.Entries.{IsGrown}
use Rattle.chord_classes.proofs.Search.{item_here}
use Rattle.chord_classes.proofs.GrownMethods.{grown_on}
use Rattle.chord_classes.proofs.build.with_headers.Goals as goal

pub loop-header-preserved : goal.loop-header-preserved
loop-header-preserved c = λ after more.
    c.loop-header.invariant after
    (subst (λ hs. IsGrown (inherited c.args.table.now c.args.base) c.args.owner (map see_header hs) c.loop-header.own.all.items after)
    (sym (item_here c.args.headers.now c.loop-header.header-index c.header-item.result c.loop-header-test.true c.header-item.is))
    (grown_on c.in_ok-own.ensures.added more))
