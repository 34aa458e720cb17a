use Rattle.std.proofs.Common.{◌+◌, map, drop, flat_map}
use Rattle.chord_classes.specs.Table.{inherited}
use Rattle.chord_classes.specs.Least.{least}
use Rattle.chord_rules.specs.FirstHeaders.{see_lent}
use Rattle.chord_rules.specs.ClassKeys.{header_keys}
use Rattle.chord_rules.proofs.Noted.{then_all}
use Rattle.chord_classes.proofs.Search.{item_by_item}
use Rattle.chord_rules.proofs.overrides.headers_break.Goals as goal

pub loop-header-preserved : goal.loop-header-preserved
loop-header-preserved c =
    let at_header = header_keys (map see_lent c.args.firsts.now.all.items) (inherited c.args.table.now c.args.base) in
    item_by_item (λ hs. least c.loop-header.breaks.found (flat_map at_header (map see_lent hs))) c.as_slice-header-items.result.now c.loop-header.header-index c.header-item.result _ _ c.loop-header-test.true c.header-item.is
    (then_all c.loop-header.breaks.found _ (at_header (see_lent c.header-item.result)) (flat_map at_header (map see_lent (drop (c.loop-header.header-index + 1) c.as_slice-header-items.result.now))) c.header_breaks.ensures) c.loop-header.invariant
