use Rattle.std.proofs.Common.{◌+◌, map, drop, length, flat_map}
use Rattle.chord_tree.specs.View.{see_header}
use Rattle.chord_classes.specs.Least.{least, keys}
use Rattle.chord_rules.specs.Bearers.{header_barred}
use Rattle.chord_rules.proofs.Noted.{then_noted}
use Rattle.chord_classes.proofs.Search.{item_by_item}
use Rattle.chord_rules.proofs.modifiers.headers_barred.Goals as goal

pub loop-header-preserved : goal.loop-header-preserved
loop-header-preserved c =
    let count = length c.args.headers.now in
    item_by_item (λ hs. least c.loop-header.breaks.found (keys 21 (flat_map (header_barred count) (map see_header hs)))) c.args.headers.now c.loop-header.header-index c.header-item.result _ _ c.loop-header-test.true c.header-item.is
    (then_noted 21 c.loop-header.breaks.found _ (header_barred count (see_header c.header-item.result)) (flat_map (header_barred count) (map see_header (drop (c.loop-header.header-index + 1) c.args.headers.now))) c.header_barred.ensures) c.loop-header.invariant
