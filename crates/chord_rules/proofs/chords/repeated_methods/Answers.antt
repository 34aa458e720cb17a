use Rattle.std.proofs.Common.{◌+◌, ◌<◌, arith, length, map, drop, sym, ap}
use Rattle.std.specs.Prelude.{reverse}
use Rattle.chord_tree.specs.View.{see_header}
use Rattle.chord_classes.specs.ChordRules.{repeated}
use Rattle.chord_classes.specs.Least.{least, keys}
use Rattle.chord_rules.proofs.NamesBefore.{few_repeated, next_repeated}
use Rattle.chord_classes.proofs.Search.{item_by_item, map_length}
use Rattle.chord_rules.proofs.chords.repeated_methods.Goals as goal

pub loop-header-preserved : goal.loop-header-preserved
loop-header-preserved c =
    item_by_item (λ hs. least c.loop-header.breaks.found (keys 7 (repeated (reverse c.loop-header.names) (map see_header hs)))) c.args.headers.now c.loop-header.header-index c.header-item.result _ _ c.loop-header-test.true c.header-item.is
    (next_repeated c.loop-header.names c.in_ok-names.names c.items.result.now (see_header c.header-item.result) (map see_header (drop (c.loop-header.header-index + 1) c.args.headers.now)) _ _ c.in_ok-names.ensures c.items.ensures.bytes c.repeated_method.ensures)
    c.loop-header.invariant

pub returns-then-headers-lt2-clause-repeated : goal.returns-then-headers-lt2-clause-repeated
returns-then-headers-lt2-clause-repeated c =
    let few : length (map see_header c.args.headers.now) < 2 = (let same = map_length see_header c.args.headers.now in omega (arith, same, c.if-headers-lt2.true)) in
    ap (λ z. least c.args.breaks.now.found (keys 7 z)) (sym (few_repeated (map see_header c.args.headers.now) few))
