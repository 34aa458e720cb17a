use Rattle.std.proofs.Common.{◌+◌, map, drop}
use Rattle.std.specs.Prelude.{◌||◌}
use Rattle.chord_tree.specs.View.{see_header}
use Rattle.chord_classes.specs.ChordRules.{mains_among}
use Rattle.chord_classes.specs.Least.{least, keys}
use Rattle.chord_rules.specs.Mains.{wrong_from, some_main, main_at}
use Rattle.chord_rules.proofs.MainHeaders.{next_mains, next_seen}
use Rattle.chord_classes.proofs.Search.{item_by_item}
use Rattle.chord_rules.proofs.mains.headers_mains.Goals as goal

pub loop-header-preserved : goal.loop-header-preserved
loop-header-preserved c =
    let seen = c.loop-header.seen in
    let here = main_at (map see_header c.args.headers.now) (see_header c.header-item.result) in
    let rest = mains_among (map see_header c.args.headers.now) (map see_header (drop (c.loop-header.header-index + 1) c.args.headers.now)) in
    let after = c.main_breaks-seen.ensures.seen in
    let noted = c.main_breaks-seen.ensures.noted in
    record {
      noted = item_by_item (λ xs. least c.loop-header.breaks.found (keys 13 (wrong_from seen (mains_among (map see_header c.args.headers.now) (map see_header xs))))) c.args.headers.now c.loop-header.header-index c.header-item.result _ _ c.loop-header-test.true c.header-item.is
          (next_mains seen c.main_breaks-seen.result here rest c.loop-header.breaks.found _ after noted) c.loop-header.invariant.noted;
      some = item_by_item (λ xs. seen || some_main (mains_among (map see_header c.args.headers.now) (map see_header xs))) c.args.headers.now c.loop-header.header-index c.header-item.result _ _ c.loop-header-test.true c.header-item.is
          (next_seen seen c.main_breaks-seen.result here rest after) c.loop-header.invariant.some;
    }
