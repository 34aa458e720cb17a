use Rattle.std.proofs.Common.{◌+◌, map, drop, flat_map, ap, ◌∙◌}
use Rattle.chord_tree.specs.View.{see_header}
use Rattle.chord_classes.specs.ChordRules.{formal_tokens}
use Rattle.chord_classes.specs.Least.{least, keys}
use Rattle.chord_rules.specs.Limits.{crowded_formals}
use Rattle.chord_rules.proofs.Noted.{then_noted}
use Rattle.chord_classes.proofs.Search.{item_by_item}
use Rattle.chord_rules.proofs.limits.header_formals_past.Goals as goal

pub loop-header-preserved : goal.loop-header-preserved
loop-header-preserved c =
    item_by_item (λ hs. least c.loop-header.breaks.found (keys 4 (flat_map crowded_formals (map see_header hs)))) c.args.headers.now c.loop-header.header-index c.header-item.result _ _ c.loop-header-test.true c.header-item.is
    (then_noted 4 c.loop-header.breaks.found _ (crowded_formals (see_header c.header-item.result)) (flat_map crowded_formals (map see_header (drop (c.loop-header.header-index + 1) c.args.headers.now)))
    (c.formals_past.ensures ∙ ap (λ z. least c.loop-header.breaks.found (keys 4 (drop 8 (formal_tokens z)))) c.deref.ensures.value)) c.loop-header.invariant
