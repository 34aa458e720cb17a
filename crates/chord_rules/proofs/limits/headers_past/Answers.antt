use Rattle.std.proofs.Common.{◌+◌, map, drop}
use Rattle.chord_tree.specs.View.{see_header}
use Rattle.chord_classes.specs.ChordRules.{header_tokens}
use Rattle.chord_classes.specs.Least.{least, keys}
use Rattle.chord_rules.proofs.Rooms.{next_room}
use Rattle.chord_classes.proofs.Search.{item_by_item}
use Rattle.chord_rules.proofs.limits.headers_past.Goals as goal

pub loop-header-preserved : goal.loop-header-preserved
loop-header-preserved c =
    item_by_item (λ fs. least c.loop-header.breaks.found (keys 4 (drop c.loop-header.room (header_tokens (map see_header fs))))) c.args.headers.now c.loop-header.header-index c.header-item.result _ _ c.loop-header-test.true c.header-item.is
    (next_room c.loop-header.room _ c.header-item.result.name.at (header_tokens (map see_header (drop (c.loop-header.header-index + 1) c.args.headers.now))) c.loop-header.breaks.found _ c.take_room.ensures.room c.take_room.ensures.noted) c.loop-header.invariant
