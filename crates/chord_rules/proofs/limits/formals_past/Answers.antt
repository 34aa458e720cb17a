use Rattle.std.proofs.Common.{◌+◌, drop}
use Rattle.chord_classes.specs.ChordRules.{formal_tokens}
use Rattle.chord_classes.specs.Least.{least, keys}
use Rattle.chord_rules.proofs.Rooms.{next_room}
use Rattle.chord_classes.proofs.Search.{item_by_item}
use Rattle.chord_rules.proofs.limits.formals_past.Goals as goal

pub loop-formal-preserved : goal.loop-formal-preserved
loop-formal-preserved c =
    item_by_item (λ fs. least c.loop-formal.breaks.found (keys 4 (drop c.loop-formal.room (formal_tokens fs)))) c.args.formals.now c.loop-formal.formal-index c.formal-item.result _ _ c.loop-formal-test.true c.formal-item.is
    (next_room c.loop-formal.room _ c.formal-item.result.name.at (formal_tokens (drop (c.loop-formal.formal-index + 1) c.args.formals.now)) c.loop-formal.breaks.found _ c.take_room.ensures.room c.take_room.ensures.noted) c.loop-formal.invariant
