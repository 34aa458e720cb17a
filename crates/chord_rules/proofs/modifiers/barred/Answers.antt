use Rattle.std.proofs.Common.{false, ap, ◌∙◌, []}
use Rattle.chord_classes.specs.Least.{least, keys}
use Rattle.chord_rules.specs.Bearers.{see_bearer, barred_from}
use Rattle.chord_rules.proofs.Barred.{barred_by_seen}
use Rattle.chord_classes.proofs.Search.{search_ended}
use Rattle.chord_rules.proofs.modifiers.barred.Goals as goal

pub returns : goal.returns
returns c =
    let bearer = see_bearer c.args.bearer in
    search_ended (λ ms. least c.loop-modifier.breaks.found (keys 21 (barred_from bearer c.is_open-open_access.result c.loop-modifier.seen ms))) c.args.modifiers.now c.loop-modifier.modifier-index _ c.loop-modifier-test.false c.loop-modifier.invariant
    ∙ ap (λ z. least c.args.breaks.now.found (keys 21 (barred_from bearer z (record { access = false; of_static = false; of_virtual = false }) c.args.modifiers.now))) c.is_open-open_access.ensures
    ∙ ap (λ z. least c.args.breaks.now.found (keys 21 z)) (barred_by_seen bearer c.args.modifiers.now [] c.args.modifiers.now)
