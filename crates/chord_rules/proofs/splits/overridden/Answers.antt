use Rattle.std.proofs.Common.{◌+◌, ◌++◌, map, drop, ap, ◌∙◌}
use Rattle.chord_classes.specs.Table.{inherited}
use Rattle.chord_classes.specs.Plan.{overridden}
use Rattle.chord_classes.proofs.Search.{item_by_item}
use Rattle.chord_rules.specs.FirstHeaders.{see_lent}
use Rattle.chord_rules.proofs.HeaderSplits.{one_overridden, none_overridden}
use Rattle.chord_rules.proofs.splits.overridden.Goals.{in-Some+in_ok-push, in_default}
use Rattle.chord_rules.proofs.splits.overridden.Goals as goal

pub loop-header-preserved : goal.loop-header-preserved
loop-header-preserved c =
    let methods = inherited c.args.table.now c.args.base in
    let rest = map see_lent (drop (c.loop-header.header-index + 1) c.as_slice-header-items.result.now) in
    item_by_item (λ hs. c.loop-header.found.items ++ overridden methods (map see_lent hs)) c.as_slice-header-items.result.now c.loop-header.header-index c.header-item.result _ _ c.loop-header-test.true c.header-item.is
    (elim c.match-overridden_number.branch [
      | in-Some+in_ok-push w ↦ one_overridden methods (see_lent c.header-item.result) rest c.loop-header.found.items _ _ _ c.overridden_number.ensures w.in-Some.is (ap (λ z. z.items) w.found-is ∙ w.in_ok-push.ensures.items)
      | in_default w ↦ none_overridden methods (see_lent c.header-item.result) rest c.loop-header.found.items _ _ c.overridden_number.ensures w.in_default.is (ap (λ z. z.items) w.found-is)
    ]) c.loop-header.invariant
