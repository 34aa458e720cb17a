use Rattle.std.proofs.Common.{◌≡◌, [], map, drop, slice_index}
use Rattle.chord_classes.specs.Table.{inherited}
use Rattle.chord_classes.specs.Least.{least, keys}
use Rattle.chord_rules.specs.FirstHeaders.{see_lent}
use Rattle.chord_rules.specs.SplitHeaders.{splits_from}
use Rattle.chord_rules.proofs.splits.labelled_splits.Given as goal

abbrev pub invariant-loop-header : goal.invariant-loop-header
invariant-loop-header l = least l.breaks.found (keys 11 (splits_from (slice_index l.labels) l.taken (inherited l.table l.base) l.seen.items (map see_lent (drop l.header-index l.header-items)))) ≡ least l.initial.breaks.found (keys 11 (splits_from (slice_index l.labels) l.taken (inherited l.table l.base) [] (map see_lent l.header-items)))
