use Rattle.std.proofs.Common.{◌≡◌, ◌++◌, map, drop}
use Rattle.chord_classes.specs.Table.{inherited}
use Rattle.chord_classes.specs.Plan.{overridden}
use Rattle.chord_rules.specs.FirstHeaders.{see_lent}
use Rattle.chord_rules.proofs.splits.overridden.Given as goal

abbrev pub invariant-loop-header : goal.invariant-loop-header
invariant-loop-header l = l.found.items ++ overridden (inherited l.table l.base) (map see_lent (drop l.header-index l.header-items)) ≡ overridden (inherited l.table l.base) (map see_lent l.header-items)
