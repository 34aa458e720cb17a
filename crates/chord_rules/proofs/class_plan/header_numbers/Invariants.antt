use Rattle.std.proofs.Common.{◌≡◌, ◌++◌, map, drop}
use Rattle.chord_tree.specs.View.{see_header}
use Rattle.chord_classes.specs.Plan.{header_numbers}
use Rattle.chord_classes.specs.Table.{methods_at}
use Rattle.chord_rules.proofs.class_plan.header_numbers.Given as goal

abbrev pub invariant-loop-header : goal.invariant-loop-header
invariant-loop-header l = l.numbers.items ++ header_numbers (methods_at l.table l.class) (map see_header (drop l.header-index l.headers)) ≡ header_numbers (methods_at l.table l.class) (map see_header l.headers)
