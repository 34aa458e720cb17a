use Rattle.std.proofs.Common.{◌≡◌, map, drop, flat_map}
use Rattle.chord_classes.specs.Table.{inherited}
use Rattle.chord_classes.specs.Least.{least}
use Rattle.chord_rules.specs.FirstHeaders.{see_lent}
use Rattle.chord_rules.specs.ClassKeys.{header_keys}
use Rattle.chord_rules.proofs.overrides.headers_break.Given as goal

abbrev pub invariant-loop-header : goal.invariant-loop-header
invariant-loop-header l = least l.breaks.found (flat_map (header_keys (map see_lent l.firsts.all.items) (inherited l.table l.base)) (map see_lent (drop l.header-index l.header-items))) ≡ least l.initial.breaks.found (flat_map (header_keys (map see_lent l.firsts.all.items) (inherited l.table l.base)) (map see_lent l.header-items))
