use Rattle.std.proofs.Common.{◌≡◌, ◌++◌, map, drop}
use Rattle.chord_tree.specs.View.{see_header}
use Rattle.chord_rules.specs.FirstHeaders.{see_lent}
use Rattle.chord_rules.proofs.first_headers.with_member.Given as goal

abbrev pub invariant-loop-header : goal.invariant-loop-header
invariant-loop-header l = map see_lent l.all.all.items ++ map see_header (drop l.header-index l.header-items) ≡ map see_lent l.initial.all.all.items ++ map see_header l.header-items
