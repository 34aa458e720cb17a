use Rattle.std.proofs.Common.{◌≡◌, ◌++◌, map, drop, flat_map}
use Rattle.chord_tree.specs.View.{see_member}
use Rattle.chord_tree.specs.Walk.{member_headers}
use Rattle.chord_rules.specs.FirstHeaders.{see_lent}
use Rattle.chord_rules.proofs.first_headers.first_headers.Given as goal

abbrev pub invariant-loop-member : goal.invariant-loop-member
invariant-loop-member l = map see_lent l.all.all.items ++ flat_map member_headers (map see_member (drop l.member-index l.members)) ≡ flat_map member_headers (map see_member l.members)
