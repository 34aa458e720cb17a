use Rattle.std.proofs.Common.{◌≡◌, map, drop}
use Rattle.chord_tree.specs.View.{see_member}
use Rattle.chord_classes.specs.Table.{first_builder}
use Rattle.chord_classes.proofs.build.first_builder.Given as goal

abbrev pub invariant-loop-member : goal.invariant-loop-member
invariant-loop-member l = first_builder (map see_member (drop l.member-index l.members)) ≡ first_builder (map see_member l.members)
