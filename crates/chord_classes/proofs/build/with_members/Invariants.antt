use Rattle.std.proofs.Common.{List, map, drop}
use Rattle.std.specs.Prelude.{flat_map}
use Rattle.chord_tree.specs.View.{see_member}
use Rattle.chord_tree.specs.Walk.{member_headers}
use Rattle.chord_classes.specs.Table.{inherited}
use Rattle.chord_classes.specs.declared.method.Method.{Method}
use Rattle.chord_classes.specs.Entries.{IsGrown}
use Rattle.chord_classes.proofs.build.with_members.Given as goal

-- what the members from here on add to the methods, all add to those in the beginning
abbrev pub invariant-loop-member : goal.invariant-loop-member
invariant-loop-member l =
    (after : List Method) → IsGrown (inherited l.table l.base) l.owner (flat_map member_headers (map see_member (drop l.member-index l.members))) l.own.all.items after
    → IsGrown (inherited l.table l.base) l.owner (flat_map member_headers (map see_member l.members)) l.initial.own.all.items after
