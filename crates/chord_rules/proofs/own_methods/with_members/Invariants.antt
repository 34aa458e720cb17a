use Rattle.std.proofs.Common.{ℕ, map, drop, Option, flat_map}
use Rattle.chord_tree.specs.View.{see_member}
use Rattle.chord_tree.specs.Walk.{member_headers}
use Rattle.chord_classes.specs.Table.{inherited}
use Rattle.chord_rules.specs.declared.own_methods.Grown.{Grown}
use Rattle.chord_rules.specs.Growing.{IsCounted}
use Rattle.chord_rules.proofs.own_methods.with_members.Given as goal

-- what the members from here on add to the methods, all add to those in the beginning
abbrev pub invariant-loop-member : goal.invariant-loop-member
invariant-loop-member l =
    (after : Grown) (p : Option ℕ) → IsCounted (inherited l.table l.base) l.owner (flat_map member_headers (map see_member (drop l.member-index l.members))) l.grown after l.breaks.found p
    → IsCounted (inherited l.table l.base) l.owner (flat_map member_headers (map see_member l.members)) l.initial.grown after l.initial.breaks.found p
