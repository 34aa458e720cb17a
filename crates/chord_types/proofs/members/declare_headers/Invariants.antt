use Rattle.std.proofs.Common.{drop, map}
use Rattle.std.specs.Prelude.{flat_map}
use Rattle.chord_tree.specs.View.{see_header}
use Rattle.chord_types.specs.MemberChecked.{header_formals}
use Rattle.chord_types.proofs.EnteredMembers.{AreDeclared}
use Rattle.chord_types.proofs.members.declare_headers.Given as goal

abbrev pub invariant-loop-header : goal.invariant-loop-header
invariant-loop-header l = AreDeclared l.initial.site l.site (flat_map header_formals (map see_header l.headers)) (flat_map header_formals (map see_header (drop l.header-index l.headers)))
