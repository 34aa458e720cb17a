use Rattle.std.proofs.Common.{◌+◌, map, drop, subst}
use Rattle.std.specs.Prelude.{flat_map}
use Rattle.chord_tree.specs.View.{see_header}
use Rattle.chord_tree.proofs.Words.{dropped}
use Rattle.chord_types.specs.MemberChecked.{DeclaresAll, header_formals}
use Rattle.chord_types.proofs.EnteredMembers.{AreDeclared, more_declared}
use Rattle.chord_types.proofs.members.declare_headers.Goals as goal

pub loop-header-preserved : goal.loop-header-preserved
loop-header-preserved c =
    let hs = c.args.headers.now in
    let i = c.loop-header.header-index in
    more_declared c.args.site.now c.loop-header.site c.declare_all.new.site (flat_map header_formals (map see_header c.args.headers.now)) c.header-item.result.formals.parameters.items (flat_map header_formals (map see_header (drop (i + 1) hs)))
    (subst (λ z. AreDeclared c.args.site.now c.loop-header.site (flat_map header_formals (map see_header c.args.headers.now)) (flat_map header_formals (map see_header z))) (dropped hs i c.header-item.result c.loop-header-test.true c.header-item.is) c.loop-header.invariant)
    (subst (λ z. DeclaresAll c.loop-header.site c.declare_all.new.site z) c.deref.ensures.value c.in_ok-declare_all.ensures)
