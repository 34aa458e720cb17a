use Rattle.std.proofs.Common.{List, sym, subst, map}
use Rattle.std.specs.Prelude.{flat_map}
use Rattle.chord_tree.specs.Tree.{HeaderTree}
use Rattle.chord_tree.specs.View.{see_member}
use Rattle.chord_tree.specs.Walk.{member_headers}
use Rattle.chord_classes.specs.Table.{inherited}
use Rattle.chord_rules.specs.Growing.{IsCounted}
use Rattle.chord_classes.proofs.Search.{item_here, behind_end}
use Rattle.chord_rules.proofs.Counted.{counted_over, counted_none}
use Rattle.chord_rules.proofs.own_methods.with_members.Goals as goal

pub loop-member-preserved : goal.loop-member-preserved
loop-member-preserved c = λ after p more.
    let here = subst (λ (hs : List HeaderTree). IsCounted (inherited c.args.table.now c.args.base) c.args.owner hs c.loop-member.grown c.in_ok-grown.grown c.loop-member.breaks.found c.with_headers.new.breaks.found) c.headers_of.ensures c.in_ok-grown.ensures in
    c.loop-member.invariant after p
    (subst (λ ms. IsCounted (inherited c.args.table.now c.args.base) c.args.owner (flat_map member_headers (map see_member ms)) c.loop-member.grown after c.loop-member.breaks.found p)
    (sym (item_here c.args.members.now c.loop-member.member-index c.member-item.result c.loop-member-test.true c.member-item.is))
    (counted_over here more))

pub returns : goal.returns
returns c = c.loop-member.invariant c.loop-member.grown c.loop-member.breaks.found
    (subst (λ ms. IsCounted (inherited c.args.table.now c.args.base) c.args.owner (flat_map member_headers (map see_member ms)) c.loop-member.grown c.loop-member.grown c.loop-member.breaks.found c.loop-member.breaks.found)
    (sym (behind_end c.args.members.now c.loop-member.member-index c.loop-member-test.false)) counted_none)
