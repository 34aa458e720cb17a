use Rattle.std.proofs.Common.{List, sym, subst, map}
use Rattle.std.specs.Prelude.{flat_map}
use Rattle.chord_tree.specs.Tree.{HeaderTree}
use Rattle.chord_tree.specs.View.{see_member}
use Rattle.chord_tree.specs.Walk.{member_headers}
use Rattle.chord_classes.specs.Table.{inherited}
use Rattle.chord_classes.specs.Entries.{IsGrown}
use Rattle.chord_classes.proofs.Search.{item_here}
use Rattle.chord_classes.proofs.GrownMethods.{grown_over}
use Rattle.chord_classes.proofs.build.with_members.Goals as goal

pub loop-member-preserved : goal.loop-member-preserved
loop-member-preserved c = λ after more.
    let here = subst (λ (hs : List HeaderTree). IsGrown (inherited c.args.table.now c.args.base) c.args.owner hs c.loop-member.own.all.items c.in_ok-own.own.all.items) c.headers_of.ensures c.in_ok-own.ensures in
    c.loop-member.invariant after
    (subst (λ ms. IsGrown (inherited c.args.table.now c.args.base) c.args.owner (flat_map member_headers (map see_member ms)) c.loop-member.own.all.items after)
    (sym (item_here c.args.members.now c.loop-member.member-index c.member-item.result c.loop-member-test.true c.member-item.is))
    (grown_over here more))
