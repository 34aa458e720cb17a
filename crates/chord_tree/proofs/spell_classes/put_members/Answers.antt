use Rattle.std.proofs.Common.{map}
use Rattle.chord_tree.specs.ClassNodes.{node_members}
use Rattle.chord_tree.specs.View.{see_member}
use Rattle.chord_tree.proofs.Words.{nil, cons, made, seen_as, dropped, drop_end}
use Rattle.chord_tree.proofs.spell_classes.put_members.Goals as goal

pub each-init : goal.each-init
each-init c = λ end h. h

pub each-preserved : goal.each-preserved
each-preserved c = λ end h. c.each.invariant end (seen_as (λ z. node_members (map see_member z)) _ _ (dropped c.args.members.now _ _ c.each-test.true c.member-item.is) (made (cons c.in_ok-put_member.ensures (cons h nil))))

pub returns : goal.returns
returns c = c.each.invariant _ (seen_as (λ z. node_members (map see_member z)) _ _ (drop_end c.args.members.now _ c.each-test.false) (made nil))
