use Rattle.std.proofs.Common.{map}
use Rattle.chord_tree.specs.ClassNodes.{node_classes}
use Rattle.chord_tree.specs.View.{see_class}
use Rattle.chord_tree.proofs.Words.{nil, cons, made, seen_as, dropped, drop_end}
use Rattle.chord_tree.proofs.spell_classes.put_classes.Goals as goal

pub each-init : goal.each-init
each-init c = λ end h. h

pub each-preserved : goal.each-preserved
each-preserved c = λ end h. c.each.invariant end (seen_as (λ z. node_classes (map see_class z)) _ _ (dropped c.args.classes.now _ _ c.each-test.true c.class-item.is) (made (cons c.in_ok-put_class.ensures (cons h nil))))

pub returns : goal.returns
returns c = c.each.invariant _ (seen_as (λ z. node_classes (map see_class z)) _ _ (drop_end c.args.classes.now _ c.each-test.false) (made nil))
