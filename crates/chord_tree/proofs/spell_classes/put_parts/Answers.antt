use Rattle.chord_tree.specs.ClassNodes.{node_name_parts}
use Rattle.chord_tree.proofs.Words.{nil, cons, made, leaf, seen_as, dropped, drop_end}
use Rattle.chord_tree.proofs.spell_classes.put_parts.Goals as goal

pub each-init : goal.each-init
each-init c = λ end h. h

pub each-preserved : goal.each-preserved
each-preserved c = λ end h. c.each.invariant end (seen_as (λ z. node_name_parts z) _ _ (dropped c.args.parts.now _ _ c.each-test.true c.part-item.is) (made (cons (leaf c.in_ok-put_mark.ensures) (cons c.in_ok-put_name.ensures (cons h nil)))))

pub returns : goal.returns
returns c = c.each.invariant _ (seen_as (λ z. node_name_parts z) _ _ (drop_end c.args.parts.now _ c.each-test.false) (made nil))
