use Rattle.chord_tree.specs.ClassNodes.{node_modifiers}
use Rattle.chord_tree.proofs.Words.{nil, cons, made, seen_as, dropped_or, drop_end}
use Rattle.chord_tree.proofs.spell_classes.put_modifiers.Goals as goal

pub each-init : goal.each-init
each-init c = λ end h. h

pub each-preserved : goal.each-preserved
each-preserved c = λ end h. c.each.invariant end (seen_as (λ z. node_modifiers z) _ _ (dropped_or c.args.modifiers.now _ _ c.each-test.true) (made (cons c.in_ok-put_modifier.ensures (cons h nil))))

pub returns : goal.returns
returns c = c.each.invariant _ (seen_as (λ z. node_modifiers z) _ _ (drop_end c.args.modifiers.now _ c.each-test.false) (made nil))
