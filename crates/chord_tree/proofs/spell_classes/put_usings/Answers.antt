use Rattle.std.proofs.Common.{map}
use Rattle.chord_tree.specs.ClassNodes.{node_usings}
use Rattle.chord_tree.specs.View.{see_using}
use Rattle.chord_tree.proofs.Words.{nil, cons, made, seen_as, dropped, drop_end}
use Rattle.chord_tree.proofs.spell_classes.put_usings.Goals as goal

pub each-init : goal.each-init
each-init c = λ end h. h

pub each-preserved : goal.each-preserved
each-preserved c = λ end h. c.each.invariant end (seen_as (λ z. node_usings (map see_using z)) _ _ (dropped c.args.usings.now _ _ c.each-test.true c.line-item.is) (made (cons c.in_ok-put_using.ensures (cons h nil))))

pub returns : goal.returns
returns c = c.each.invariant _ (seen_as (λ z. node_usings (map see_using z)) _ _ (drop_end c.args.usings.now _ c.each-test.false) (made nil))
