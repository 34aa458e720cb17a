use Rattle.std.proofs.Common.{[]}
use Rattle.chord_tree.specs.ClassNodes.{node_more_formals, node_formal_list}
use Rattle.chord_tree.proofs.Words.{nil, cons, made, seen_as, dropped, drop_end, length_zero}
use Rattle.chord_tree.proofs.spell_classes.put_formal_list.Goals as goal

pub each-init : goal.each-init
each-init c = λ end h. h

pub each-preserved : goal.each-preserved
each-preserved c = λ end h. c.each.invariant end (seen_as (λ z. node_more_formals z) _ _ (dropped c.in-Some.more.now _ _ c.each-test.true c.formal-item.is) (made (cons c.in_ok-put_mark.ensures (cons c.in_ok-put_formal-2.ensures (cons h nil)))))

pub returns : goal.returns
returns c = seen_as (λ z. node_formal_list z) _ _ c.in-Some.ensures.cases.0 (made (cons c.in_ok-put_formal.ensures (cons (c.each.invariant _ (seen_as (λ z. node_more_formals z) _ _ (drop_end c.in-Some.more.now _ c.each-test.false) (made nil))) nil)))

pub returns-in_default : goal.returns-in_default
returns-in_default c = seen_as (λ z. node_formal_list z) _ [] (length_zero _ c.in_default.ensures.cases) (made nil)
