use Rattle.std.proofs.Common.{[], map}
use Rattle.chord_tree.specs.ClassNodes.{node_headers}
use Rattle.chord_tree.specs.Program.{node_header_list}
use Rattle.chord_tree.specs.View.{see_header}
use Rattle.chord_tree.proofs.Words.{nil, cons, made, seen_as, dropped, drop_end, length_zero}
use Rattle.chord_tree.proofs.spell_classes.put_headers.Goals as goal

pub each-init : goal.each-init
each-init c = λ end h. h

pub each-preserved : goal.each-preserved
each-preserved c = λ end h. c.each.invariant end (seen_as (λ z. node_headers (map see_header z)) _ _ (dropped c.in-Some.more.now _ _ c.each-test.true c.header-item.is) (made (cons c.in_ok-put_mark.ensures (cons c.in_ok-put_header-2.ensures (cons h nil)))))

pub returns : goal.returns
returns c = seen_as (λ z. node_header_list (map see_header z)) _ _ c.in-Some.ensures.cases.0 (made (cons c.in_ok-put_header.ensures (cons (c.each.invariant _ (seen_as (λ z. node_headers (map see_header z)) _ _ (drop_end c.in-Some.more.now _ c.each-test.false) (made nil))) nil)))

pub returns-in_default : goal.returns-in_default
returns-in_default c = seen_as (λ z. node_header_list (map see_header z)) _ [] (length_zero _ c.in_default.ensures.cases) (made nil)
