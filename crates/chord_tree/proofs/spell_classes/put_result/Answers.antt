use Rattle.chord_tree.specs.ClassNodes.{node_result}
use Rattle.chord_tree.proofs.Words.{nil, cons, made, leaf, seen_as, on_ok}
use Rattle.chord_tree.proofs.WordsClasses.{result_added}
use Rattle.chord_tree.proofs.spell_classes.put_result.Goals as goal

pub returns-in-Async : goal.returns-in-Async
returns-in-Async c = on_ok _ _ _ (λ h. seen_as node_result _ _ c.in-Async.is (made (cons (made (cons (leaf h) nil)) nil))) c.put_keyword.ensures

pub returns-in-Void : goal.returns-in-Void
returns-in-Void c = on_ok _ _ _ (λ h. seen_as node_result _ _ c.in-Void.is (made (cons (made (cons (leaf h) nil)) nil))) c.put_keyword-in-Void.ensures

pub returns-in-Value : goal.returns-in-Value
returns-in-Value c = on_ok _ _ _ (λ h. seen_as node_result _ _ c.in-Value.is (result_added c.in-Value.value_type h)) c.put_type.ensures
