use Rattle.chord_tree.specs.ClassNodes.{node_base}
use Rattle.chord_tree.proofs.Words.{nil, cons, made, seen_as, on_ok}
use Rattle.chord_tree.proofs.spell_classes.put_base.Goals as goal

pub returns-in-None : goal.returns-in-None
returns-in-None c = seen_as node_base _ _ c.in-None.is (made nil)

pub returns-in_ok-put_mark-in-Some : goal.returns-in_ok-put_mark-in-Some
returns-in_ok-put_mark-in-Some c = on_ok _ _ _ (λ h. seen_as node_base _ _ c.in-Some.is (made (cons c.in_ok-put_mark-in-Some.ensures (cons h nil)))) c.put_name.ensures
