use Rattle.chord_tree.specs.ClassNodes.{node_type}
use Rattle.chord_tree.proofs.Words.{nil, cons, made, leaf, seen_as, on_ok}
use Rattle.chord_tree.proofs.spell_stmts.put_type.Goals as goal

pub returns-in-Basic : goal.returns-in-Basic
returns-in-Basic c = on_ok _ _ _ (λ h. seen_as node_type _ _ c.in-Basic.is (made (cons (leaf h) nil))) c.put_basic.ensures

pub returns-in-Class : goal.returns-in-Class
returns-in-Class c = on_ok _ _ _ (λ h. seen_as node_type _ _ c.in-Class.is (made (cons h nil))) c.put_name.ensures
