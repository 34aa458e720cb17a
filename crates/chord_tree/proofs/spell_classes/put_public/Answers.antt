use Rattle.chord_tree.specs.ClassNodes.{node_public}
use Rattle.chord_tree.proofs.Words.{nil, cons, made, leaf, seen_as, on_ok}
use Rattle.chord_tree.proofs.spell_classes.put_public.Goals as goal

pub returns-in-None : goal.returns-in-None
returns-in-None c = seen_as node_public _ _ c.in-None.is (made nil)

pub returns-in-Some : goal.returns-in-Some
returns-in-Some c = on_ok _ _ _ (λ h. seen_as node_public _ _ c.in-Some.is (made (cons (leaf h) nil))) c.put_keyword.ensures
