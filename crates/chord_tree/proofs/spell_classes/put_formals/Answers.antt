use Rattle.std.proofs.Common.{sym}
use Rattle.chord_tree.specs.ClassNodes.{node_formal_list}
use Rattle.chord_tree.proofs.Words.{nil, cons, made, leaf, seen_as, on_ok}
use Rattle.chord_tree.proofs.spell_classes.put_formals.Goals as goal

pub returns : goal.returns
returns c = on_ok _ _ _ (λ h. made (cons (leaf c.in_ok-put_mark.ensures) (cons (seen_as node_formal_list _ _ (sym c.deref.ensures.value) c.in_ok-put_formal_list.ensures) (cons (leaf h) nil)))) c.put_mark-2.ensures
