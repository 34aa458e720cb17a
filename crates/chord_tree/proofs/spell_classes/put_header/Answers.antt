use Rattle.std.proofs.Common.{sym}
use Rattle.chord_tree.specs.ClassNodes.{node_modifiers}
use Rattle.chord_tree.proofs.Words.{nil, cons, made, seen_as, on_ok}
use Rattle.chord_tree.proofs.spell_classes.put_header.Goals as goal

pub returns : goal.returns
returns c = on_ok _ _ _ (λ h. made (cons (seen_as node_modifiers _ _ (sym c.deref.ensures.value) c.in_ok-put_modifiers.ensures) (cons c.in_ok-put_result.ensures (cons c.in_ok-put_name.ensures (cons h nil))))) c.put_formals.ensures
