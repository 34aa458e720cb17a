use Rattle.std.proofs.Common.{sym}
use Rattle.chord_tree.specs.ClassNodes.{node_name_parts}
use Rattle.chord_tree.proofs.Words.{nil, cons, made, seen_as, on_ok}
use Rattle.chord_tree.proofs.spell_classes.put_using.Goals as goal

pub returns : goal.returns
returns c = on_ok _ _ _ (λ h. made (cons c.in_ok-put_keyword.ensures (cons c.in_ok-put_name.ensures (cons (seen_as node_name_parts _ _ (sym c.deref.ensures.value) c.in_ok-put_parts.ensures) (cons h nil))))) c.put_mark.ensures
