use Rattle.chord_tree.proofs.Words.{nil, cons, made, on_ok}
use Rattle.chord_tree.proofs.spell_classes.put_formal.Goals as goal

pub returns : goal.returns
returns c = on_ok _ _ _ (λ h. made (cons c.in_ok-put_type.ensures (cons h nil))) c.put_name.ensures
