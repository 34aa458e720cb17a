use Rattle.chord_tree.proofs.Words.{nil, cons, made, on_ok}
use Rattle.chord_tree.proofs.spell_classes.put_constructor.Goals as goal

pub returns : goal.returns
returns c = on_ok _ _ _ (λ h. made (cons c.in_ok-put_modifiers.ensures (cons (made (cons c.in_ok-put_name.ensures (cons (made (cons c.in_ok-put_formals.ensures (cons h nil))) nil))) nil))) c.put_block.ensures
