use Rattle.chord_tree.proofs.Words.{nil, cons, made, on_ok}
use Rattle.chord_tree.proofs.spell_stmts.put_call.Goals as goal

pub returns : goal.returns
returns c = on_ok _ _ _ (λ h. made (cons c.in_ok-put_name.ensures (cons (made (cons c.in_ok-put_actuals.ensures (cons c.in_ok-put_dots.ensures nil))) (cons h nil)))) c.put_mark.ensures
