use Rattle.chord_tree.proofs.Words.{nil, cons, made, leaf, as_level, on_ok}
use Rattle.chord_tree.proofs.spell_stmts.put_return_value.Goals as goal

pub returns : goal.returns
returns c = on_ok _ _ _ (λ h. made (cons (made (cons (leaf c.in_ok-put_keyword.ensures) (cons (made (cons (as_level 6 _ c.in_ok-put_expr.ensures) nil)) (cons h nil)))) nil)) c.put_mark.ensures
