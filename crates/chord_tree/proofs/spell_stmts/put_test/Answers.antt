use Rattle.chord_tree.proofs.Words.{nil, cons, made, leaf, as_level, on_ok}
use Rattle.chord_tree.proofs.spell_stmts.put_test.Goals as goal

pub returns : goal.returns
returns c = on_ok _ _ _ (λ h. made (cons (leaf c.in_ok-put_mark.ensures) (cons (as_level 6 _ c.in_ok-put_expr.ensures) (cons (leaf h) nil)))) c.put_mark-2.ensures
