use Rattle.chord_tree.proofs.Words.{nil, cons, leaf, as_level, on_ok}
use Rattle.chord_tree.proofs.WordsStmts.{local_added}
use Rattle.chord_tree.proofs.spell_stmts.put_local.Goals as goal

pub returns : goal.returns
returns c = on_ok _ _ _ (λ h. local_added _ _ _ _ (cons c.in_ok-put_type.ensures (cons c.in_ok-put_name.ensures (cons (leaf c.in_ok-put_mark.ensures) (cons (as_level 6 _ c.in_ok-put_expr.ensures) (cons h nil)))))) c.put_mark-2.ensures
