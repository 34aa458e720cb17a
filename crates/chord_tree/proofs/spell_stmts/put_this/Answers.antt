use Rattle.chord_tree.proofs.Words.{nil, cons, made, leaf, on_ok}
use Rattle.chord_tree.proofs.spell_stmts.put_this.Goals as goal

pub returns : goal.returns
returns c = on_ok _ _ _ (λ h. made (cons (made (cons (leaf c.in_ok-put_keyword.ensures) (cons c.in_ok-put_dot.ensures (cons c.in_ok-put_dots.ensures (cons h nil))))) nil)) c.put_mark.ensures
