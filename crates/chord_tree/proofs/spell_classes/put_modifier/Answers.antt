use Rattle.std.proofs.Common.{sym}
use Rattle.chord_lexer.specs.declared.token.Keyword.{Keyword}
use Rattle.chord_tree.specs.ExprNodes.{keyword_leaf}
use Rattle.chord_tree.proofs.Words.{nil, cons, made, leaf, seen_as, on_ok}
use Rattle.chord_tree.proofs.spell_classes.put_modifier.Goals as goal

pub returns : goal.returns
returns c = on_ok _ _ _ (λ h. made (cons (leaf (seen_as (λ (z : Keyword). keyword_leaf z 0) _ _ (sym c.modifier_keyword.ensures) h)) nil)) c.put_keyword.ensures
