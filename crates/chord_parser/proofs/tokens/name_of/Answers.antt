use Rattle.std.proofs.Common.{refl, sym, ap, ◌∙◌}
use Rattle.chord_lexer.specs.declared.token.Kind.TheVariants as kinds
use Rattle.chord_parser.proofs.Single.{read_as}
use Rattle.chord_parser.proofs.tokens.name_of.Goals as goal

pub returns-clause-ok : goal.returns-clause-ok
returns-clause-ok c = read_as _ _ _ _ _ _ _ _ c.in_ok-first.ensures.ok c.in_ok-first.ensures.not_tall (c.in-Name.is ∙ ap kinds.Name (sym c.in_ok-text-in-Name.ensures.equal)) c.token_number-at.ensures refl
