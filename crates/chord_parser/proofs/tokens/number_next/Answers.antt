use Rattle.std.proofs.Common.{refl}
use Rattle.chord_parser.proofs.Single.{read_as}
use Rattle.chord_parser.proofs.tokens.number_next.Goals as goal

pub returns-clause-ok : goal.returns-clause-ok
returns-clause-ok c = read_as _ _ _ _ _ _ _ _ c.in_ok-first.ensures.ok c.in_ok-first.ensures.not_tall c.in-Number.is c.token_number-at.ensures refl
