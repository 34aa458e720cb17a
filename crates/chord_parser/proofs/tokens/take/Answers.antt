use Rattle.chord_parser.proofs.Single.{taken}
use Rattle.chord_parser.proofs.tokens.take.Goals as goal

pub returns-clause-ok : goal.returns-clause-ok
returns-clause-ok c = taken _ _ _ _ _ _ _ c.in_ok-rest.ensures.ok c.in_ok-rest.ensures.not_tall c.requires.bare c.requires.marked c.token_number.ensures
