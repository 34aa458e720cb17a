use Rattle.chord_parser.proofs.Single.{skipped}
use Rattle.chord_parser.proofs.tokens.skip.Goals as goal

pub returns-clause-ok : goal.returns-clause-ok
returns-clause-ok c = skipped _ _ _ _ _ _ c.in_ok-rest.ensures.ok c.in_ok-rest.ensures.not_tall c.requires.bare c.requires.unnumbered
