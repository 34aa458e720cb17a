use Rattle.chord_code.proofs.Tame.{code_is_tame, code_asks_within}
use Rattle.chord_code.proofs.Validity.{valid_within}
use Rattle.chord_code.proofs.laws.asks_are_tame.Goals as goal

pub returns-clause-tame : goal.returns-clause-tame
returns-clause-tame c = λ limits. code_is_tame c.args.code.now limits (valid_within c.args.code.now c.parts-parts.ensures.valid)

pub returns-clause-within : goal.returns-clause-within
returns-clause-within c = λ limits s d rs a e. code_asks_within c.args.code.now limits (valid_within c.args.code.now c.parts-parts.ensures.valid) s d rs a e
