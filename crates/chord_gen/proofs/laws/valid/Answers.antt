use Rattle.chord_gen.proofs.Valid.{translation_valid}
use Rattle.chord_gen.proofs.laws.valid.Goals as goal

pub returns : goal.returns
returns c = translation_valid
