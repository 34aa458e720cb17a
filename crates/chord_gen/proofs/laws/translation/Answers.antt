use Rattle.chord_gen.proofs.Keeps.{translation_keeps}
use Rattle.chord_gen.proofs.laws.translation.Goals as goal

pub returns : goal.returns
returns c = translation_keeps
