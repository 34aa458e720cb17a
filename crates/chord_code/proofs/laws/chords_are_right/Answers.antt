use Rattle.chord_code.proofs.Validity.{valid_chords_right}
use Rattle.chord_code.proofs.laws.chords_are_right.Goals as goal

pub returns : goal.returns
returns c = λ limits. valid_chords_right c.args.code.now limits c.parts-parts.ensures.valid
