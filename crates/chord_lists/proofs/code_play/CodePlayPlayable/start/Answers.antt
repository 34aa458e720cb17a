use Rattle.chord_code.proofs.Validity.{valid_methods}
use Rattle.chord_lists.proofs.code_play.CodePlayPlayable.start.Goals as goal

pub returns-in_err-bodies-clause-chords : goal.returns-in_err-bodies-clause-chords
returns-in_err-bodies-clause-chords c = valid_methods c.args.self.now.code.now c.args.self.now.limits.now c.parts-parts.ensures.valid

pub returns-clause-chords : goal.returns-clause-chords
returns-clause-chords c = valid_methods c.args.self.now.code.now c.args.self.now.limits.now c.parts-parts.ensures.valid
