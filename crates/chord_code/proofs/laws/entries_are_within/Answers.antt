use Rattle.chord_base.proofs.Objects.{objects_were_made}
use Rattle.chord_code.specs.Meaning.{code_program}
use Rattle.chord_code.proofs.Tame.{code_is_tame}
use Rattle.chord_code.proofs.Validity.{valid_within, valid_methods}
use Rattle.chord_code.proofs.Bounded.{run_within}
use Rattle.chord_code.proofs.laws.entries_are_within.Goals as goal

pub returns-clause-within : goal.returns-clause-within
returns-clause-within c = run_within c.args.code.now c.parts-parts.ensures.valid

pub returns-clause-made : goal.returns-clause-made
returns-clause-made c = λ limits e h r.
    objects_were_made (code_program c.args.code.now limits) e h (code_is_tame c.args.code.now limits (valid_within c.args.code.now c.parts-parts.ensures.valid)) (valid_methods c.args.code.now limits c.parts-parts.ensures.valid) r
