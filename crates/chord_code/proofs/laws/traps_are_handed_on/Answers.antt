use Rattle.chord_code.proofs.Failing.{trap_fails}
use Rattle.chord_code.proofs.Validity.{valid_forward}
use Rattle.chord_code.proofs.laws.traps_are_handed_on.Goals as goal

pub returns : goal.returns
returns c = trap_fails c.args.code.now (valid_forward c.args.code.now c.parts-parts.ensures.valid)
