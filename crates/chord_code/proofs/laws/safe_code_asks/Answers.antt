use Rattle.chord_code.proofs.Asks.{tested_comes}
use Rattle.chord_code.proofs.Validity.{valid_forward}
use Rattle.chord_code.proofs.laws.safe_code_asks.Goals as goal

pub returns : goal.returns
returns c = tested_comes c.args.code.now (valid_forward c.args.code.now c.parts-parts.ensures.valid)
