use Rattle.chord_code.proofs.Asks.{comes_found, found_comes, asks_are_one, comes_to_an_end}
use Rattle.chord_code.proofs.Validity.{valid_forward}
use Rattle.chord_code.proofs.laws.asks_are_found.Goals as goal

pub returns-clause-found : goal.returns-clause-found
returns-clause-found c = comes_found c.args.code.now (valid_forward c.args.code.now c.parts-parts.ensures.valid)

pub returns-clause-only : goal.returns-clause-only
returns-clause-only c = found_comes c.args.code.now

pub returns-clause-one : goal.returns-clause-one
returns-clause-one c = asks_are_one c.args.code.now (valid_forward c.args.code.now c.parts-parts.ensures.valid)

pub returns-clause-ends : goal.returns-clause-ends
returns-clause-ends c = comes_to_an_end c.args.code.now (valid_forward c.args.code.now c.parts-parts.ensures.valid)
