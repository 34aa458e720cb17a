use Rattle.std.proofs.Common.{ap}
use Rattle.chord_rule.specs.declared.view.View.{View}
use Rattle.chord_pool.proofs.crew.take_one.Goals as goal

pub returns-clause-drew : goal.returns-clause-drew
returns-clause-drew c = ap (λ (v : View). v.draws) c.take_in.ensures.united
