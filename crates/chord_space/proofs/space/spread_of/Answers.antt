use Rattle.std.proofs.Common.{refl}
use Rattle.chord_rule.specs.Layout.{spread}
use Rattle.chord_rule.proofs.Spreading.{spread_inside}
use Rattle.chord_space.proofs.space.spread_of.Goals as goal

pub returns-clause-word : goal.returns-clause-word
unfolding spread
returns-clause-word c = refl

pub returns-clause-inside : goal.returns-clause-inside
unfolding spread
returns-clause-inside c = λ events low. spread_inside events c.args.number low
