use Rattle.chord_rule.proofs.Laws as laws
use Rattle.chord_space.proofs.laws.one_is_minded.Goals as goal

pub returns : goal.returns
returns g c = λ code limits. laws.one_is_minded g.P.Carry.entries g.P.Carry.arguments (λ q. g.P.Carry.keeps_to q code limits)
