use Rattle.chord_rule.proofs.Laws as laws
use Rattle.chord_space.proofs.laws.ways_meet_linked.Goals as goal

pub returns : goal.returns
returns g c = λ code limits. laws.ways_meet_linked g.P.Carry.entries g.P.Carry.arguments (λ q. g.P.Carry.keeps_to q code limits)
