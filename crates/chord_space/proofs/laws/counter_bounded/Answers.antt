use Rattle.chord_rule.proofs.Laws as laws
use Rattle.chord_space.proofs.laws.counter_bounded.Goals as goal

pub returns-clause-told : goal.returns-clause-told
returns-clause-told g c = λ code limits. laws.counter_bounded g.P.Carry.entries g.P.Carry.arguments (λ q. g.P.Carry.keeps_to q code limits)

pub returns-clause-desks : goal.returns-clause-desks
returns-clause-desks g c = λ code limits. laws.counter_bounded_by_desks g.P.Carry.entries g.P.Carry.arguments (λ q. g.P.Carry.keeps_to q code limits)
