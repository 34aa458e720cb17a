use Rattle.chord_rule.proofs.Laws as laws
use Rattle.chord_space.proofs.laws.ways_miss_none.Goals as goal

pub returns-clause-ways : goal.returns-clause-ways
returns-clause-ways g c = λ code limits. laws.ways_miss_none g.P.Carry.entries g.P.Carry.arguments (λ q. g.P.Carry.keeps_to q code limits)

pub returns-clause-whole : goal.returns-clause-whole
returns-clause-whole g c = λ code limits. laws.whole_ways_miss_none g.P.Carry.entries g.P.Carry.arguments (λ q. g.P.Carry.keeps_to q code limits)
