use Rattle.chord_rule.proofs.Laws as laws
use Rattle.chord_space.proofs.laws.claimed_messages.Goals as goal

pub returns-clause-claimed : goal.returns-clause-claimed
returns-clause-claimed g c = λ code limits. laws.desk_claimed g.P.Carry.entries g.P.Carry.arguments (λ q. g.P.Carry.keeps_to q code limits)

pub returns-clause-shows : goal.returns-clause-shows
returns-clause-shows g c = λ code limits. laws.claimed_shows g.P.Carry.entries g.P.Carry.arguments (λ q. g.P.Carry.keeps_to q code limits)

pub returns-clause-elsewhere : goal.returns-clause-elsewhere
returns-clause-elsewhere g c = λ code limits. laws.claimed_elsewhere g.P.Carry.entries g.P.Carry.arguments (λ q. g.P.Carry.keeps_to q code limits)
