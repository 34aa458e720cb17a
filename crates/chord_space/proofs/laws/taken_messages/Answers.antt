use Rattle.chord_rule.proofs.Laws as laws
use Rattle.chord_space.proofs.laws.taken_messages.Goals as goal

pub returns-clause-shows : goal.returns-clause-shows
returns-clause-shows g c = λ code limits. laws.taken_shows g.P.Carry.entries g.P.Carry.arguments (λ q. g.P.Carry.keeps_to q code limits)

pub returns-clause-consumed : goal.returns-clause-consumed
returns-clause-consumed g c = λ code limits. laws.consumed_taken g.P.Carry.entries g.P.Carry.arguments (λ q. g.P.Carry.keeps_to q code limits)

pub returns-clause-claimed : goal.returns-clause-claimed
returns-clause-claimed g c = λ code limits. laws.claimed_taken g.P.Carry.entries g.P.Carry.arguments (λ q. g.P.Carry.keeps_to q code limits)
