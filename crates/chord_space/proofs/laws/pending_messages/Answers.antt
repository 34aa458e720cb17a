use Rattle.chord_rule.proofs.Laws as laws
use Rattle.chord_space.proofs.laws.pending_messages.Goals as goal

pub returns-clause-pending : goal.returns-clause-pending
returns-clause-pending g c = λ code limits. laws.cell_pending g.P.Carry.entries g.P.Carry.arguments (λ q. g.P.Carry.keeps_to q code limits)

pub returns-clause-shows : goal.returns-clause-shows
returns-clause-shows g c = λ code limits. laws.pending_shows g.P.Carry.entries g.P.Carry.arguments (λ q. g.P.Carry.keeps_to q code limits)
