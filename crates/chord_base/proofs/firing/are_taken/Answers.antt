use Rattle.chord_base.proofs.Taken.{takes_lengths}
use Rattle.chord_base.proofs.firing.are_taken.Goals as goal

pub returns-then-methods-members : goal.returns-then-methods-members
returns-then-methods-members c = (λ t. cc, λ t. absurd (c.if-methods-members.true (takes_lengths _ _ _ _ _ t)))
