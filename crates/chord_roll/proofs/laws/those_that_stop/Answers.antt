use Rattle.std.proofs.Common.{⊎_elim, arith}
use Rattle.chord_roll.proofs.laws.those_that_stop.Goals as goal

pub returns-clause-told : goal.returns-clause-told
returns-clause-told g = λ s r id t at stops nobody. let is = r.told id t at stops in absurd (omega arith)

pub returns-clause-one : goal.returns-clause-one
returns-clause-one g = λ s r some. ⊎_elim (λ nobody. absurd (some nobody)) (λ one. one.1) r.since
