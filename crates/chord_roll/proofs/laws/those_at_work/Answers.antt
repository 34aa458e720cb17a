use Rattle.std.proofs.Common.{sym, ◌∙◌, subst, ℕ, ◌<◌}
use Rattle.chord_roll.proofs.Counting.{none_counts, one_counts}
use Rattle.chord_roll.proofs.laws.those_at_work.Goals as goal

pub returns-clause-nobody : goal.returns-clause-nobody
returns-clause-nobody g = λ s r zero id t at. none_counts s.views (sym r.count ∙ zero) id t at

pub returns-clause-one : goal.returns-clause-one
returns-clause-one g = λ s r more. one_counts s.views (subst (λ (n : ℕ). 0 < n) r.count more)
