use Rattle.chord_base.proofs.SameRuns.{same_runs}
use Rattle.chord_base.proofs.agreement.same_runs.Goals as goal

pub returns : goal.returns
returns c = same_runs
