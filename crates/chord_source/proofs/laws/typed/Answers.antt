use Rattle.chord_source.proofs.SourceRuns.{runs_keep_types}
use Rattle.chord_source.proofs.laws.typed.Goals as goal

pub returns : goal.returns
returns c = runs_keep_types
