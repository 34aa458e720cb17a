use Rattle.chord_source.proofs.SourceRuns.{runs_play_well}
use Rattle.chord_source.proofs.laws.bodies.Goals as goal

pub returns : goal.returns
returns c = runs_play_well
