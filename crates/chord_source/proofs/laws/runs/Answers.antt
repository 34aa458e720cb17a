use Rattle.chord_source.proofs.SoundRuns.{sound_runs}
use Rattle.chord_source.proofs.laws.runs.Goals as goal

pub returns : goal.returns
returns c = sound_runs
