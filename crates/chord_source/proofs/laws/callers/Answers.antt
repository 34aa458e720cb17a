use Rattle.chord_source.proofs.Callers.{runs_serve_callers}
use Rattle.chord_source.proofs.laws.callers.Goals as goal

pub returns : goal.returns
returns c = runs_serve_callers
