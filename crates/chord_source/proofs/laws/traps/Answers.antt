use Rattle.chord_source.proofs.Traps.{runs_keep_traps, sources_hand_traps_on}
use Rattle.chord_source.proofs.laws.traps.Goals as goal

pub returns-clause-sources : goal.returns-clause-sources
returns-clause-sources c = sources_hand_traps_on

pub returns-clause-runs : goal.returns-clause-runs
returns-clause-runs c = runs_keep_traps
