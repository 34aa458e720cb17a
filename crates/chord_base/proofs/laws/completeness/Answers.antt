use Rattle.chord_base.proofs.Final.{complete_when_quiet, quiet_when_complete}
use Rattle.chord_base.proofs.Merged.{complete_in_places}
use Rattle.chord_base.proofs.laws.completeness.Goals as goal

pub returns : goal.returns
returns c = record { quiet = complete_when_quiet; only = quiet_when_complete; places = complete_in_places }
