use Rattle.chord_rules.proofs.Joining.{passes_join}
use Rattle.chord_rules.proofs.laws.passes.Goals as goal

pub returns : goal.returns
returns c = passes_join
