use Rattle.chord_rules.proofs.GroupSplits.{splits_listed}
use Rattle.chord_rules.proofs.laws.splits.Goals as goal

pub returns : goal.returns
returns c = splits_listed
