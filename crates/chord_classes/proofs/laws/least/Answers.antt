use Rattle.chord_classes.proofs.LeastBreak.{least_is_break}
use Rattle.chord_classes.proofs.laws.least.Goals as goal

pub returns : goal.returns
returns c = least_is_break
