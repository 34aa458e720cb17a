use Rattle.chord_rules.proofs.Joining.{plan_rules_kept}
use Rattle.chord_rules.proofs.laws.plan_rules.Goals as goal

pub returns : goal.returns
returns c = plan_rules_kept
