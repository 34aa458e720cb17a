use Rattle.std.proofs.Common.{◌≡◌, drop}
use Rattle.chord_classes.specs.Plan.{spared}
use Rattle.chord_rules.proofs.class_plan.spared.Given as goal

abbrev pub invariant-loop-method : goal.invariant-loop-method
invariant-loop-method l = spared l.others (drop l.method-index l.methods) ≡ spared l.others l.methods
