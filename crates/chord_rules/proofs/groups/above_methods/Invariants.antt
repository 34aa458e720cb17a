use Rattle.std.proofs.Common.{◌≡◌, drop}
use Rattle.chord_rules.specs.Labels.{above_methods}
use Rattle.chord_rules.proofs.groups.above_methods.Given as goal

abbrev pub invariant-loop-method : goal.invariant-loop-method
invariant-loop-method l = above_methods l.bound (drop l.method-index l.methods) ≡ above_methods l.least l.methods
