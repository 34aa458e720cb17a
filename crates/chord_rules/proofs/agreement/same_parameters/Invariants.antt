use Rattle.std.proofs.Common.{◌≡◌, length}
use Rattle.chord_classes.specs.Table.{formal_types}
use Rattle.chord_classes.specs.OverrideRules.{same_all}
use Rattle.chord_rules.proofs.agreement.same_parameters.Given as goal

abbrev pub invariant-loop-left : goal.invariant-loop-left
invariant-loop-left l = same_all (formal_types l.left) (formal_types l.right) ≡ same_all (formal_types l.initial.left) (formal_types l.initial.right)

abbrev pub decreases-loop-left : goal.decreases-loop-left
decreases-loop-left l = length l.left
