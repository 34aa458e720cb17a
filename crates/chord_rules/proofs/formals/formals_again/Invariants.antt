use Rattle.std.proofs.Common.{◌≡◌, ◌++◌, drop}
use Rattle.std.specs.Prelude.{reverse}
use Rattle.chord_classes.specs.DeclarationRules.{repeated_formals}
use Rattle.chord_classes.specs.Least.{least, keys}
use Rattle.chord_rules.specs.FormalNames.{formal_names}
use Rattle.chord_rules.proofs.formals.formals_again.Given as goal

abbrev pub invariant-loop-formal : goal.invariant-loop-formal
invariant-loop-formal l = record {
  names : l.names ++ formal_names (drop l.formal-index l.formals) ≡ l.initial.names ++ formal_names l.formals;
  all : least l.breaks.found (keys 8 (repeated_formals (reverse l.names) (drop l.formal-index l.formals))) ≡ least l.initial.breaks.found (keys 8 (repeated_formals (reverse l.initial.names) l.formals));
}
