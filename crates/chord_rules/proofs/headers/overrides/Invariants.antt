use Rattle.std.proofs.Common.{◌≡◌, drop}
use Rattle.chord_classes.specs.Table.{has_word}
use Rattle.chord_classes.specs.OverrideRules.{override_word}
use Rattle.chord_rules.proofs.headers.overrides.Given as goal

abbrev pub invariant-loop-modifier : goal.invariant-loop-modifier
invariant-loop-modifier l = has_word override_word (drop l.modifier-index l.modifier-items) ≡ has_word override_word l.modifier-items
