use Rattle.std.proofs.Common.{◌≡◌, drop}
use Rattle.chord_classes.specs.Table.{has_word}
use Rattle.chord_classes.specs.DeclarationRules.{is_open}
use Rattle.chord_rules.proofs.modifiers.is_open.Given as goal

abbrev pub invariant-loop-modifier : goal.invariant-loop-modifier
invariant-loop-modifier l = has_word is_open (drop l.modifier-index l.modifiers) ≡ has_word is_open l.modifiers
