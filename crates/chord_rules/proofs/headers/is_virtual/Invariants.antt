use Rattle.std.proofs.Common.{◌≡◌, drop}
use Rattle.chord_classes.specs.Table.{has_word}
use Rattle.chord_classes.specs.OverrideRules.{virtual_word}
use Rattle.chord_rules.proofs.headers.is_virtual.Given as goal

abbrev pub invariant-loop-modifier : goal.invariant-loop-modifier
invariant-loop-modifier l = has_word virtual_word (drop l.modifier-index l.modifier-items) ≡ has_word virtual_word l.modifier-items
