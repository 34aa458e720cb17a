use Rattle.std.proofs.Common.{◌≡◌, drop}
use Rattle.chord_classes.specs.Table.{has_word, is_virtual_word}
use Rattle.chord_rules.proofs.headers.may_be_overridden.Given as goal

abbrev pub invariant-loop-modifier : goal.invariant-loop-modifier
invariant-loop-modifier l = has_word is_virtual_word (drop l.modifier-index l.modifier-items) ≡ has_word is_virtual_word l.modifier-items
