use Rattle.std.proofs.Common.{◌≡◌, drop}
use Rattle.chord_classes.specs.Table.{access_of}
use Rattle.chord_classes.proofs.method.access_of.Given as goal

abbrev pub invariant-loop-modifier : goal.invariant-loop-modifier
invariant-loop-modifier l = access_of (drop l.modifier-index l.modifiers) ≡ access_of l.modifiers
