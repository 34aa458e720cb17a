use Rattle.std.proofs.Common.{◌≡◌, drop}
use Rattle.chord_classes.specs.ItemRules.{undeclared_formals}
use Rattle.chord_classes.specs.Least.{keys, least}
use Rattle.chord_types.proofs.members.note_formals.Given as goal

abbrev pub invariant-loop-formal : goal.invariant-loop-formal
invariant-loop-formal l = least l.breaks.found (keys 2 (undeclared_formals l.table (drop l.formal-index l.formals))) ≡ least l.initial.breaks.found (keys 2 (undeclared_formals l.table l.formals))
