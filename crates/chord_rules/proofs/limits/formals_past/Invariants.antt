use Rattle.std.proofs.Common.{◌≡◌, drop}
use Rattle.chord_classes.specs.ChordRules.{formal_tokens}
use Rattle.chord_classes.specs.Least.{least, keys}
use Rattle.chord_rules.proofs.limits.formals_past.Given as goal

abbrev pub invariant-loop-formal : goal.invariant-loop-formal
invariant-loop-formal l = least l.breaks.found (keys 4 (drop l.room (formal_tokens (drop l.formal-index l.formals)))) ≡ least l.initial.breaks.found (keys 4 (drop 8 (formal_tokens l.formals)))
