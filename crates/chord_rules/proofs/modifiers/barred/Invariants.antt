use Rattle.std.proofs.Common.{◌≡◌, false, drop}
use Rattle.chord_classes.specs.Least.{least, keys}
use Rattle.chord_rules.specs.Bearers.{see_bearer, barred_from}
use Rattle.chord_rules.proofs.modifiers.barred.Given as goal

abbrev pub invariant-loop-modifier : goal.invariant-loop-modifier
invariant-loop-modifier l = least l.breaks.found (keys 21 (barred_from (see_bearer l.bearer) l.open_access l.seen (drop l.modifier-index l.modifiers))) ≡ least l.initial.breaks.found (keys 21 (barred_from (see_bearer l.bearer) l.open_access (record { access = false; of_static = false; of_virtual = false }) l.modifiers))
