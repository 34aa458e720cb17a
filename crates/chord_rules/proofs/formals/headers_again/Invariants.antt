use Rattle.std.proofs.Common.{◌≡◌, [], map, drop, flat_map}
use Rattle.std.specs.Prelude.{reverse}
use Rattle.chord_tree.specs.View.{see_header}
use Rattle.chord_classes.specs.DeclarationRules.{repeated_formals}
use Rattle.chord_classes.specs.Least.{least, keys}
use Rattle.chord_rules.specs.FormalNames.{formals_of_header}
use Rattle.chord_rules.proofs.formals.headers_again.Given as goal

abbrev pub invariant-loop-header : goal.invariant-loop-header
invariant-loop-header l = least l.breaks.found (keys 8 (repeated_formals (reverse l.names) (flat_map formals_of_header (map see_header (drop l.header-index l.headers))))) ≡ least l.initial.breaks.found (keys 8 (repeated_formals [] (flat_map formals_of_header (map see_header l.headers))))
