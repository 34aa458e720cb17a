use Rattle.std.proofs.Common.{length, ◌<◌}
use Rattle.chord_tree.specs.Symbols as grammar
use Rattle.chord_tree.specs.Program.{token_kinds}
use Rattle.chord_parser.specs.Reading.{Continues}
use Rattle.chord_parser.specs.Lists.{before_formals}
use Rattle.chord_parser.proofs.classes.formals_inside.Given as goal

abbrev pub invariant-each : goal.invariant-each
invariant-each l = Continues l.count grammar.Optional_formals 0 (token_kinds l.tokens) grammar.More_formals 0 (token_kinds l.left) (before_formals l.list.items) × (0 < length l.list.items)

abbrev pub decreases-each : goal.decreases-each
decreases-each l = length l.left
