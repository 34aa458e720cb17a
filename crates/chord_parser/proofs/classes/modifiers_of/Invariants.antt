use Rattle.std.proofs.Common.{length}
use Rattle.chord_tree.specs.Symbols as grammar
use Rattle.chord_tree.specs.Program.{token_kinds}
use Rattle.chord_parser.specs.Reading.{Continues}
use Rattle.chord_parser.specs.Lists.{wrapped}
use Rattle.chord_parser.proofs.ClassLists.{modifier_way}
use Rattle.chord_parser.proofs.classes.modifiers_of.Given as goal

abbrev pub invariant-each : goal.invariant-each
invariant-each l = Continues l.count grammar.Modifiers 0 (token_kinds l.tokens) grammar.Modifiers 0 (token_kinds l.left) (wrapped modifier_way l.list.items)

abbrev pub decreases-each : goal.decreases-each
decreases-each l = length l.left
