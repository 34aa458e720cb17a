use Rattle.std.proofs.Common.{length, map}
use Rattle.chord_tree.specs.Symbols as grammar
use Rattle.chord_tree.specs.Program.{token_kinds}
use Rattle.chord_tree.specs.View.{see_using}
use Rattle.chord_parser.specs.Reading.{Continues}
use Rattle.chord_parser.specs.Lists.{wrapped}
use Rattle.chord_parser.proofs.ClassLists.{using_way}
use Rattle.chord_parser.proofs.classes.usings_of.Given as goal

abbrev pub invariant-each : goal.invariant-each
invariant-each l = Continues l.count grammar.Usings 0 (token_kinds l.tokens) grammar.Usings 0 (token_kinds l.left) (wrapped using_way (map see_using l.list.items))

abbrev pub decreases-each : goal.decreases-each
decreases-each l = length l.left
