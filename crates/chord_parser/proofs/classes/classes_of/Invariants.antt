use Rattle.std.proofs.Common.{length, map}
use Rattle.chord_tree.specs.Symbols as grammar
use Rattle.chord_tree.specs.Program.{token_kinds}
use Rattle.chord_tree.specs.View.{see_class}
use Rattle.chord_parser.specs.Reading.{Continues}
use Rattle.chord_parser.specs.Lists.{wrapped_after, IsFirst}
use Rattle.chord_parser.proofs.ClassLists.{class_way}
use Rattle.chord_parser.proofs.classes.classes_of.Given as goal

abbrev pub invariant-each : goal.invariant-each
invariant-each l = Continues l.count grammar.Classes 0 (token_kinds l.tokens) grammar.Classes 0 (token_kinds l.left) (wrapped_after class_way (map see_class l.list.items)) × IsFirst (see_class l.fn.first) (map see_class l.list.items)

abbrev pub decreases-each : goal.decreases-each
decreases-each l = length l.left
