use Rattle.std.proofs.Common.{length, map}
use Rattle.chord_tree.specs.Symbols as grammar
use Rattle.chord_tree.specs.Program.{token_kinds}
use Rattle.chord_tree.specs.View.{see_member}
use Rattle.chord_parser.specs.Reading.{Continues}
use Rattle.chord_parser.specs.Lists.{wrapped}
use Rattle.chord_parser.proofs.ClassLists.{member_way}
use Rattle.chord_parser.proofs.classes.members_of.Given as goal

abbrev pub invariant-each : goal.invariant-each
invariant-each l = Continues l.count grammar.Members 0 (token_kinds l.tokens) grammar.Members 0 (token_kinds l.left) (wrapped member_way (map see_member l.list.items))

abbrev pub decreases-each : goal.decreases-each
decreases-each l = length l.left
