use Rattle.std.proofs.Common.{List, map, drop}
use Rattle.chord_lexer.specs.declared.token.Token.{Token}
use Rattle.chord_tree.specs.Program.{Adds}
use Rattle.chord_tree.specs.ClassNodes.{node_members}
use Rattle.chord_tree.specs.View.{see_member}
use Rattle.chord_tree.proofs.spell_classes.put_members.Given as goal

abbrev pub invariant-each : goal.invariant-each
invariant-each l = (end : List Token) → Adds l.out.items end (node_members (map see_member (drop l.member-index l.members))) → Adds l.initial.out.items end (node_members (map see_member (l.members)))
