use Rattle.std.proofs.Common.{List, map, drop}
use Rattle.chord_lexer.specs.declared.token.Token.{Token}
use Rattle.chord_tree.specs.Program.{Adds}
use Rattle.chord_tree.specs.ClassNodes.{node_usings}
use Rattle.chord_tree.specs.View.{see_using}
use Rattle.chord_tree.proofs.spell_classes.put_usings.Given as goal

abbrev pub invariant-each : goal.invariant-each
invariant-each l = (end : List Token) → Adds l.out.items end (node_usings (map see_using (drop l.line-index l.usings))) → Adds l.initial.out.items end (node_usings (map see_using (l.usings)))
