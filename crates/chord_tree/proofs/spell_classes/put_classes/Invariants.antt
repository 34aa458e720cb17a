use Rattle.std.proofs.Common.{List, map, drop}
use Rattle.chord_lexer.specs.declared.token.Token.{Token}
use Rattle.chord_tree.specs.Program.{Adds}
use Rattle.chord_tree.specs.ClassNodes.{node_classes}
use Rattle.chord_tree.specs.View.{see_class}
use Rattle.chord_tree.proofs.spell_classes.put_classes.Given as goal

abbrev pub invariant-each : goal.invariant-each
invariant-each l = (end : List Token) → Adds l.out.items end (node_classes (map see_class (drop l.class-index l.classes))) → Adds l.initial.out.items end (node_classes (map see_class (l.classes)))
