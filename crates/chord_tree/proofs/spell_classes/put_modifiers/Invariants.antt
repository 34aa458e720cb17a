use Rattle.std.proofs.Common.{List, drop}
use Rattle.chord_lexer.specs.declared.token.Token.{Token}
use Rattle.chord_tree.specs.Program.{Adds}
use Rattle.chord_tree.specs.ClassNodes.{node_modifiers}
use Rattle.chord_tree.proofs.spell_classes.put_modifiers.Given as goal

abbrev pub invariant-each : goal.invariant-each
invariant-each l = (end : List Token) → Adds l.out.items end (node_modifiers (drop l.modifier-index l.modifiers)) → Adds l.initial.out.items end (node_modifiers (l.modifiers))
