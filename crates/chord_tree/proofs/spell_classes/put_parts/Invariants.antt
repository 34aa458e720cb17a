use Rattle.std.proofs.Common.{List, drop}
use Rattle.chord_lexer.specs.declared.token.Token.{Token}
use Rattle.chord_tree.specs.Program.{Adds}
use Rattle.chord_tree.specs.ClassNodes.{node_name_parts}
use Rattle.chord_tree.proofs.spell_classes.put_parts.Given as goal

abbrev pub invariant-each : goal.invariant-each
invariant-each l = (end : List Token) → Adds l.out.items end (node_name_parts (drop l.part-index l.parts)) → Adds l.initial.out.items end (node_name_parts (l.parts))
