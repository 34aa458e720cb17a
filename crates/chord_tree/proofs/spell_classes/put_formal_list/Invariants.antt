use Rattle.std.proofs.Common.{List, drop}
use Rattle.chord_lexer.specs.declared.token.Token.{Token}
use Rattle.chord_tree.specs.Program.{Adds}
use Rattle.chord_tree.specs.ClassNodes.{node_more_formals}
use Rattle.chord_tree.proofs.spell_classes.put_formal_list.Given as goal

abbrev pub invariant-each : goal.invariant-each
invariant-each l = (end : List Token) → Adds l.out.items end (node_more_formals (drop l.formal-index l.more)) → Adds l.initial.out.items end (node_more_formals (l.more))
