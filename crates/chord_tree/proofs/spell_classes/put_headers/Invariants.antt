use Rattle.std.proofs.Common.{List, map, drop}
use Rattle.chord_lexer.specs.declared.token.Token.{Token}
use Rattle.chord_tree.specs.Program.{Adds}
use Rattle.chord_tree.specs.ClassNodes.{node_headers}
use Rattle.chord_tree.specs.View.{see_header}
use Rattle.chord_tree.proofs.spell_classes.put_headers.Given as goal

abbrev pub invariant-each : goal.invariant-each
invariant-each l = (end : List Token) → Adds l.out.items end (node_headers (map see_header (drop l.header-index l.more))) → Adds l.initial.out.items end (node_headers (map see_header (l.more)))
