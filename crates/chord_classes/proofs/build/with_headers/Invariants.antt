use Rattle.std.proofs.Common.{List, map, drop}
use Rattle.chord_tree.specs.View.{see_header}
use Rattle.chord_classes.specs.Table.{inherited}
use Rattle.chord_classes.specs.declared.method.Method.{Method}
use Rattle.chord_classes.specs.Entries.{IsGrown}
use Rattle.chord_classes.proofs.build.with_headers.Given as goal

-- what the headers from here on add to the methods, all add to those in the beginning
abbrev pub invariant-loop-header : goal.invariant-loop-header
invariant-loop-header l = (after : List Method) → IsGrown (inherited l.table l.base) l.owner (map see_header (drop l.header-index l.headers)) l.own.all.items after → IsGrown (inherited l.table l.base) l.owner (map see_header l.headers) l.initial.own.all.items after
