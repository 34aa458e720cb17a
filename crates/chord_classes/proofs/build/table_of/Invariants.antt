use Rattle.std.proofs.Common.{◌≡◌, [], map, drop}
use Rattle.chord_tree.specs.View.{see_class}
use Rattle.chord_classes.specs.Table.{shapes_after}
use Rattle.chord_classes.proofs.build.table_of.Given as goal

-- the classes from here on, after those in the table, give the whole table
abbrev pub invariant-loop-class : goal.invariant-loop-class
invariant-loop-class l = shapes_after l.table (map see_class (drop l.class-index l.class-items)) ≡ shapes_after [] (map see_class l.class-items)
