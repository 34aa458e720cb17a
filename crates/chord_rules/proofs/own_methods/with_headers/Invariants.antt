use Rattle.std.proofs.Common.{ℕ, map, drop, Option}
use Rattle.chord_tree.specs.View.{see_header}
use Rattle.chord_classes.specs.Table.{inherited}
use Rattle.chord_rules.specs.declared.own_methods.Grown.{Grown}
use Rattle.chord_rules.specs.Growing.{IsCounted}
use Rattle.chord_rules.proofs.own_methods.with_headers.Given as goal

-- what the headers from here on add to the methods, all add to those in the beginning
abbrev pub invariant-loop-header : goal.invariant-loop-header
invariant-loop-header l =
    (after : Grown) (p : Option ℕ) → IsCounted (inherited l.table l.base) l.owner (map see_header (drop l.header-index l.headers)) l.grown after l.breaks.found p
    → IsCounted (inherited l.table l.base) l.owner (map see_header l.headers) l.initial.grown after l.initial.breaks.found p
