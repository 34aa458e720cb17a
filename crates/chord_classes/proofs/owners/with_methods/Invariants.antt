use Rattle.std.proofs.Common.{map, take, is_some}
use Rattle.chord_classes.specs.Table.{method_named}
use Rattle.chord_classes.specs.MethodViews.{see_method, names_of}
use Rattle.chord_classes.specs.Owned.{IsOwning, AddsNames}
use Rattle.chord_classes.proofs.owners.with_methods.Given as goal

-- the methods so far are new in the class, and their names came
abbrev pub invariant-loop-method : goal.invariant-loop-method
invariant-loop-method l =
    IsOwning l.fn.owners l.owning.owners l.fn.version l.owning.version (λ x. is_some (method_named (map see_method (take l.method-index l.methods)) x)) l.owner
    × AddsNames l.fn.owners l.owning.owners (names_of (take l.method-index l.methods))
