use Rattle.std.proofs.Common.{◌≡◌, drop, map}
use Rattle.std.specs.Prelude.{◌&&◌}
use Rattle.chord_classes.specs.Table.{formal_types}
use Rattle.chord_classes.specs.TypeRules.{misfits}
use Rattle.chord_classes.specs.Typed.{is_nil}
use Rattle.chord_classes.specs.Least.{keys, least}
use Rattle.chord_types.specs.Views.{see_passed}
use Rattle.chord_types.proofs.arguments.fit_all.Given as goal

abbrev pub invariant-loop-formal : goal.invariant-loop-formal
invariant-loop-formal l =
    (l.i ≡ l.formal-index)
    × ((l.good && is_nil (misfits l.table (formal_types (drop l.i l.formals)) (map see_passed (drop l.i l.actuals)))) ≡ is_nil (misfits l.table (formal_types l.formals) (map see_passed l.actuals)))
    × (least l.breaks.found (keys 15 (misfits l.table (formal_types (drop l.i l.formals)) (map see_passed (drop l.i l.actuals)))) ≡ least l.initial.breaks.found (keys 15 (misfits l.table (formal_types l.formals) (map see_passed l.actuals))))
