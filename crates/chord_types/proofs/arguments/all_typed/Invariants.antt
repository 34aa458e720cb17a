use Rattle.std.proofs.Common.{◌≡◌, drop, map}
use Rattle.chord_classes.specs.TypedTerms.{all_typed}
use Rattle.chord_types.specs.Views.{see_passed}
use Rattle.chord_types.proofs.arguments.all_typed.Given as goal

abbrev pub invariant-loop-actual : goal.invariant-loop-actual
invariant-loop-actual l = all_typed (map see_passed (drop l.actual-index l.actuals)) ≡ all_typed (map see_passed l.actuals)
