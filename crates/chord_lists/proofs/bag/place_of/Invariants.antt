use Rattle.chord_lists.specs.Bag.{LacksBefore}
use Rattle.chord_lists.proofs.bag.place_of.Given as goal

abbrev pub invariant-loop-i : goal.invariant-loop-i
invariant-loop-i l = LacksBefore l.class l.classes l.i
