use Rattle.std.proofs.Common.{◌≡◌, drop}
use Rattle.chord_space.specs.Widest.{most_methods}
use Rattle.chord_space.proofs.space.heads_of.Given as goal

abbrev pub invariant-loop-class : goal.invariant-loop-class
invariant-loop-class l = most_methods l.most (drop l.class-index l.class-items) ≡ most_methods 0 l.class-items
