use Rattle.std.proofs.Common.{refl}
use Rattle.chord_rule.specs.Layout.{breadth_for}
use Rattle.chord_space.proofs.space.breadth_of.Goals as goal

pub returns-clause-breadth : goal.returns-clause-breadth
unfolding breadth_for
returns-clause-breadth c = refl
