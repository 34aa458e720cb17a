use Rattle.std.proofs.Common.{arith}
use Rattle.chord_space.proofs.space.Space.cell_word.Goals as goal

pub returns-clause-inside : goal.returns-clause-inside
returns-clause-inside g c = let sized = c.args.self.now.sized in let inside = c.spread_of.ensures.inside c.args.self.now.events c.requires.bounds in omega (arith, inside, sized.1)
