use Rattle.std.proofs.Common.{arith}
use Rattle.chord_space.proofs.space.Space.place_word.Goals as goal

pub returns-clause-inside : goal.returns-clause-inside
returns-clause-inside g c = let sized = c.args.self.now.sized in let inside = c.spread_of.ensures.inside c.args.self.now.events c.requires.bounds in let breadth = c.breadth_of.ensures.breadth in omega (arith, inside, breadth, sized.1)
