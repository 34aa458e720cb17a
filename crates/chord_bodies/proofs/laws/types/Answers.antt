use Rattle.chord_bodies.proofs.TypesShow.{types_shown}
use Rattle.chord_bodies.proofs.laws.types.Goals as goal

pub returns : goal.returns
returns c = types_shown
