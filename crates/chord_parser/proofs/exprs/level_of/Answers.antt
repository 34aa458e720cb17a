use Rattle.std.proofs.Common.{refl}
use Rattle.chord_parser.proofs.exprs.level_of.Goals as goal

pub returns-in-Plus : goal.returns-in-Plus
returns-in-Plus c = rw c.in-Plus.is refl
