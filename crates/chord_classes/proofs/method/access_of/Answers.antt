use Rattle.std.proofs.Common.{arith}
use Rattle.std.proofs.lemmas.Grind.{common_steps}
use Rattle.chord_classes.proofs.method.access_of.Goals as goal

pub returns-in-Protected : goal.returns-in-Protected
returns-in-Protected c = grind (arith, common_steps)
