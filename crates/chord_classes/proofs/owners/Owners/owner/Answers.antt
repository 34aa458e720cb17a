use Rattle.std.proofs.Common.{rules}
use Rattle.chord_classes.proofs.owners.Owners.owner.Goals as goal

pub returns-in-Some : goal.returns-in-Some
returns-in-Some c = search rules
