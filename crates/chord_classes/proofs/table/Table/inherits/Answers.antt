use Rattle.std.proofs.Common.{rules}
use Rattle.chord_classes.proofs.table.Table.inherits.Goals as goal

pub returns-in-Some : goal.returns-in-Some
returns-in-Some c = search rules
