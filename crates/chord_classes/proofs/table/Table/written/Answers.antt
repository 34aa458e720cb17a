use Rattle.std.proofs.Common.{rules}
use Rattle.chord_classes.proofs.table.Table.written.Goals as goal

pub returns-in-Bool : goal.returns-in-Bool
returns-in-Bool c = search rules
