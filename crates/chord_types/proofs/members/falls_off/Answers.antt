use Rattle.std.proofs.Common.{rules}
use Rattle.chord_types.proofs.members.falls_off.Goals as goal

pub returns : goal.returns
returns c = search rules
