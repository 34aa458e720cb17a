use Rattle.std.proofs.Common.{rules}
use Rattle.chord_types.proofs.site.Site.declare.Goals as goal

pub returns-clause-declared : goal.returns-clause-declared
returns-clause-declared c = search rules
