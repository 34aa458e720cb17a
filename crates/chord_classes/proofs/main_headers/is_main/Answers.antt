use Rattle.std.proofs.Common.{rules}
use Rattle.chord_classes.proofs.main_headers.is_main.Goals as goal

pub returns : goal.returns
returns c = search rules
