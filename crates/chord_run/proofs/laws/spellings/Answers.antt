use Rattle.chord_run.proofs.Spellings.{spelling_is_read_again}
use Rattle.chord_run.proofs.laws.spellings.Goals as goal

pub returns : goal.returns
returns c = spelling_is_read_again
