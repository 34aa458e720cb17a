use Rattle.chord_lexer.proofs.Fronts.{read_or_refused}
use Rattle.chord_lexer.proofs.laws.some_reading.Goals as goal

pub returns : goal.returns
returns c = read_or_refused
