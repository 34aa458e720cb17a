use Rattle.chord_run.proofs.Examples.{accepted_examples, refused_examples}
use Rattle.chord_run.proofs.laws.words.Goals as goal

pub returns-clause-accepted : goal.returns-clause-accepted
returns-clause-accepted c = accepted_examples

pub returns-clause-refused : goal.returns-clause-refused
returns-clause-refused c = refused_examples
