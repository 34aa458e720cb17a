use Rattle.chord_base.proofs.Answered.{answers_before_call, answers_of_entries}
use Rattle.chord_base.proofs.laws.answers.Goals as goal

pub returns : goal.returns
returns c = record { ready = answers_of_entries; waits = answers_before_call }
