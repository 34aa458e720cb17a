use Rattle.chord_base.proofs.Local.{others_change_nothing, end_answers_caller, caller_made_call}
use Rattle.chord_base.proofs.laws.locality.Goals as goal

pub returns : goal.returns
returns c = record { others = others_change_nothing; answer = end_answers_caller; caller = caller_made_call }
