use Rattle.chord_lexer.proofs.Chains.{one_list, one_place, not_both}
use Rattle.chord_lexer.proofs.laws.one_reading.Goals as goal

pub returns-clause-one_list : goal.returns-clause-one_list
returns-clause-one_list c = one_list

pub returns-clause-one_place : goal.returns-clause-one_place
returns-clause-one_place c = one_place

pub returns-clause-not_both : goal.returns-clause-not_both
returns-clause-not_both c = not_both
