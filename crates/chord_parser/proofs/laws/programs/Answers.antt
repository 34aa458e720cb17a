use Rattle.chord_parser.proofs.Programs.{derived_where_spelled, at_means_wrong, tall_means_tall, each_is_answered, has_one_answer, not_tall_has_none}
use Rattle.chord_parser.proofs.laws.programs.Goals as goal

pub returns-clause-derived : goal.returns-clause-derived
returns-clause-derived c = derived_where_spelled

pub returns-clause-at : goal.returns-clause-at
returns-clause-at c = at_means_wrong

pub returns-clause-tall : goal.returns-clause-tall
returns-clause-tall c = tall_means_tall

pub returns-clause-answered : goal.returns-clause-answered
returns-clause-answered c = each_is_answered

pub returns-clause-one : goal.returns-clause-one
returns-clause-one c = has_one_answer

pub returns-clause-none : goal.returns-clause-none
returns-clause-none c = not_tall_has_none
