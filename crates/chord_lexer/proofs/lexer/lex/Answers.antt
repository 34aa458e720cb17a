use Rattle.chord_lexer.proofs.Chains.{only_list, only_place, no_more}
use Rattle.chord_lexer.proofs.lexer.lex.Goals as goal

pub returns-clause-few : goal.returns-clause-few
returns-clause-few c = no_more _ _ c.read.ensures.read

pub returns-clause-only_list : goal.returns-clause-only_list
returns-clause-only_list c = only_list _ _ c.read.ensures.read c.read.ensures.fault

pub returns-clause-only_place : goal.returns-clause-only_place
returns-clause-only_place c = only_place _ _ c.read.ensures.read c.read.ensures.fault
