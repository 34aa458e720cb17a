use Rattle.chord_lexer.proofs.Commenting.{comment_begins, not_utf8, not_delimited}
use Rattle.chord_lexer.proofs.comment.comment.Goals as goal

pub returns-in-Ok-clause-found : goal.returns-in-Ok-clause-found
returns-in-Ok-clause-found c = comment_begins _ _ c.requires c.in-Some.ensures.some c.in-Ok.ensures.cases.1

pub returns-in-Err-clause-none : goal.returns-in-Err-clause-none
returns-in-Err-clause-none c = not_utf8 _ _ c.requires c.in-Some.ensures.some c.in-Err.ensures.cases.0

pub returns-in-None-clause-none : goal.returns-in-None-clause-none
returns-in-None-clause-none c = not_delimited _ c.requires c.in-None.ensures.none
