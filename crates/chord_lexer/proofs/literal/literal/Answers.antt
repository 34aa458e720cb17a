use Rattle.chord_lexer.proofs.Adding.{token_added, for_memory}
use Rattle.chord_lexer.proofs.Quoting.{literal_begins, body_not_utf8, not_quoted}
use Rattle.chord_lexer.proofs.literal.literal.Goals as goal

pub returns-in-None-clause-none : goal.returns-in-None-clause-none
returns-in-None-clause-none c = not_quoted _ _ c.requires.lead c.after-tail.ensures c.in-None.ensures.none

pub returns-in-Ok-meaning-clause-found : goal.returns-in-Ok-meaning-clause-found
returns-in-Ok-meaning-clause-found c = token_added _ _ _ _ _ _ _ (literal_begins _ _ _ _ _ c.requires.lead c.after-tail.ensures c.in-Some.ensures.within c.in-Some.ensures.some c.in-Ok.ensures.cases.1 c.in-Ok-meaning.ensures c.of_items.ensures) c.add.ensures.length c.add.ensures.added

pub returns-in-Ok-meaning-clause-none : goal.returns-in-Ok-meaning-clause-none
returns-in-Ok-meaning-clause-none c = for_memory _ _ c.add.ensures.memory

pub returns-in-Err-clause-none : goal.returns-in-Err-clause-none
returns-in-Err-clause-none c = body_not_utf8 _ _ _ c.requires.lead c.after-tail.ensures c.in-Some.ensures.some c.in-Err.ensures.cases.0
