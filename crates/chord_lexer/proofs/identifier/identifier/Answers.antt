use Rattle.std.proofs.Common.{sym}
use Rattle.chord_lexer.proofs.Adding.{token_added, for_memory}
use Rattle.chord_lexer.proofs.Identifying.{reserved_begins, name_begins, no_word}
use Rattle.chord_lexer.proofs.identifier.identifier.Goals as goal

pub returns-then-length-gt-MAX_IDENTIFIER_BYTES-clause-none : goal.returns-then-length-gt-MAX_IDENTIFIER_BYTES-clause-none
returns-then-length-gt-MAX_IDENTIFIER_BYTES-clause-none c = no_word _ _ c.requires.lead c.run-length.ensures.within c.run-length.ensures.is c.if-length-gt-MAX_IDENTIFIER_BYTES.true

pub returns-in-Some-clause-found : goal.returns-in-Some-clause-found
returns-in-Some-clause-found c = token_added _ _ _ _ _ _ _ (reserved_begins _ _ _ c.requires.lead c.run-length.ensures.within c.run-length.ensures.is c.if-length-gt-MAX_IDENTIFIER_BYTES.false (sym c.in-Some.ensures)) c.add.ensures.length c.add.ensures.added

pub returns-in-Some-clause-none : goal.returns-in-Some-clause-none
returns-in-Some-clause-none c = for_memory _ _ c.add.ensures.memory

pub returns-in-Ok-clause-found : goal.returns-in-Ok-clause-found
returns-in-Ok-clause-found c = token_added _ _ _ _ _ _ _ (name_begins _ _ _ c.requires.lead c.run-length.ensures.within c.run-length.ensures.is c.if-length-gt-MAX_IDENTIFIER_BYTES.false (sym c.in-None.ensures) c.in-Ok.ensures.made) c.add-in-Ok.ensures.length c.add-in-Ok.ensures.added

pub returns-in-Ok-clause-none : goal.returns-in-Ok-clause-none
returns-in-Ok-clause-none c = for_memory _ _ c.add-in-Ok.ensures.memory
