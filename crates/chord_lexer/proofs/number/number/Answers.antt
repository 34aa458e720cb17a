use Rattle.std.proofs.Common.{arith, sym, ◌∙◌}
use Rattle.chord_lexer.proofs.Adding.{token_added, for_memory}
use Rattle.chord_lexer.proofs.Numbering.{number_begins, followed, none_so_large}
use Rattle.chord_lexer.proofs.number.number.Goals as goal

pub returns-then-follows-clause-none : goal.returns-then-follows-clause-none
returns-then-follows-clause-none c = followed _ _ c.requires.lead c.in-Some.ensures.some.run (sym c.follows.ensures ∙ c.if-follows.true)

pub add-requires : goal.add-requires
add-requires c =
    let f = c.requires.few in
    let w = c.in-Some.ensures.some.within in
    omega arith

pub returns-else-follows-clause-found : goal.returns-else-follows-clause-found
returns-else-follows-clause-found c =
    let s = c.in-Some.ensures.some in
    token_added _ _ _ _ _ _ _ (number_begins _ _ _ c.requires.lead s.within s.run (sym c.follows.ensures ∙ c.if-follows.false) s.is s.small) c.add.ensures.length c.add.ensures.added

pub returns-else-follows-clause-none : goal.returns-else-follows-clause-none
returns-else-follows-clause-none c = for_memory _ _ c.add.ensures.memory

pub returns-in-None-clause-none : goal.returns-in-None-clause-none
returns-in-None-clause-none c = none_so_large _ c.requires.lead c.in-None.ensures.none
