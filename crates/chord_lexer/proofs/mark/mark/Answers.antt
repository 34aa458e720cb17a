use Rattle.std.proofs.Common.{refl, sym, ◌∙◌}
use Rattle.chord_lexer.proofs.Adding.{token_added, for_memory}
use Rattle.chord_lexer.proofs.Fronts.{pair_spelled}
use Rattle.chord_lexer.proofs.Marking.{pair_by_first, pair_begins, single_begins, no_mark}
use Rattle.chord_lexer.proofs.mark.mark.Goals as goal

pub returns-in-Some-clause-found : goal.returns-in-Some-clause-found
returns-in-Some-clause-found c =
    let is = sym (c.in-Some.ensures ∙ pair_by_first c.args.text.now) in
    token_added _ _ _ _ _ _ _ (pair_begins _ _ c.requires.lead is (pair_spelled _ _ is)) c.add.ensures.length c.add.ensures.added

pub returns-in-Some-clause-none : goal.returns-in-Some-clause-none
returns-in-Some-clause-none c = for_memory _ _ c.add.ensures.memory

pub returns-in-Some-single-clause-found : goal.returns-in-Some-single-clause-found
returns-in-Some-single-clause-found c = token_added _ _ _ _ _ _ _ (single_begins _ _ _ c.requires.some c.requires.lead (sym (c.in-None.ensures ∙ pair_by_first c.args.text.now)) refl c.in-Some-single.ensures.spelled) c.add-in-Some-single.ensures.length c.add-in-Some-single.ensures.added

pub returns-in-Some-single-clause-none : goal.returns-in-Some-single-clause-none
returns-in-Some-single-clause-none c = for_memory _ _ c.add-in-Some-single.ensures.memory

pub returns-in-None-single-clause-none : goal.returns-in-None-single-clause-none
returns-in-None-single-clause-none c = no_mark _ _ c.requires.some c.requires.lead (sym (c.in-None.ensures ∙ pair_by_first c.args.text.now)) refl (sym c.in-None-single.ensures.value)
