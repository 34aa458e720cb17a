use Rattle.std.proofs.Common.{◌∙◌}
use Rattle.std.proofs.lemmas.Result.{IfOk-weaker}
use Rattle.std.proofs.lemmas.List.Sorted.{IsPermutation-trans}
use Rattle.chord_journal.proofs.Gathering.{placed_is_journal, of_journal_moved}
use Rattle.chord_journal.proofs.merged.gather_lists.Goals as goal

pub of_entries-requires : goal.of_entries-requires
of_entries-requires c =
    let placed = rw (c.if-placed-len.true ∙ c.len.ensures ∙ c.in_ok-entries.entries.ok.0) at c.in_ok-entries.ensures.placed in
    placed_is_journal _ _ c.requires c.in_ok-entries.ensures.moved placed

pub gather-requires : goal.gather-requires
gather-requires c = of_journal_moved _ _ c.requires c.in_ok-entries.ensures.moved

pub returns : goal.returns
returns c = IfOk-weaker c.gather.result _ _ (λ journal turned. IsPermutation-trans _ _ _ c.in_ok-entries.ensures.moved turned) c.gather.ensures
