-- The key of an entry is its number.
use Rattle.std.proofs.Common.{rules}
use Rattle.std.proofs.lemmas.Result.{on_ok_weaker}
use Rattle.std.proofs.lemmas.List.Sorted.{IsNonDecreasingBy-from_sort_by_key}
use Rattle.chord_journal.proofs.gathered.sort.Goals as goal

pub returns-clause-ok : goal.returns-clause-ok
returns-clause-ok c =
    on_ok_weaker c.sort_by_key.result
    (λ sorted. IsNonDecreasingBy-from_sort_by_key (λ e. e.number) c.sort_by_key.new.self sorted (λ a r q k. search rules))
    c.sort_by_key.ensures.sorted
