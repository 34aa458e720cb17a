-- The list that was arranged is the list of the entries.
use Rattle.std.proofs.Common.{◌≡◌, ◌++◌, length, take, drop, arith, ◌∙◌}
use Rattle.std.proofs.lemmas.List.{take_all, take-append-le}
use Rattle.std.proofs.lemmas.List.Sorted.{length_permutation}
use Rattle.chord_journal.proofs.Gathering.{placed_is_journal}
use Rattle.chord_journal.proofs.gathered.gather.Goals as goal

pub of_entries-requires : goal.of_entries-requires
of_entries-requires c =
    let sorted = c.arrange.new.entries in
    let moved = rw c.as_mut_slice.ensures.value at c.in_ok-arrange.ensures.moved in
    let long = length_permutation _ sorted moved in
    let whole : take c.args.entries.len (sorted ++ drop (length sorted) c.args.entries.items) ≡ sorted =
    take-append-le _ sorted _ (omega (arith, long, c.args.entries.ok.0)) ∙ take_all _ sorted (omega (arith, long, c.args.entries.ok.0)) in
    rw whole (placed_is_journal _ sorted c.requires moved c.in_ok-arrange.ensures.placed)
