use Rattle.chord_run.proofs.Loads.{same_pieces}
use Rattle.chord_run.proofs.load.load_source.Goals as goal

pub returns-clause-text : goal.returns-clause-text
returns-clause-text c =
    rw (c.in_ok-extend_from_slice-4.ensures.items, c.in_ok-extend_from_slice-3.ensures.items, c.in_ok-extend_from_slice-2.ensures.items, c.in_ok-extend_from_slice.ensures.items, c.in_ok-source.ensures.items, c.as_bytes-number.ensures.value, c.format.ensures.text)
    (same_pieces c.args.k)
