use Rattle.chord_base.proofs.Texts.{both_written}
use Rattle.chord_base.proofs.text.in_place.Goals as goal

pub returns-clause-bytes : goal.returns-clause-bytes
returns-clause-bytes c = both_written _ _ _ _ _ _ c.copy_from_slice.ensures.after c.copy_from_slice-2.ensures.after
