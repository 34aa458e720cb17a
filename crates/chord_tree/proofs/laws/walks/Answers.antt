use Rattle.chord_tree.proofs.Walks.{notes_at_spots, notes_together}
use Rattle.chord_tree.proofs.laws.walks.Goals as goal

pub returns : goal.returns
returns g c = record { spots = notes_at_spots; together = notes_together }
