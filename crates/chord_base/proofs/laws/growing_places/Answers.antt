use Rattle.chord_base.proofs.Merged.{place_knows, merged_asks, merged_note, merged_fire}
use Rattle.chord_base.proofs.laws.growing_places.Goals as goal

pub returns : goal.returns
returns c = record { knows = place_knows; asks = merged_asks; note = merged_note; firing = merged_fire }
