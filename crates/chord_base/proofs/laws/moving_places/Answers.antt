use Rattle.chord_base.proofs.Merged.{merged_union, merged_story}
use Rattle.chord_base.proofs.Parting.{parting_keeps_places, run_is_told, places_gather}
use Rattle.chord_base.proofs.Together.{moving_keeps_places, parts_together}
use Rattle.chord_base.proofs.laws.moving_places.Goals as goal

pub returns : goal.returns
returns c = record {
  whole = run_is_told;
  union = merged_union;
  moving = moving_keeps_places;
  together = parts_together;
  parting = parting_keeps_places;
  stories = merged_story;
  gathered = places_gather;
}
