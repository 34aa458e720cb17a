use Rattle.chord_source.proofs.GoodPlays.{good_plays}
use Rattle.chord_source.proofs.laws.good.Goals as goal

pub returns : goal.returns
returns c = good_plays
