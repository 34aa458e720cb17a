use Rattle.std.proofs.Common.{rules}
use Rattle.chord_roll.proofs.Steps.{stops_keeps}
use Rattle.chord_roll.proofs.card.Card.stop.Goals as goal

pub store-requires : goal.store-requires
store-requires g = (search rules, search rules, stops_keeps _ _ _)
