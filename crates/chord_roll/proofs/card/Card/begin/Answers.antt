use Rattle.std.proofs.Common.{rules}
use Rattle.chord_roll.proofs.Steps.{begins_keeps}
use Rattle.chord_roll.proofs.card.Card.begin.Goals as goal

pub fetch_add-requires : goal.fetch_add-requires
fetch_add-requires g = (search rules, search rules, begins_keeps _ _ _ (search rules))
