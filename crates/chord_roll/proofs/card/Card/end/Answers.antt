use Rattle.std.proofs.Common.{rules}
use Rattle.chord_roll.proofs.Steps.{ends_keeps}
use Rattle.chord_roll.proofs.card.Card.end.Goals as goal

pub fetch_sub-requires : goal.fetch_sub-requires
fetch_sub-requires g = (search rules, search rules, ends_keeps _ _ _ (search rules))
