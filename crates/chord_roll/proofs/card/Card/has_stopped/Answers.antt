use Rattle.std.proofs.Common.{rules}
use Rattle.chord_roll.proofs.Steps.{reads_stop_keeps}
use Rattle.chord_roll.proofs.card.Card.has_stopped.Goals as goal

pub load-requires : goal.load-requires
load-requires g = (search rules, search rules, reads_stop_keeps _ _ _)
