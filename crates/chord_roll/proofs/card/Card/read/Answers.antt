use Rattle.std.proofs.Common.{rules}
use Rattle.chord_roll.proofs.Steps.{reads_keeps}
use Rattle.chord_roll.proofs.card.Card.read.Goals as goal

pub load-requires : goal.load-requires
load-requires g = (search rules, search rules, reads_keeps _ _ _)
