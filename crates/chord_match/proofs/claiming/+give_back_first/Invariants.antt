use Rattle.chord_match.proofs.claiming.+give_back_first.Given as goal

abbrev pub decreases-give_back_first : goal.decreases-give_back_first
decreases-give_back_first g l = l.many
