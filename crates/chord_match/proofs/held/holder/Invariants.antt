use Rattle.chord_match.specs.Noting.{all_told}
use Rattle.chord_match.proofs.Holders.{HeldSoFar}
use Rattle.chord_match.proofs.held.holder.Given as goal

abbrev pub invariant-loop-at : goal.invariant-loop-at
invariant-loop-at l = HeldSoFar l.methods (all_told l.known) l.at l.busy
