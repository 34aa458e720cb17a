use Rattle.std.proofs.Common.{map}
use Rattle.chord_code.specs.Meaning.{methods_of}
use Rattle.chord_match.specs.Noting.{all_told}
use Rattle.chord_match.proofs.Holders.{NoneHolds}
use Rattle.chord_match.proofs.held.held_up.Given as goal

abbrev pub invariant-loop-at : goal.invariant-loop-at
invariant-loop-at l = NoneHolds l.method (map methods_of l.lines) (all_told l.known) l.at
