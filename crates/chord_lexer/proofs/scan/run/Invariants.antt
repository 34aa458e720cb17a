use Rattle.std.proofs.Common.{◌≡◌, ◌≤◌, ◌-◌, length, take, true}
use Rattle.chord_lexer.specs.Letters.{all_pass}
use Rattle.chord_lexer.specs.Scanning.{test_of}
use Rattle.chord_lexer.proofs.scan.run.Given as goal

abbrev pub invariant-loop-at : goal.invariant-loop-at
invariant-loop-at l = (l.at ≤ length l.bytes) × (all_pass (test_of l.kind) (take l.at l.bytes) ≡ true)

abbrev pub decreases-loop-at : goal.decreases-loop-at
decreases-loop-at l = length l.bytes - l.at
