use Rattle.std.proofs.Common.{◌≡◌}
use Rattle.chord_classes.specs.Forks.{under}
use Rattle.chord_classes.proofs.versions.Versions.get.Given as goal

-- what the side that is looked at has is what the version has
abbrev pub invariant-loop-rest : goal.invariant-loop-rest
invariant-loop-rest l = under l.self l.at l.rest ≡ under l.self l.fn.version l.fn.number

abbrev pub decreases-loop-rest : goal.decreases-loop-rest
decreases-loop-rest l = l.rest
