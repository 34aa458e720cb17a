use Rattle.std.proofs.Common.{◌≡◌, drop}
use Rattle.chord_code.specs.Meaning.{points}
use Rattle.chord_plain.specs.Effects.{point_of_reached}
use Rattle.chord_plain.proofs.running.after_all.Given as goal

abbrev pub invariant-loop-end : goal.invariant-loop-end
invariant-loop-end l = points l.code (point_of_reached l.reached) (drop l.end-index l.answers) ≡ points l.code (point_of_reached l.initial.reached) l.answers
