use Rattle.std.proofs.Common.{length}
use Rattle.chord_task.proofs.args.+part.Given as goal

abbrev pub decreases-part : goal.decreases-part
decreases-part l = length l.arguments.now
