use Rattle.std.proofs.Common.{length}
use Rattle.chord_vm.proofs.frames.+lay.Given as goal

abbrev pub decreases-lay : goal.decreases-lay
decreases-lay l = length l.arguments.now
