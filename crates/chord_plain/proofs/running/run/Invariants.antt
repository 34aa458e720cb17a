use Rattle.chord_code.specs.Fuel.{comes_to, weight}
use Rattle.chord_vm.specs.Frames.{machine_of}
use Rattle.chord_plain.proofs.Onward.{IsBound}
use Rattle.chord_plain.proofs.running.run.Given as goal

abbrev pub invariant-loop-what : goal.invariant-loop-what
invariant-loop-what l = IsBound l.parts (machine_of l.frames) (comes_to l.parts (machine_of l.initial.frames))

abbrev pub decreases-loop-what : goal.decreases-loop-what
decreases-loop-what l = weight l.parts (machine_of l.frames)
