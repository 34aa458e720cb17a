use Rattle.chord_vm.specs.Frames.{machine_of}
use Rattle.chord_vm.proofs.Advance.{IsAtWork}
use Rattle.chord_code.specs.Fuel.{weight}
use Rattle.chord_vm.proofs.step.run.Given as goal

abbrev pub invariant-steps : goal.invariant-steps
invariant-steps l = IsAtWork l.parts l.initial.frames l.instructions l.frames l.instruction l.asked

abbrev pub decreases-steps : goal.decreases-steps
decreases-steps l = weight l.parts (machine_of l.frames)
