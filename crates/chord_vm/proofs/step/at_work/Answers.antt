use Rattle.std.proofs.Common.{◌∙◌, ap, sym, Some}
use Rattle.chord_vm.specs.Frames.{machine_of}
use Rattle.chord_vm.proofs.Advance.{at_work}
use Rattle.chord_vm.proofs.step.at_work.Goals as goal

pub returns : goal.returns
returns c =
    at_work c.args.parts.now (machine_of c.args.frames.now) c.index-items-frames.result c.requires.sound (rw (← c.items.ensures) c.index-items-frames.is)
    ∙ ap Some (sym c.items-2.ensures)
