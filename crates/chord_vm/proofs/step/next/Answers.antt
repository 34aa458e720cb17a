use Rattle.std.proofs.Common.{◌<◌, length, rules}
use Rattle.chord_code.proofs.Validity.{valid_within}
use Rattle.chord_vm.specs.Frames.{machine_of}
use Rattle.chord_vm.proofs.Advance.{fetched, place_at}
use Rattle.chord_vm.proofs.step.next.Goals as goal

pub returns-clause-within : goal.returns-clause-within
returns-clause-within c =
    let m = machine_of c.args.frames.now in
    valid_within c.args.parts.now c.requires.valid m.top.block m.top.place c.index-instructions-frames.result
    (fetched c.args.parts.now m c.args.instructions.now c.index-instructions-frames.result c.requires.sound c.requires.here c.index-instructions-frames.is)

pub returns-clause-fits : goal.returns-clause-fits
returns-clause-fits c =
    let m = machine_of c.args.frames.now in
    let l : m.top.place < length c.args.instructions.now = place_at c.args.parts.now m c.args.instructions.now c.requires.sound c.requires.here in
    search (rules, l)
