use Rattle.std.proofs.Common.{◌<◌, ◌+◌, length, rules, ap, ◌∙◌, add-one}
use Rattle.std.specs.Prelude.{slice_index_or}
use Rattle.chord_vm.specs.Frames.{machine_of, with_pushed}
use Rattle.chord_vm.proofs.Advance.{fetched, place_past, load_pushed, defined_on}
use Rattle.chord_vm.proofs.step.behind_load.Goals as goal

pub bounds-instructions-frames : goal.bounds-instructions-frames
bounds-instructions-frames c =
    let m = machine_of c.args.frames.now in
    let v = load_pushed c.args.parts.now m c.args.slot c.requires.sound c.requires.load in
    place_past c.args.parts.now m c.args.instructions.now v.0 c.requires.sound c.requires.here v.2

pub returns-clause-instruction : goal.returns-clause-instruction
returns-clause-instruction c =
    let code = c.args.parts.now in
    let m = machine_of c.args.frames.now in
    let v = load_pushed code m c.args.slot c.requires.sound c.requires.load in
    let x = c.index-instructions-frames.result in
    fetched code (with_pushed v.0 m) c.args.instructions.now x (defined_on code m (with_pushed v.0 m) v.2 c.requires.sound) c.requires.here
    (c.index-instructions-frames.is ∙ ap (λ p. slice_index_or c.args.instructions.now p x) (add-one m.top.place))

pub returns-clause-fits : goal.returns-clause-fits
returns-clause-fits c =
    let m = machine_of c.args.frames.now in
    let v = load_pushed c.args.parts.now m c.args.slot c.requires.sound c.requires.load in
    let l : m.top.place + 1 < length c.args.instructions.now = place_past c.args.parts.now m c.args.instructions.now v.0 c.requires.sound c.requires.here v.2 in
    search (rules, l)
