use Rattle.std.proofs.Common.{◌<◌, ◌+◌, length, rules, ap, ◌∙◌, add-one}
use Rattle.std.specs.Prelude.{slice_index_or}
use Rattle.chord_base.specs.declared.value.Value.TheVariants as a_value
use Rattle.chord_vm.specs.Frames.{machine_of, with_pushed}
use Rattle.chord_vm.proofs.Advance.{fetched, place_behind, number_pushed, defined_on}
use Rattle.chord_vm.proofs.step.following.Goals as goal

pub bounds-instructions-frames : goal.bounds-instructions-frames
bounds-instructions-frames c = place_behind c.args.parts.now (machine_of c.args.frames.now) c.args.instructions.now c.args.number c.requires.sound c.requires.here c.requires.number

pub returns-clause-pushes : goal.returns-clause-pushes
returns-clause-pushes c = number_pushed c.args.parts.now (machine_of c.args.frames.now) c.args.number c.requires.number

pub returns-clause-instruction : goal.returns-clause-instruction
returns-clause-instruction c =
    let code = c.args.parts.now in
    let m = machine_of c.args.frames.now in
    let n = c.args.number in
    let x = c.index-instructions-frames.result in
    fetched code (with_pushed (a_value.Int n) m) c.args.instructions.now x
    (defined_on code m (with_pushed (a_value.Int n) m) (number_pushed code m n c.requires.number) c.requires.sound) c.requires.here
    (c.index-instructions-frames.is ∙ ap (λ p. slice_index_or c.args.instructions.now p x) (add-one m.top.place))

pub returns-clause-fits : goal.returns-clause-fits
returns-clause-fits c =
    let m = machine_of c.args.frames.now in
    let l : m.top.place + 1 < length c.args.instructions.now = place_behind c.args.parts.now m c.args.instructions.now c.args.number c.requires.sound c.requires.here c.requires.number in
    search (rules, l)
