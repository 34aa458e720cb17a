use Rattle.std.proofs.Common.{sym, subst}
use Rattle.chord_code.specs.Machine.{act}
use Rattle.chord_code.proofs.Validity.{valid_within}
use Rattle.chord_vm.specs.Frames.{machine_of}
use Rattle.chord_plain.specs.Effects.{IsEffect}
use Rattle.chord_plain.proofs.Onward.{found_at}
use Rattle.chord_plain.proofs.running.take_step.Goals as goal

pub step-requires-clause-within : goal.step-requires-clause-within
step-requires-clause-within c =
    let code = c.args.parts.now in
    let top = c.args.frames.now.top in
    let l = c.in-Some.ensures.lookup.3 in
    let k = c.in-Some-get.ensures.lookup.3 in
    let e = found_at code top.block top.place c.in-Some.block.now c.in-Some-get.instruction.now (rw (← c.items.ensures) l.0) (rw (← c.items.ensures) (l.1 c.in-Some.block.now)) (rw (← c.items-instructions.ensures) k.0) (rw (← c.items-instructions.ensures) (k.1 c.in-Some-get.instruction.now)) in
    valid_within code c.requires.valid top.block top.place c.in-Some-get.instruction.now e

pub returns : goal.returns
returns c =
    let code = c.args.parts.now in
    let top = c.args.frames.now.top in
    let l = c.in-Some.ensures.lookup.3 in
    let k = c.in-Some-get.ensures.lookup.3 in
    let e = found_at code top.block top.place c.in-Some.block.now c.in-Some-get.instruction.now (rw (← c.items.ensures) l.0) (rw (← c.items.ensures) (l.1 c.in-Some.block.now)) (rw (← c.items-instructions.ensures) k.0) (rw (← c.items-instructions.ensures) (k.1 c.in-Some-get.instruction.now)) in
    subst (λ o. IsEffect (act code o (machine_of c.args.frames.now)) c.in_ok-effect.effect c.step.new.frames) (sym e) c.in_ok-effect.ensures
