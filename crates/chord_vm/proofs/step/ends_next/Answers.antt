use Rattle.std.proofs.Common.{◌≡◌, ap, ◌∙◌, sym, Some}
use Rattle.chord_vm.specs.Frames.{machine_of, instructions_in}
use Rattle.chord_vm.proofs.Advance.{work_of, advanced_to_end}
use Rattle.chord_vm.proofs.step.ends_next.Goals as goal

pub returns-in-Some : goal.returns-in-Some
returns-in-Some c = λ yes.
    let code = c.args.code.now in
    let m = machine_of c.args.frames.now in
    let b = c.in-Some.block.now in
    let found = c.in-Some.ensures.lookup.3 in
    let at_work : instructions_in code m.top.block ≡ Some c.items-instructions.result.now =
    work_of code c.parts.result.now c.items.result.now m.top.block b c.parts.ensures.parts c.items.ensures found.0 (found.1 b) ∙ ap Some (sym c.items-instructions.ensures) in
    advanced_to_end code m c.items-instructions.result.now c.through_jump-place.result c.args.frames.now at_work c.through_jump-place.ensures (c.ends_at.ensures yes)
