use Rattle.std.proofs.Common.{◌≡◌, suc, ◌+◌, ◌∷◌, Some, ap, ◌∙◌, refl, arith, rules, to_z, of_z, w32}
use Rattle.std.specs.Prelude.{slice_get}
use Rattle.chord_base.specs.declared.value.Value.TheVariants as a_value
use Rattle.chord_code.specs.declared.instruction.Instruction.TheVariants as instr
use Rattle.chord_code.specs.Machine.{Goes, act, with_top}
use Rattle.chord_vm.specs.Frames.{machine_of, with_pushed}
use Rattle.chord_vm.proofs.Advance.{first_of, fetch_at, number_pushed, value_pushed}
use Rattle.chord_vm.proofs.fused.branches_at_once.Goals as goal

pub returns-in-Some-compared_at-clause-yes : goal.returns-in-Some-compared_at-clause-yes
returns-in-Some-compared_at-clause-yes c = λ yes.
    let code = c.args.parts.now in
    let m = machine_of c.args.frames.now in
    let xs = c.args.instructions.now in
    let left = a_value.Int (to_z w32 (of_z w32 c.in-Some.left)) in
    let known : c.in-Some.left ≡ to_z w32 (of_z w32 c.in-Some.left) = search (rules, c.number_in.type_inv, c.in-Some.is) in
    let right = to_z w32 (of_z w32 c.args.right) in
    let same : c.args.right ≡ right = search (rules, c.ranges.right.sfits) in
    let loaded = with_pushed left m in
    let both = with_pushed (a_value.Int right) loaded in
    let flag = a_value.Flag c.in-Some-compared_at.flag in
    let compared = with_top m (suc (suc (suc m.top.place))) (flag ∷ m.top.stack) m.top.slots m.turns in
    let n = machine_of c.branch_at.new.frames in
    let third : suc (suc m.top.place) ≡ c.args.frames.now.top.place + 2 = omega arith in
    let fourth : suc (suc (suc m.top.place)) ≡ c.args.frames.now.top.place + 3 = omega arith in
    first_of code 3 m loaded (Goes n) (value_pushed code m c.args.slot left c.requires.load (c.in-Some.ensures ∙ ap (λ k. Some (a_value.Int k)) known))
    (first_of code 2 loaded both (Goes n) (number_pushed code loaded right (c.requires.number ∙ ap (λ k. Some (instr.Int k)) same))
    (first_of code 1 both compared (Goes n) (ap (λ o. act code o both) (fetch_at code both xs c.requires.here ∙ ap (slice_get xs) third) ∙ c.in-Some-compared_at.ensures.compares code m)
    (first_of code 0 compared n (Goes n) (ap (λ o. act code o compared) (fetch_at code compared xs c.requires.here) ∙ ap (λ p. act code (slice_get xs p) (with_top m p (flag ∷ m.top.stack) m.top.slots m.turns)) fourth ∙ c.branch_at.ensures.yes yes code) refl)))
