use Rattle.std.proofs.Common.{◌≡◌, suc, ◌+◌, ◌∷◌, Some, ap, ◌∙◌, sym, refl, arith, rules, to_z, of_z, w32}
use Rattle.std.specs.Prelude.{slice_get}
use Rattle.chord_base.specs.Operators.{Is, compute}
use Rattle.chord_base.specs.declared.value.Value.TheVariants as a_value
use Rattle.chord_code.specs.declared.instruction.Instruction.TheVariants as instr
use Rattle.chord_code.specs.Machine.{Goes, act, with_top, operate, pushes, store_top}
use Rattle.chord_vm.specs.Frames.{machine_of, with_pushed}
use Rattle.chord_vm.proofs.Advance.{first_of, fetch_at, number_pushed}
use Rattle.chord_vm.proofs.Slots.{below_top}
use Rattle.chord_vm.proofs.fused.stores_at_once.Goals as goal

pub store_number-requires-clause-some : goal.store_number-requires-clause-some
store_number-requires-clause-some c =
    let left = c.in-Some-number_on_top.left in
    let on_top = below_top (a_value.Int left) (machine_of c.args.frames.now).top.stack c.in-Some-number_on_top.ensures in
    (left, on_top.0, on_top.1)

pub returns-in-Some-result_of-clause-yes : goal.returns-in-Some-result_of-clause-yes
returns-in-Some-result_of-clause-yes c = λ yes.
    let code = c.args.parts.now in
    let m = machine_of c.args.frames.now in
    let xs = c.args.instructions.now in
    let kept = c.store_number.ensures.yes yes in
    let right = to_z w32 (of_z w32 c.args.right) in
    let same : c.args.right ≡ right = search (rules, c.ranges.right.sfits) in
    let pushed = with_pushed (a_value.Int right) m in
    let result = a_value.Int (to_z w32 (of_z w32 c.in-Some-result_of.number)) in
    let left = a_value.Int (to_z w32 (of_z w32 c.in-Some-number_on_top.left)) in
    let known : c.in-Some-number_on_top.left ≡ to_z w32 (of_z w32 c.in-Some-number_on_top.left) = search (rules, c.number_on_top.type_inv, c.in-Some-number_on_top.is) in
    let given : c.in-Some-result_of.number ≡ to_z w32 (of_z w32 c.in-Some-result_of.number) = search (rules, c.result_of.type_inv, c.in-Some-result_of.is) in
    let computed = with_top m (suc (suc m.top.place)) (result ∷ kept.1) m.top.slots m.turns in
    let n = machine_of c.store_number.new.frames in
    let third : suc (suc m.top.place) ≡ c.args.frames.now.top.place + 2 = omega arith in
    let top : Some kept.0 ≡ Some left = ap (λ s. slice_get s 0) (sym kept.2) ∙ c.in-Some-number_on_top.ensures ∙ ap (λ k. Some (a_value.Int k)) known in
    let on_top : kept.0 ≡ left = cc in
    first_of code 2 m pushed (Goes n) (number_pushed code m right (c.requires.number ∙ ap (λ k. Some (instr.Int k)) same))
    (first_of code 1 pushed computed (Goes n)
    (c.requires.operator pushed ∙ ap (λ s. operate c.args.operation pushed (a_value.Int right ∷ s)) kept.2
    ∙ ap (λ v. pushes pushed kept.1 (compute c.args.operation v (a_value.Int right))) on_top
    ∙ ap (pushes pushed kept.1) (c.in-Some-result_of.ensures ∙ ap (λ k. Is (a_value.Int k)) given))
    (first_of code 0 computed n (Goes n)
    (ap (λ o. act code o computed) (fetch_at code computed xs c.requires.here ∙ ap (slice_get xs) third ∙ c.in-Some.ensures.slot)
    ∙ ap (λ p. store_top c.in-Some.slot (with_top m p (result ∷ kept.1) m.top.slots m.turns) (result ∷ kept.1)) third ∙ kept.3) refl))
