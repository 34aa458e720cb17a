use Rattle.std.proofs.Common.{◌≡◌, ◌+◌, ◌-◌, suc, length, arith, rules, vec_len, ◌<◌, ap, sym, ◌∙◌, to_z, of_z, w32}
use Rattle.chord_base.specs.Operators.{compute}
use Rattle.chord_base.specs.declared.value.Value.TheVariants as a_value
use Rattle.chord_vm.specs.Frames.{machine_of}
use Rattle.chord_vm.proofs.Slots.{operated}
use Rattle.chord_vm.proofs.numbers.operate_top.Goals as goal

pub returns-clause-goes : goal.returns-clause-goes
returns-clause-goes c =
    let m = machine_of c.args.frames.now in
    let items = c.args.frames.now.top.stack.items in
    let i = vec_len c.args.frames.now.top.stack - 1 in
    let same : to_z w32 (of_z w32 c.args.right) ≡ c.args.right = search (rules, c.ranges.right.sfits) in
    let some : 0 < vec_len c.args.frames.now.top.stack = search (rules, c.last_mut.ensures.variant, c.in-Some.is) in
    let last : i + 1 ≡ length items = omega (arith, some, c.args.frames.now.top.stack.ok.0) in
    let next : m.top.place + 2 ≡ suc (suc m.top.place) = omega arith in
    operated c.args.operation m (a_value.Int c.args.right) items i (m.top.place + 2) c.in-Some.left.now c.compute_at.new.left last c.in-Some.ensures.value (ap (λ n. compute c.args.operation c.in-Some.left.now (a_value.Int n)) (sym same) ∙ c.compute_at.ensures) next
