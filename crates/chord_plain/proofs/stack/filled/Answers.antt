use Rattle.std.proofs.Common.{◌≡◌, ◌-◌, ◌≤◌, ◌++◌, length, Some, replicate, ap, sym, ◌∙◌, arith}
use Rattle.chord_base.specs.declared.value.Value.TheVariants as a_value
use Rattle.chord_vm.proofs.Slots.{slots_of_fits}
use Rattle.chord_plain.proofs.Popping.{too_many}
use Rattle.chord_plain.proofs.stack.filled.Goals as goal

pub returns-then-len-n : goal.returns-then-len-n
returns-then-len-n c = sym (too_many c.args.n c.args.values.items (omega (arith, c.if-len-n.true, c.len.ensures, c.args.values.ok.0)))

pub returns : goal.returns
returns c =
    let le : length c.args.values.items ≤ c.args.n = omega (arith, c.if-len-n.false, c.len.ensures, c.args.values.ok.0) in
    let k : c.args.n - length c.args.values.items ≡ c.loop.counter = omega (arith, c.loop-test.false, c.loop.auto.counter-end, c.len-2.ensures, c.len.ensures, c.args.values.ok.0) in
    ap Some c.loop.invariant ∙ sym (slots_of_fits c.args.n c.args.values.items le ∙ ap (λ n. Some (c.args.values.items ++ replicate n a_value.Unit)) k)
