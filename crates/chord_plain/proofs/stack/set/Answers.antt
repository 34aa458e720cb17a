use Rattle.std.proofs.Common.{arith}
use Rattle.chord_vm.proofs.Slots.{slots_past, slots_set}
use Rattle.chord_plain.proofs.stack.set.Goals as goal

pub returns-then-i-len : goal.returns-then-i-len
returns-then-i-len c = slots_past c.args.i c.args.value c.args.slots.now.items (omega (arith, c.if-i-len.true, c.len.ensures, c.args.slots.now.ok.0))

pub returns : goal.returns
returns c = slots_set c.args.i c.args.value c.args.slots.now.items (omega (arith, c.if-i-len.false, c.len.ensures, c.args.slots.now.ok.0))
