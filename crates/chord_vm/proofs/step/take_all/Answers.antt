use Rattle.std.proofs.Common.{arith}
use Rattle.chord_vm.proofs.Slots.{pops_fits}
use Rattle.chord_vm.proofs.step.take_all.Goals as goal

pub move_last-requires-clause-some : goal.move_last-requires-clause-some
move_last-requires-clause-some c =
    let r = pops_fits c.args.n c.args.frame.now.stack.items c.requires.some in
    omega (arith, r, c.args.frame.now.stack.ok.0)
