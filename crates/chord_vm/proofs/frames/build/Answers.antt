use Rattle.std.proofs.Common.{arith, Some}
use Rattle.chord_vm.specs.Frames.{machine_of}
use Rattle.chord_vm.proofs.Moves.{with_object_pops, with_object_fits}
use Rattle.chord_vm.proofs.frames.build.Goals as goal

pub fill-requires-clause-some : goal.fill-requires-clause-some
fill-requires-clause-some c =
    let r = with_object_pops (machine_of c.args.frames.now) (Some (c.args.block, c.args.slots)) c.args.object c.args.n c.args.frames.now.top.stack.items c.requires.fits in
    omega (arith, r, c.args.frames.now.top.stack.ok.0)

pub fill-requires-clause-fits : goal.fill-requires-clause-fits
fill-requires-clause-fits c = with_object_fits (machine_of c.args.frames.now) c.args.block c.args.slots c.args.object c.args.n c.args.frames.now.top.stack.items c.requires.fits
