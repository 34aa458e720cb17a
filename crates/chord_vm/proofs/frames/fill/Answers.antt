use Rattle.std.proofs.Common.{◌≡◌, ◌≤◌, ◌∷◌, [], arith, length}
use Rattle.std.proofs.lemmas.Grind.{common_steps}
use Rattle.chord_vm.proofs.Moves.{filled}
use Rattle.chord_vm.proofs.frames.fill.Goals as goal

pub returns-clause-moved : goal.returns-clause-moved
returns-clause-moved c =
    let first : c.push_reserved.new.self.items ≡ c.args.this ∷ [] = grind (arith, common_steps) in
    let le : c.args.k ≤ length c.args.from.now.items = omega (arith, c.requires.some, c.args.from.now.ok.0) in
    filled c.args.n c.args.k c.args.this c.args.from.now.items c.move_last.new.from.items c.move_last.new.to.items c.pad.new.slots.items c.requires.fits le (rw first at c.move_last.ensures.moved) c.pad.ensures.items
