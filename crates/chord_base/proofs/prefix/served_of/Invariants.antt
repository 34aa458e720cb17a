use Rattle.std.proofs.Common.{◌≡◌, drop}
use Rattle.chord_base.specs.Bodies.{served_among}
use Rattle.chord_base.proofs.prefix.served_of.Given as goal

abbrev pub invariant-loop-i : goal.invariant-loop-i
invariant-loop-i g l =
    let sync = (g.M.Meaning.program l.meaning).is_sync l.class in
    served_among sync l.methods l.members ≡ served_among sync (drop l.i l.methods) (drop l.i l.members)
