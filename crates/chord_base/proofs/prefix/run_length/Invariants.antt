use Rattle.std.proofs.Common.{reverse, take}
use Rattle.chord_base.specs.Machine.{IsPast}
use Rattle.chord_base.specs.BodyTable.{IsTable}
use Rattle.chord_base.proofs.prefix.run_length.Given as goal

abbrev pub invariant-loop-i : goal.invariant-loop-i
invariant-loop-i g l =
    let p = g.M.Meaning.program l.meaning in
    let h = reverse (take l.i l.entries) in
    record { past : IsPast p h; table : IsTable p h l.bodies.items }
