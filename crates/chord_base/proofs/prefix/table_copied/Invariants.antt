use Rattle.std.proofs.Common.{◌≡◌, map, take}
use Rattle.chord_base.specs.BodyTable.{doing_of}
use Rattle.chord_base.proofs.prefix.table_copied.Given as goal

abbrev pub invariant-loop-body : goal.invariant-loop-body
invariant-loop-body l = map doing_of l.copy.items ≡ map doing_of (take l.body-index l.bodies)
