use Rattle.std.proofs.Common.{◌≡◌, drop}
use Rattle.chord_base.specs.Bodies.{served_among}
use Rattle.chord_code.specs.Meaning.{method_is_sync}
use Rattle.chord_lists.proofs.code_bodies.served_by.Given as goal

abbrev pub invariant-loop-i : goal.invariant-loop-i
invariant-loop-i l = served_among (method_is_sync l.code l.class) l.methods l.numbers ≡ served_among (method_is_sync l.code l.class) (drop l.i l.methods) (drop l.i l.numbers)
