use Rattle.std.proofs.Common.{◌≡◌, ◌+◌, ◌*◌, ◌<◌, ◌/◌, ◌%◌, refl, sym, ap, ◌∙◌, Some, arith}
use Rattle.chord_tree.specs.View.{tree_of}
use Rattle.chord_types.proofs.program.told.Goals as goal

pub returns-in_default-clause-free : goal.returns-in_default-clause-free
returns-in_default-clause-free c = (c.least.ensures (tree_of c.args.program.now)).none (sym c.requires ∙ c.in_default.is)

pub returns-clause-fault : goal.returns-clause-fault
returns-clause-fault c =
    let key = c.in-Some.key in
    let e : c.in-Some.key ≡ 32 * (c.in-Some.key / 32) + c.in-Some.key % 32 = omega arith in
    let l : c.in-Some.key % 32 < 32 = omega arith in
    (c.least.ensures (tree_of c.args.program.now)).some (c.in-Some.key % 32) (c.in-Some.key / 32) (sym c.requires ∙ c.in-Some.is ∙ ap Some e) l

pub returns-clause-rule : goal.returns-clause-rule
returns-clause-rule c = (c.in-Some.key, c.in-Some.is, refl)
