use Rattle.std.specs.Cmp.Lexicographic.{pointwise}
use Rattle.std.proofs.lemmas.Bool.Decides.{same_from_decides}
use Rattle.chord_base.specs.Listed.{equal_ends}
use Rattle.chord_base.proofs.Same.{ends_decided}
use Rattle.chord_base.proofs.listed.ends_so.Goals as goal

pub returns : goal.returns
returns c =
    let xs = c.args.left.now in
    let ys = c.args.right.now in
    same_from_decides c.same_ends.result (pointwise equal_ends xs ys) c.same_ends.ensures (ends_decided xs ys)
