use Rattle.std.proofs.lemmas.Bool.Decides.{same_from_decides}
use Rattle.chord_base.specs.Called.{start_of}
use Rattle.chord_base.specs.Listed.{equal_starts}
use Rattle.chord_base.proofs.Same.{start_decided}
use Rattle.chord_base.proofs.listed.starts_so.Goals as goal

pub returns : goal.returns
returns c =
    let s = start_of c.args.left.now in
    let t = start_of c.args.right.now in
    same_from_decides c.same_start.result (equal_starts s t) c.same_start.ensures (start_decided s t)
