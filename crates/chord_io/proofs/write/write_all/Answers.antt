-- Each write takes the next front of the piece.
use Rattle.std.proofs.Common.{◌∙◌, arith, length-drop}
use Rattle.std.proofs.Math.Seq.{take-add}
use Rattle.std.proofs.lemmas.List.{take_rest}
use Rattle.chord_io.proofs.Joined.{Took-join}
use Rattle.chord_io.proofs.write.write_all.Goals as goal

pub loop-taken-preserved : goal.loop-taken-preserved
loop-taken-preserved g c =
    let taken = c.loop-taken.taken in
    let took = rw (take_rest c.args.piece.now taken) at c.in_ok-count.ensures.took in
    record {
      within = omega (arith, c.in_ok-count.ensures.within, length-drop taken c.args.piece.now);
      took = rw (take-add taken c.in_ok-count.count c.args.piece.now) (Took-join _ _ _ _ _ c.loop-taken.invariant.took took);
      unfailed = c.in_ok-count.ensures.unfailed ∙ c.loop-taken.invariant.unfailed;
    }
