use Rattle.std.proofs.Common.{◌≡◌, ◌+◌, ◌<◌, length, get_or, drop, sym, ap, ◌∙◌, arith}
use Rattle.chord_run.specs.Positions.{breaks_after}
use Rattle.chord_run.proofs.Breaks.{comes_to_line, comes_to_column}
use Rattle.chord_run.proofs.position.position_at.Goals as goal
use Rattle.chord_run.proofs.position.position_at.Goals.{then-ends_after, else-ends_after}

pub loop-i-preserved : goal.loop-i-preserved
loop-i-preserved c =
    let within : c.loop-i.i < length c.args.text.now = omega arith in
    let ends : breaks_after (get_or c.args.text.now c.loop-i.i 0) (drop (c.loop-i.i + 1) c.args.text.now) ≡ c.ends_after.result = ap (λ x. breaks_after (get_or c.args.text.now c.loop-i.i 0) x) (sym c.split_at.ensures.back) ∙ sym c.ends_after.ensures in
    elim c.if-ends_after.branch [
      | then-ends_after w ↦ rw w.place-is (comes_to_line c.args.text.now c.loop-i.i 0 c.loop-i.place c.loop-i.invariant within (ends ∙ w.if-ends_after.true))
      | else-ends_after w ↦ rw w.place-is (comes_to_column c.args.text.now c.loop-i.i 0 c.loop-i.place c.loop-i.invariant within (ends ∙ w.if-ends_after.false))
    ]
