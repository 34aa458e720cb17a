use Rattle.std.proofs.Common.{◌<◌, ◌++◌, ◌∷◌, [], Bool, length, take, get_or, ap, sym, subst, arith, Vec, Global}
use Rattle.std.proofs.lemmas.List.{take_more}
use Rattle.chord_lists.specs.CodeGoes.{HasTaken}
use Rattle.chord_lists.proofs.Taken.{taken_one, taken_absent}
use Rattle.chord_lists.proofs.code_run.take_numbers.Goals.{then-at-len, else-at-len}
use Rattle.chord_lists.proofs.code_run.take_numbers.Goals as goal

pub loop-number-preserved : goal.loop-number-preserved
loop-number-preserved c =
    let ms = c.args.numbers.now in
    let k = c.loop-number.number-index in
    let lt : k < length ms = omega (arith, c.loop-number-test.true) in
    rw (take_more ms k 0 lt)
    (elim c.if-at-len.branch [
      | then-at-len w ↦ taken_one (take k ms) (get_or ms k 0) c.args.taken.now.items c.loop-number.taken.items c.if-at-len.taken.items c.loop-number.invariant (ap (λ (v : Vec Bool Global). v.items) w.taken-is)
      | else-at-len w ↦ subst (λ (v : Vec Bool Global). HasTaken (take k ms ++ get_or ms k 0 ∷ []) c.args.taken.now.items v.items) (sym w.taken-is) (taken_absent (take k ms) (get_or ms k 0) c.args.taken.now.items c.loop-number.taken.items c.loop-number.invariant (omega (arith, w.if-at-len.false, c.len.ensures, c.loop-number.taken.ok.0)))
    ])
