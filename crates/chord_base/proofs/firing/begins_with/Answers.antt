use Rattle.std.proofs.Common.{◌++◌, length, take, drop, sym, ap, ◌∙◌}
use Rattle.std.proofs.lemmas.List.{take-append-drop}
use Rattle.std.proofs.Math.Seq.{take-append_seam}
use Rattle.chord_base.proofs.firing.begins_with.Goals as goal

pub returns-then-first-values : goal.returns-then-first-values
returns-then-first-values c =
    let x = c.same_values.ensures in
    let values = c.args.values.now in
    let first = c.args.first.now in (
      λ t. (
        drop (length first) values,
        sym (take-append-drop (length first) values) ∙ ap (λ z. z ++ drop (length first) values) (x.0 t),
      ),
      λ r. x.1 (ap (take (length first)) r.1 ∙ take-append_seam first r.0),
    )
