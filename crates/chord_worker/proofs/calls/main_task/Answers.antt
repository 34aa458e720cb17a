use Rattle.std.proofs.Common.{List, ◌++◌, ◌∷◌, [], ◌∙◌, ap}
use Rattle.chord_base.specs.declared.event.Entry.{Entry}
use Rattle.chord_base.specs.declared.event.What.TheVariants.{Begun}
use Rattle.chord_worker.proofs.calls.main_task.Goals as goal

pub returns-clause-listed : goal.returns-clause-listed
returns-clause-listed c = c.in_ok-main.ensures.listed ∙ ap (λ (es : List Entry). es ++ record { number = 0; body = 0; what = Begun } ∷ []) c.reserve.ensures.items
