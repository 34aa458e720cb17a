use Rattle.std.proofs.Common.{List, sym, ◌∙◌, subst, Vec, Global, IsPermutation}
use Rattle.chord_base.specs.declared.event.Entry.{Entry}
use Rattle.chord_space.specs.Desks.{view}
use Rattle.chord_worker.specs.Resting.{all_in}
use Rattle.chord_worker.proofs.Listed.{lists_handed_over, handed_over_alone}
use Rattle.chord_worker.proofs.worker.Worker.into_parts.Goals as goal

pub returns-clause-entries : goal.returns-clause-entries
returns-clause-entries c =
    let w = c.args.self in
    subst (λ (ts : List (Vec Entry Global)). IsPermutation (all_in ts) (view w.desk).draws) (sym c.in_ok-push.ensures.items) (lists_handed_over w.draws w.taken.items (view w.desk).draws c.requires.rest.listed)

pub returns-clause-alone : goal.returns-clause-alone
returns-clause-alone c =
    let w = c.args.self in
    λ list alone. handed_over_alone w.draws list w.taken.items (view w.desk).draws c.requires.rest.listed (sym c.in_ok-push.ensures.items ∙ alone)
