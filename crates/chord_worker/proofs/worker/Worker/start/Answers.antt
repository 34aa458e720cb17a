use Rattle.std.proofs.Common.{◌≡◌, true, false, None, refl, ap}
use Rattle.chord_rule.specs.declared.view.View.{View}
use Rattle.chord_rule.specs.Tells.{a_word}
use Rattle.chord_word.specs.declared.cells.Cell.TheVariants.{Started}
use Rattle.chord_worker.proofs.Starting.{rest_started, role_started, plays_started}
use Rattle.chord_worker.proofs.worker.Worker.start.Goals as goal

pub returns-in-Ok-clause-rest : goal.returns-in-Ok-clause-rest
returns-in-Ok-clause-rest g c =
    let s = c.args.space.now in
    let w = c.args.self.now in
    let q = c.in-Ok.parcel in
    rw c.open-task.ensures (
      rest_started s w c.requires.rest c.requires.task c.requires.room c.start.new.desk c.start.ensures.desk q c.args.i _ c.in-Ok.ensures.started c.in-Ok.ensures.parcel c.in-Ok.ensures.comes,
      role_started s w c.requires.rest c.requires.task c.requires.room c.start.new.desk c.start.ensures.desk q c.args.i _ c.in-Ok.ensures.started c.in-Ok.ensures.parcel c.in-Ok.ensures.comes,
    )

pub returns-in-Ok-clause-plays : goal.returns-in-Ok-clause-plays
returns-in-Ok-clause-plays g c = λ e.
    rw c.open-task.ensures (plays_started c.args.space.now c.args.self.now c.requires.rest c.requires.task c.requires.room c.start.new.desk c.start.ensures.desk c.in-Ok.parcel c.args.i _ c.in-Ok.ensures.started c.in-Ok.ensures.parcel c.in-Ok.ensures.comes g.G.Gate.knows c.started.ensures.told)

pub returns-in-Ok-clause-once : goal.returns-in-Ok-clause-once
returns-in-Ok-clause-once g c = (a_word Started None, λ e. refl, ap (λ (z : View). z.looked) c.in-Ok.ensures.started)

pub returns-in-Err-clause-once : goal.returns-in-Err-clause-once
returns-in-Err-clause-once g c =
    let r = c.in-Err.ensures.refused in
    (a_word c.in-Err.field-0 r.1.0, λ e. let z : false ≡ true = e in absurd (cc), ap (λ (z : View). z.looked) r.1.1)

pub returns-in-Ok-clause-undrawn : goal.returns-in-Ok-clause-undrawn
returns-in-Ok-clause-undrawn g c = ap (λ (z : View). z.draws) c.in-Ok.ensures.started

pub returns-in-Err-clause-undrawn : goal.returns-in-Err-clause-undrawn
returns-in-Err-clause-undrawn g c = ap (λ (z : View). z.draws) c.in-Err.ensures.refused.1.1
