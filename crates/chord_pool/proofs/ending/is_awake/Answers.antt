use Rattle.std.proofs.Common.{◌≡◌, ⊎_elim, inl, inr, sym, ap, ◌∙◌, subst}
use Rattle.chord_base.proofs.Waits.{either}
use Rattle.chord_rule.specs.declared.view.View.{View}
use Rattle.chord_rule.specs.Closing.{IsAsleep}
use Rattle.chord_space.specs.Desks.{view}
use Rattle.chord_word.specs.declared.cells.Cell.TheVariants as a_cell
use Rattle.chord_worker.proofs.Resting.{saw_ready}
use Rattle.chord_pool.proofs.Looking.{plays_since, none_there, looked_refused, looked_started}
use Rattle.chord_pool.proofs.Endings.{come_by_look, come_by_start, unready_by_look, unready_told, woken_unready, task_started}
use Rattle.chord_pool.proofs.ending.is_awake.Goals as goal

pub start-requires-clause-ready : goal.start-requires-clause-ready
start-requires-clause-ready g c = let look = c.look.ensures.seen in saw_ready (view c.args.worker.now.desk) (view c.look.new.self.desk) c.args.i look.0 look.2.seen (sym look.1 ∙ c.in-Ready.is)

pub returns-in-Ready-clause-stirred : goal.returns-in-Ready-clause-stirred
returns-in-Ready-clause-stirred g c = λ e.
    let look = c.look.ensures.seen in
    ⊎_elim
    (λ started. inl (plays_since g.G.Gate.knows c.args.worker.now c.look.new.self c.start.new.self c.args.i c.requires.idle look.2.kept (c.start.ensures.plays started)))
    (λ refused.
    let r = c.start.ensures.refused refused in
    inr ((none_there c.start.new.self.task (sym c.start.ensures.task ∙ refused), ap (λ (v : View). v.kept) r.3 ∙ look.2.kept), unready_told (view c.look.new.self.desk) (view c.start.new.self.desk) c.args.i r.0 r.1 r.2 r.3))
    (either c.start.result)

pub returns-in-Ready-clause-come : goal.returns-in-Ready-clause-come
returns-in-Ready-clause-come g c = λ _.
    let look = c.look.ensures.seen in
    let ready : look.0.cell ≡ a_cell.Ready = sym look.1 ∙ c.in-Ready.is in
    let u = view c.look.new.self.desk in
    let w = view c.start.new.self.desk in
    let once = c.start.ensures.once in
    let again = looked_started c.start.result u w c.args.i (λ e. let r = c.start.ensures.refused e in looked_refused u w c.args.i r.0 r.1 r.3 r.2) once.0 once.1 once.2 in
    come_by_start (view c.args.worker.now.desk) u w c.args.i look.0 look.2 ready again

pub returns-in-Ready-clause-started : goal.returns-in-Ready-clause-started
returns-in-Ready-clause-started g c = λ none.
    ⊎_elim
    (λ started. absurd (task_started c.start.new.self.task (sym c.start.ensures.task ∙ started) none))
    (λ refused.
    let r = c.start.ensures.refused refused in
    unready_told (view c.look.new.self.desk) (view c.start.new.self.desk) c.args.i r.0 r.1 r.2 r.3)
    (either c.start.result)

pub returns-in-Woken-clause-stirred : goal.returns-in-Woken-clause-stirred
returns-in-Woken-clause-stirred g c = λ e.
    let look = c.look.ensures.seen in
    let woken : look.0.cell ≡ a_cell.Woken c.in-Woken.field-0 = sym look.1 ∙ c.in-Woken.is in
    inr ((c.look.ensures.rest.1, look.2.kept), unready_by_look (view c.args.worker.now.desk) (view c.look.new.self.desk) c.args.i look.0 look.2 (woken_unready look.0.cell c.in-Woken.field-0 woken))

pub returns-in-Woken-clause-come : goal.returns-in-Woken-clause-come
returns-in-Woken-clause-come g c = λ _.
    let look = c.look.ensures.seen in
    let woken : look.0.cell ≡ a_cell.Woken c.in-Woken.field-0 = sym look.1 ∙ c.in-Woken.is in
    come_by_look (view c.args.worker.now.desk) (view c.look.new.self.desk) c.args.i look.0 look.2 (subst IsAsleep (sym woken) tt) (woken_unready look.0.cell c.in-Woken.field-0 woken)
