use Rattle.std.proofs.Common.{ℕ, min, inr, ap, ◌∙◌, subst, refl, sym, rules}
use Rattle.chord_rule.specs.declared.view.View.{View}
use Rattle.chord_space.specs.Desks.{view, events}
use Rattle.chord_pool.specs.Ending.{HasRunOut}
use Rattle.chord_pool.specs.Players.{LookedThrough}
use Rattle.chord_pool.proofs.Looking.{through_from}
use Rattle.chord_pool.proofs.Endings.{looked_since, task_there, unlimited}
use Rattle.chord_pool.proofs.ending.Alone.turn.Goals as goal

pub returns-clause-went : goal.returns-clause-went
returns-clause-went g c = λ more.
    record {
      went = search rules;
      plays = search rules;
      drew = search rules;
      stands = search rules;
      looked = λ none.
          looked_since g.G.Gate.knows c.args.run.now.space.now c.args.self.now _ c.look.new.self none refl (ap (λ (v : View). v.kept) c.count-count.ensures.counted.2) (ap (λ (v : View). v.looked.seen) c.count-count.ensures.counted.2) (c.look.ensures.looked more);
    }

pub returns-clause-off : goal.returns-clause-off
returns-clause-off g c = λ over.
    let s = c.args.run.now.space.now in
    let v = view c.args.self.now.worker.desk in
    let u = view c.count-count.new.self.desk in
    let w = view c.look.new.self.worker.desk in
    let count = c.count-count.ensures.counted in
    let told = c.look.ensures.count over ∙ ap (λ (x : View). x.looked.count) count.2 in
    record {
      still = search rules;
      why = inr (inr (
        unlimited (events s) count.0 c.count-count.result w told count.1 (search rules),
        (
          count.0,
          told,
          through_from v u w 0 (min count.0 (events s)) (ap (λ (x : View). x.looked.seen) count.2) (subst (λ (n : ℕ). LookedThrough 0 n u w) count.1 (c.look.ensures.through over)),
        ),
      ));
    }

pub returns-in_err-step-clause-short : goal.returns-in_err-step-clause-short
returns-in_err-step-clause-short g c =
    let there = task_there c.args.self.now.worker.task (sym c.has_task.ensures ∙ c.if-has_task.true) in
    let out : HasRunOut c.args.run.now.space.now c.args.self.now.worker c.step.new.self = record { task = there.0; had = there.1; short = c.in_err-step.ensures.short; drew = c.step.ensures.drew there.0 there.1 } in
    search (rules, out)
