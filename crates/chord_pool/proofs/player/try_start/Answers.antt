use Rattle.std.proofs.Common.{◌≡◌, ◌∙◌, sym, false, rules}
use Rattle.chord_roll.specs.Cards.{counts}
use Rattle.chord_space.specs.Desks.{view}
use Rattle.chord_worker.proofs.Resting.{saw_ready}
use Rattle.chord_pool.proofs.Looking.{seen_twice, among_once, among_twice, through_once, through_twice, plays_since, began_unready, began_ready, began_once, began_and_ended, ended_once}
use Rattle.chord_pool.proofs.player.try_start.Goals as goal

pub start_at_work-started-requires-clause-ready : goal.start_at_work-started-requires-clause-ready
start_at_work-started-requires-clause-ready g c =
    let look = c.look.ensures.seen in
    saw_ready (view c.args.worker.now.desk) (view c.look.new.self.desk) c.args.i look.0 look.2.seen (sym look.1 ∙ c.in-Ready.is)

pub returns-else-not-started-clause-seen : goal.returns-else-not-started-clause-seen
returns-else-not-started-clause-seen g c = λ e.
    let look = c.look.ensures.seen in
    seen_twice (view c.args.worker.now.desk) (view c.look.new.self.desk) (view c.start_at_work-started.new.worker.desk) c.args.i look.0 look.2 (c.start_at_work-started.ensures.refused e)

pub returns-else-not-started-clause-plays : goal.returns-else-not-started-clause-plays
returns-else-not-started-clause-plays g c = λ e.
    plays_since g.G.Gate.knows c.args.worker.now c.look.new.self c.start_at_work-started.new.worker c.args.i c.requires.idle c.look.ensures.seen.2.kept (c.start_at_work-started.ensures.plays e)

pub returns-then-not-was_at_work-clause-seen : goal.returns-then-not-was_at_work-clause-seen
returns-then-not-was_at_work-clause-seen g c = λ e.
    let look = c.look.ensures.seen in
    seen_twice (view c.args.worker.now.desk) (view c.look.new.self.desk) (view c.start_at_work-started.new.worker.desk) c.args.i look.0 look.2 (c.start_at_work-started.ensures.refused e)

pub returns-else-not-started-clause-through : goal.returns-else-not-started-clause-through
returns-else-not-started-clause-through g c =
    let look = c.look.ensures.seen in
    through_twice (view c.args.worker.now.desk) (view c.look.new.self.desk) (view c.start_at_work-started.new.worker.desk) c.args.i look.0 (sym look.1 ∙ c.in-Ready.is) look.2.seen c.start_at_work-started.ensures.once

pub returns-then-not-was_at_work-clause-through : goal.returns-then-not-was_at_work-clause-through
returns-then-not-was_at_work-clause-through g c =
    let look = c.look.ensures.seen in
    through_twice (view c.args.worker.now.desk) (view c.look.new.self.desk) (view c.start_at_work-started.new.worker.desk) c.args.i look.0 (sym look.1 ∙ c.in-Ready.is) look.2.seen c.start_at_work-started.ensures.once

pub returns-in_default-clause-through : goal.returns-in_default-clause-through
returns-in_default-clause-through g c =
    let look = c.look.ensures.seen in
    through_once (view c.args.worker.now.desk) (view c.look.new.self.desk) c.args.i look.0 (λ ready. c.in_default.not-Ready (look.1 ∙ ready)) look.2.seen

pub returns-else-not-started-clause-among : goal.returns-else-not-started-clause-among
returns-else-not-started-clause-among g c =
    let look = c.look.ensures.seen in
    among_twice (view c.args.worker.now.desk) (view c.look.new.self.desk) (view c.start_at_work-started.new.worker.desk) c.args.i
    (among_once (view c.args.worker.now.desk) (view c.look.new.self.desk) c.args.i look.0 look.2.seen) c.start_at_work-started.ensures.among

pub returns-then-not-was_at_work-clause-among : goal.returns-then-not-was_at_work-clause-among
returns-then-not-was_at_work-clause-among g c =
    let look = c.look.ensures.seen in
    among_twice (view c.args.worker.now.desk) (view c.look.new.self.desk) (view c.start_at_work-started.new.worker.desk) c.args.i
    (among_once (view c.args.worker.now.desk) (view c.look.new.self.desk) c.args.i look.0 look.2.seen) c.start_at_work-started.ensures.among

pub returns-in_default-clause-among : goal.returns-in_default-clause-among
returns-in_default-clause-among g c = let look = c.look.ensures.seen in among_once (view c.args.worker.now.desk) (view c.look.new.self.desk) c.args.i look.0 look.2.seen

pub returns-else-not-started-clause-began : goal.returns-else-not-started-clause-began
returns-else-not-started-clause-began g c =
    let look = c.look.ensures.seen in
    began_ready (view c.args.worker.now.desk) (view c.look.new.self.desk) (view c.start_at_work-started.new.worker.desk) c.args.i look.0 c.args.card.now c.begin.new.self
    (sym look.1 ∙ c.in-Ready.is) look.2.seen c.start_at_work-started.ensures.once (began_once c.args.card.now c.begin.new.self c.begin.ensures.counts c.begin.ensures.ended)

pub returns-then-not-was_at_work-clause-began : goal.returns-then-not-was_at_work-clause-began
returns-then-not-was_at_work-clause-began g c =
    let look = c.look.ensures.seen in
    let not : counts c.args.card.now ≡ false = search rules in
    began_ready (view c.args.worker.now.desk) (view c.look.new.self.desk) (view c.start_at_work-started.new.worker.desk) c.args.i look.0 c.args.card.now c.end.new.self
    (sym look.1 ∙ c.in-Ready.is) look.2.seen c.start_at_work-started.ensures.once
    (began_and_ended c.args.card.now c.end.new.self not c.end.ensures.counts (ended_once c.args.card.now c.begin.new.self c.end.new.self c.begin.ensures.counts c.begin.ensures.ended c.end.ensures.ended))

pub returns-in_default-clause-began : goal.returns-in_default-clause-began
returns-in_default-clause-began g c =
    let look = c.look.ensures.seen in
    began_unready (view c.args.worker.now.desk) (view c.look.new.self.desk) c.args.i look.0 c.args.card.now (λ ready. c.in_default.not-Ready (look.1 ∙ ready)) look.2.seen
