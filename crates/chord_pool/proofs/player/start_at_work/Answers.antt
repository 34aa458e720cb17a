use Rattle.std.proofs.Common.{ap}
use Rattle.chord_rule.specs.declared.view.Looked.{Looked}
use Rattle.chord_space.specs.Desks.{view}
use Rattle.chord_pool.proofs.Looking.{refused_once, looked_refused, looked_started, among_once}
use Rattle.chord_pool.proofs.player.start_at_work.Goals as goal

pub returns-clause-refused : goal.returns-clause-refused
returns-clause-refused g c = λ e. let refused = c.start.ensures.refused e in refused_once (view c.args.worker.now.desk) (view c.start.new.self.desk) c.args.i refused.0 refused.1 refused.3 refused.2

pub returns-clause-once : goal.returns-clause-once
returns-clause-once g c =
    let once = c.start.ensures.once in
    looked_started c.start.result (view c.args.worker.now.desk) (view c.start.new.self.desk) c.args.i
    (λ e. let refused = c.start.ensures.refused e in looked_refused (view c.args.worker.now.desk) (view c.start.new.self.desk) c.args.i refused.0 refused.1 refused.3 refused.2) once.0 once.1 once.2

pub returns-clause-among : goal.returns-clause-among
returns-clause-among g c = let once = c.start.ensures.once in among_once (view c.args.worker.now.desk) (view c.start.new.self.desk) c.args.i once.0 (ap (λ (l : Looked). l.seen) once.2)
