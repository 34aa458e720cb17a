use Rattle.std.proofs.Common.{◌<◌, sym, ap, ◌∙◌, subst, vec_len, vec_capacity}
use Rattle.chord_space.specs.Desks.{view, program_of}
use Rattle.chord_worker.proofs.Attending.{role_on}
use Rattle.chord_worker.specs.declared.worker.Worker.{Worker}
use Rattle.chord_worker.proofs.Drawn.{drew_since}
use Rattle.chord_worker.proofs.Stocked.{stocked_alike}
use Rattle.chord_worker.proofs.worker.Worker.mind_on.Goals as goal

pub loop-preserved : goal.loop-preserved
loop-preserved g c =
    let same = c.attend.ensures.same c.if-attend.false in
    let frame = c.attend.ensures.frame c.if-attend.false in (
      tt,
      tt,
      c.attend.ensures.again c.if-attend.false,
      role_on (view c.args.self.now.desk) (view c.loop.self.desk) (view c.attend.new.self.desk) c.loop.invariant.3 c.attend.ensures.role,
      c.attend.ensures.undrawn c.if-attend.false ∙ c.loop.invariant.4,
      subst (λ (w : Worker). vec_len w.draws < vec_capacity w.draws) (sym frame) c.loop.invariant.5,
      ap (λ (w : Worker). w.spare) frame ∙ c.loop.invariant.6,
      (same.0 ∙ c.loop.invariant.7.0, same.1 ∙ c.loop.invariant.7.1),
      c.attend.ensures.lists ∙ c.loop.invariant.8,
    )

pub returns-then-attend-clause-drew : goal.returns-then-attend-clause-drew
returns-then-attend-clause-drew g c = drew_since (view c.args.self.now.desk).draws (view c.loop.self.desk).draws (view c.attend.new.self.desk).draws c.loop.invariant.4 c.attend.ensures.drew

pub returns-then-attend-clause-stock : goal.returns-then-attend-clause-stock
returns-then-attend-clause-stock g c =
    stocked_alike (program_of c.args.space.now) (view c.args.self.now.desk).draws (view c.loop.self.desk).draws c.args.self.now.spare c.loop.self.spare c.attend.new.self (λ _. c.loop.invariant.6) c.attend.ensures.stock c.loop.invariant.4

pub returns-then-attend-clause-lists : goal.returns-then-attend-clause-lists
returns-then-attend-clause-lists g c = c.attend.ensures.lists ∙ c.loop.invariant.8

pub returns-then-attend-clause-played : goal.returns-then-attend-clause-played
returns-then-attend-clause-played g c = λ none still. c.attend.ensures.played (c.loop.invariant.7.0 ∙ none) still ∙ c.loop.invariant.4
