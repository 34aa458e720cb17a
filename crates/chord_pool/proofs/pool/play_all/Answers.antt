use Rattle.std.proofs.Common.{◌≡◌, ◌∙◌, sym, subst}
use Rattle.chord_space.specs.Desks.{view}
use Rattle.chord_worker.specs.Stepping.{PlaysMain}
use Rattle.chord_worker.specs.declared.worker.Worker.{Worker}
use Rattle.chord_pool.specs.Ending.{IsLast}
use Rattle.chord_pool.specs.Players.{HavePlayedTogether}
use Rattle.chord_pool.proofs.Crews.{crew_begins}
use Rattle.chord_pool.proofs.pool.play_all.Goals as goal
use Rattle.chord_pool.proofs.pool.play_all.Goals.{then-workers-eq1, else-workers-eq1+in_ok-last}

pub play_together-requires-clause-main : goal.play_together-requires-clause-main
play_together-requires-clause-main g c =
    let now = c.in_ok-main.ensures in λ κs inside. crew_begins c.args.run.now.space.now (view c.args.desk) c.in_ok-main.main c.requires.desk.1 now.0 now.1 now.2 now.3

pub returns-clause-alone : goal.returns-clause-alone
returns-clause-alone g c =
    let Shared : Worker → Type 0 = λ w. IsLast c.args.run.now.space.now w × (main : Worker) × PlaysMain main × HavePlayedTogether g.G.Gate.knows c.args.run.now.space.now c.args.workers main w in
    let off = c.in_ok-last-2.ensures.off in (
      off.0,
      λ one.
          let main_is : c.if-workers-eq1.last ≡ c.in_ok-main.main = elim c.if-workers-eq1.branch [ then-workers-eq1 w ↦ w.last-is | else-workers-eq1+in_ok-last w ↦ absurd (w.if-workers-eq1.false one) ] in
          subst PlaysMain (sym (off.1 ∙ main_is)) c.in_ok-main.ensures.4,
      λ several.
          let back : Shared c.if-workers-eq1.last = elim c.if-workers-eq1.branch [ then-workers-eq1 w ↦ absurd (several w.if-workers-eq1.true) | else-workers-eq1+in_ok-last w ↦ subst Shared (sym w.last-is) (w.in_ok-last.ensures.last, c.in_ok-main.main, c.in_ok-main.ensures.4, w.in_ok-last.ensures.together) ] in
          subst Shared (sym off.1) back,
      off.2,
      off.3,
    )
