use Rattle.std.proofs.Common.{◌+◌, length, ⊎_elim, arith, ap, ◌∙◌}
use Rattle.chord_base.specs.Machine.{IsComplete}
use Rattle.chord_code.specs.Meaning.{code_program}
use Rattle.chord_rule.specs.declared.view.View.{View}
use Rattle.chord_space.specs.declared.space.Desk.{Desk}
use Rattle.chord_space.specs.Desks.{view}
use Rattle.chord_task.specs.declared.parcel.Opened.{Opened as Parcel}
use Rattle.chord_pool.proofs.Crews.{one_run}
use Rattle.chord_pool.proofs.Endings.{ended_as}
use Rattle.chord_pool.proofs.pool.play.Goals as goal

pub play_all-requires-clause-run : goal.play_all-requires-clause-run
play_all-requires-clause-run g c = λ κs inside. one_run c.in_ok-space.space c.args.code.now c.args.limits.now c.in_ok-space.ensures.0 c.in_ok-space.ensures.1 c.requires.depth.0 c.requires.depth.1 c.requires.sound

pub returns-clause-whole : goal.returns-clause-whole
returns-clause-whole g c =
    let ended = c.in_ok-ended.ensures in
    ended_as c.in_ok-space.space c.in_ok-last.last c.in_ok-desk.desk c.args.code.now c.args.limits.now (length c.in_ok-ended.ended.0) (IsComplete (code_program c.args.code.now c.args.limits.now) c.in_ok-ended.ended.0)
    c.in_ok-last.ensures.over c.in_ok-desk.ensures.desk c.in_ok-space.ensures.0 c.in_ok-space.ensures.1 ended.whole ended.full ended.counted

pub returns-clause-short : goal.returns-clause-short
returns-clause-short g c =
    let ended = c.in_ok-ended.ensures in λ less.
    ⊎_elim (λ complete. complete) (λ full. absurd (omega (arith, less, full)))
    (ended_as c.in_ok-space.space c.in_ok-last.last c.in_ok-desk.desk c.args.code.now c.args.limits.now (length c.in_ok-ended.ended.0) (IsComplete (code_program c.args.code.now c.args.limits.now) c.in_ok-ended.ended.0)
    c.in_ok-last.ensures.over c.in_ok-desk.ensures.desk c.in_ok-space.ensures.0 c.in_ok-space.ensures.1 ended.whole ended.full ended.counted)

pub returns-clause-crew : goal.returns-clause-crew
returns-clause-crew g c = ap (λ (v : View). v.splits + 1) (c.in_ok-ended.ensures.view ∙ ap (λ (d : Desk Parcel). view d) c.in_ok-desk.ensures.desk) ∙ c.in_ok-last.ensures.crew
