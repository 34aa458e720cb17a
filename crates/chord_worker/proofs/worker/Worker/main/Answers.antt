use Rattle.std.proofs.Common.{rules, ◌≡◌, ℕ, length, List, [], ◌∷◌, refl, ap, ◌∙◌, subst}
use Rattle.chord_base.specs.declared.event.Entry.{Entry}
use Rattle.chord_base.specs.declared.event.Limits.{Limits}
use Rattle.chord_base.specs.declared.event.What.TheVariants.{Begun}
use Rattle.chord_base.specs.Story.{IsSound}
use Rattle.chord_code.specs.declared.parts.Parts.{Parts}
use Rattle.chord_code.specs.Meaning.{code_program}
use Rattle.chord_rule.specs.declared.view.View.{View}
use Rattle.chord_rule.specs.Kinds.{entry}
use Rattle.chord_space.specs.Desks.{space_code}
use Rattle.chord_task.specs.declared.task.Task.{Task}
use Rattle.chord_task.specs.Standing.{view_of}
use Rattle.chord_worker.proofs.Starting.{main_starts}
use Rattle.chord_worker.proofs.worker.Worker.main.Goals as goal

pub main_task-requires : goal.main_task-requires
main_task-requires c = main_starts c.args.code.now c.args.limits.now
    (subst (λ (k : Parts). IsSound (code_program k c.args.limits.now)) c.requires.code.0
    (subst (λ (l : Limits). IsSound (code_program (space_code c.args.space.now) l)) c.requires.code.1 c.requires.sound))

pub returns : goal.returns
returns c =
    let n = c.in-Ok.field-0 in
    let came = c.in-Ok.ensures.came in
    let first : n ≡ 0 = came.1.1.numbered ∙ ap (λ (h : List Entry). length h) came.1.1.comes.0 in (
      search rules,
      search rules,
      search rules,
      search rules,
      record {
        plays = (c.in_ok-task-2.task, refl, ap (λ (t : Task). (view_of t).top) c.in_ok-task-2.ensures ∙ c.in_ok-task.ensures.top);
        room = refl;
        drawn = ap (λ (z : View). z.draws) c.in-Ok.ensures.drawn.1 ∙ ap (λ (v : View). entry n 0 Begun ∷ v.draws) c.requires.desk.1 ∙ ap (λ (k : ℕ). entry k 0 Begun ∷ []) first;
      },
      refl,
      search rules,
    )
