use Rattle.std.proofs.Common.{◌≡◌, refl, sym, ap, ◌∙◌, subst, Some, None, inl, inr}
use Rattle.chord_base.specs.declared.event.Limits.{Limits}
use Rattle.chord_code.specs.declared.parts.Parts.{Parts}
use Rattle.chord_rule.specs.declared.view.View.{View}
use Rattle.chord_space.specs.Desks.{view, space_code, space_limits, program_of}
use Rattle.chord_space.specs.Gives.{MayPost}
use Rattle.chord_task.specs.Parcels.{IsParcelOf}
use Rattle.chord_task.specs.Standing.{IsTaskOf}
use Rattle.chord_worker.proofs.Beginning.{kept_posted, may_post, no_task, a_task, rest_played, rest_posted, role_posted}
use Rattle.chord_worker.proofs.Stepping.{plays_it}
use Rattle.chord_worker.proofs.worker.Worker.take_on.Goals as goal

pub returns-then-is_none-clause-rest : goal.returns-then-is_none-clause-rest
returns-then-is_none-clause-rest g c = rest_played _ _ _ _ _ c.requires.begun.1 (no_task c.args.self.now.task c.if-is_none.ensures)

pub returns-then-is_none-clause-role : goal.returns-then-is_none-clause-role
returns-then-is_none-clause-role g c = record { first = refl; lent = refl; splits = refl; drawn = λ e. e }

pub packed-parcel-requires-clause-task : goal.packed-parcel-requires-clause-task
packed-parcel-requires-clause-task g c =
    subst (λ (x : Parts). IsTaskOf x c.args.limits.now c.args.task) (sym c.requires.code) (subst (λ (l : Limits). IsTaskOf (space_code c.args.space.now) l c.args.task) (sym c.requires.limits) c.requires.begun.1.task)

pub packed-parcel-requires-clause-left : goal.packed-parcel-requires-clause-left
packed-parcel-requires-clause-left g c = λ e. let z : Some c.args.number ≡ None = sym c.requires.begun.1.top ∙ e in cc

pub post-requires-clause-post : goal.post-requires-clause-post
post-requires-clause-post g c = subst (MayPost (program_of c.args.space.now) (view c.args.self.now.desk) c.args.number) (sym c.packed-parcel.ensures.entries) (may_post _ _ _ _ _ c.requires.begun.1)

pub post-requires-clause-task : goal.post-requires-clause-task
post-requires-clause-task g c =
    subst (λ (x : Parts). IsParcelOf c.packed-parcel.result x (space_limits c.args.space.now)) c.requires.code (subst (λ (l : Limits). IsParcelOf c.packed-parcel.result c.args.code.now l) c.requires.limits c.packed-parcel.ensures.keeps)

pub returns-clause-desk : goal.returns-clause-desk
returns-clause-desk g c = c.post.ensures.desk.0 ∙ c.requires.begun.1.desk

pub returns-clause-rest : goal.returns-clause-rest
returns-clause-rest g c = rest_posted _ _ _ _ _ c.requires.begun.1 c.post.new.desk c.post.ensures.desk _ c.packed-parcel.ensures.entries _ c.post.ensures.posted

pub returns-clause-role : goal.returns-clause-role
returns-clause-role g c = role_posted _ _ _ _ _ c.requires.begun.1 c.post.new.desk c.post.ensures.desk _ c.packed-parcel.ensures.entries _ c.post.ensures.posted

pub returns-then-is_none-clause-taken : goal.returns-then-is_none-clause-taken
returns-then-is_none-clause-taken g c = λ v b. inr (plays_it g.G.Gate.knows _ _ _ _ _ b c.started.ensures.told (no_task c.args.self.now.task c.if-is_none.ensures))

pub returns-clause-taken : goal.returns-clause-taken
returns-clause-taken g c = λ v b. inl (a_task c.args.self.now.task c.if-is_none.ensures, (refl, kept_posted _ _ _ _ _ b c.post.new.desk c.post.ensures.desk _ c.packed-parcel.ensures.entries _ c.post.ensures.posted))

pub returns-clause-undrawn : goal.returns-clause-undrawn
returns-clause-undrawn g c = ap (λ (z : View). z.draws) c.post.ensures.posted
