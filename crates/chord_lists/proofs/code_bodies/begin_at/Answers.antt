use Rattle.std.proofs.Common.{◌≡◌, ◌∙◌, ◌++◌, ◌∷◌, [], refl, sym, ap, subst, arith, length, take, reverse, Some, List, ℕ}
use Rattle.std.specs.Prelude.{slice_get}
use Rattle.std.proofs.lemmas.Bool.{eqb-false}
use Rattle.chord_code.proofs.Places.{set_other}
use Rattle.std.proofs.lemmas.Option.{get_or_from_slice_get, slice_get_within}
use Rattle.chord_base.specs.declared.value.Value.{Value}
use Rattle.chord_task.specs.declared.task.Task.{Task}
use Rattle.chord_task.specs.Past.{AddsOne}
use Rattle.chord_task.specs.Standing.{view_of, IsTaskOf, MayResume}
use Rattle.chord_lists.specs.Engine.{fired}
use Rattle.chord_lists.specs.CodeStands.{sent_values}
use Rattle.chord_lists.proofs.CodeFiring.{firing_sent, fired_at, host, topped_first}
use Rattle.chord_lists.proofs.CodeSteps.{listed_one}
use Rattle.chord_lists.proofs.code_bodies.begin_at.Goals as goal

pub add_all_arguments-requires-clause-there : goal.add_all_arguments-requires-clause-there
add_all_arguments-requires-clause-there c =
    let m = c.requires.may in
    rw (c.items.ensures.numbers, c.deref.ensures.value) (firing_sent c.args.code.now c.args.limits.now c.args.bodies.now m.0 c.args.number c.args.chord c.args.object c.args.members.now m.1 m.3 m.2 m.4).0

pub add_all_arguments-requires-clause-few : goal.add_all_arguments-requires-clause-few
add_all_arguments-requires-clause-few c =
    let m = c.requires.may in
    let sent = firing_sent c.args.code.now c.args.limits.now c.args.bodies.now m.0 c.args.number c.args.chord c.args.object c.args.members.now m.1 m.3 m.2 m.4 in
    let few = m.5.3.few_values in
    let l = ap (λ (ms : List ℕ). length (sent_values c.args.bodies.now.entries.items ms)) c.items.ensures.numbers ∙ ap length sent.1 in
    rw c.deref.ensures.value (omega (arith, few, l))

pub index_mut-task-requires : goal.index_mut-task-requires
index_mut-task-requires c =
    let m = c.requires.may in
    let f = m.4 in
    let k = host c.args.code.now c.args.limits.now c.args.bodies.now m.0 c.args.at c.args.number c.args.chord c.args.object c.args.members.now m.1 c.requires.sound m.3 m.2.so_long f c.requires.fits in
    let l = slice_get_within c.args.bodies.now.tasks.items c.args.at k.task k.there in
    omega (arith, l)

pub resume_with-requires-clause-task : goal.resume_with-requires-clause-task
resume_with-requires-clause-task c =
    let m = c.requires.may in
    let f = m.4 in
    let code = c.args.code.now in
    let limits = c.args.limits.now in
    let k = host code limits c.args.bodies.now m.0 c.args.at c.args.number c.args.chord c.args.object c.args.members.now m.1 c.requires.sound m.3 m.2.so_long f c.requires.fits in
    let there : slice_get c.args.bodies.now.tasks.items c.args.at ≡ Some k.task = k.there in
    let e : c.index_mut-task.result.now ≡ k.task = c.index_mut-task.ensures.value ∙ get_or_from_slice_get c.args.bodies.now.tasks.items c.args.at k.task c.index_mut-task.result.now there in
    subst (λ (t : Task). IsTaskOf code t.limits t) (sym e) (subst (λ l. IsTaskOf code l k.task) (sym k.is.limited) k.is)

pub resume_with-requires-clause-may : goal.resume_with-requires-clause-may
resume_with-requires-clause-may c =
    let m = c.requires.may in
    let f = m.4 in
    let code = c.args.code.now in
    let limits = c.args.limits.now in
    let k = host code limits c.args.bodies.now m.0 c.args.at c.args.number c.args.chord c.args.object c.args.members.now m.1 c.requires.sound m.3 m.2.so_long f c.requires.fits in
    let there : slice_get c.args.bodies.now.tasks.items c.args.at ≡ Some k.task = k.there in
    let e : c.index_mut-task.result.now ≡ k.task = c.index_mut-task.ensures.value ∙ get_or_from_slice_get c.args.bodies.now.tasks.items c.args.at k.task c.index_mut-task.result.now there in
    let sent = firing_sent code limits c.args.bodies.now m.0 c.args.number c.args.chord c.args.object c.args.members.now m.1 m.3 m.2 m.4 in
    let first : c.add_all_arguments.new.values ≡ m.1 = (rw c.deref.ensures.value at c.in_ok-add_all_arguments.ensures) ∙ ap (λ (ms : List ℕ). sent_values c.args.bodies.now.entries.items ms) c.items.ensures.numbers ∙ sent.1 in
    subst (λ (t : Task). MayResume code t.limits t c.args.number c.args.chord c.args.object c.args.members.now (c.add_all_arguments.new.values)) (sym e)
    (subst (λ (vs : List Value). MayResume code k.task.limits k.task c.args.number c.args.chord c.args.object c.args.members.now vs) (sym first) k.may)

pub returns-clause-began : goal.returns-clause-began
returns-clause-began c =
    λ h vs played s f.
    let code = c.args.code.now in
    let limits = c.args.limits.now in
    let k = host code limits c.args.bodies.now h c.args.at c.args.number c.args.chord c.args.object c.args.members.now vs c.requires.sound s played.so_long f c.requires.fits in
    let there : slice_get c.args.bodies.now.tasks.items c.args.at ≡ Some k.task = k.there in
    let e : c.index_mut-task.result.now ≡ k.task = c.index_mut-task.ensures.value ∙ get_or_from_slice_get c.args.bodies.now.tasks.items c.args.at k.task c.index_mut-task.result.now there in
    let sent = firing_sent code limits c.args.bodies.now h c.args.number c.args.chord c.args.object c.args.members.now vs s played f in
    let first : c.add_all_arguments.new.values ≡ vs = (rw c.deref.ensures.value at c.in_ok-add_all_arguments.ensures) ∙ ap (λ (ms : List ℕ). sent_values c.args.bodies.now.entries.items ms) c.items.ensures.numbers ∙ sent.1 in
    let past : (view_of c.resume_with.new.self).past ≡ fired c.args.number c.args.chord c.args.object c.args.members.now vs ∷ (view_of k.task).past =
    c.in_ok-resume_with.ensures.past ∙ ap (λ (z : List Value). fired c.args.number c.args.chord c.args.object c.args.members.now z ∷ (view_of c.index_mut-task.result.now).past) first
    ∙ ap (λ (t : Task). fired c.args.number c.args.chord c.args.object c.args.members.now vs ∷ (view_of t).past) e
    in
    let task = subst (λ l. IsTaskOf code l c.resume_with.new.self) (ap (λ (t : Task). t.limits) e ∙ k.is.limited) c.in_ok-resume_with.ensures.task in
    let e' = fired c.args.number c.args.chord c.args.object c.args.members.now vs in
    let listed = subst (λ (t : Task). AddsOne t.past c.resume_with.new.self.past c.reserve.new.self.items c.resume_with.new.list.items) e c.in_ok-resume_with.ensures.listed in
    let entries = listed_one k.task.past c.resume_with.new.self.past c.reserve.new.self.items c.resume_with.new.list.items e' listed past ∙ ap (λ l. l ++ e' ∷ []) c.reserve.ensures.items in
    fired_at code limits c.args.bodies.now _ h c.args.at c.args.number c.args.chord c.args.object c.args.members.now vs c.resume_with.new.self played s f k task past c.in_ok-resume_with.ensures.top entries
    refl
    c.in_ok-put_ready.ensures refl
    (c.in_ok-push.ensures.items ∙ ap (λ i. c.args.bodies.now.homes.items ++ i ∷ []) c.as_home.ensures)

pub returns-clause-top : goal.returns-clause-top
returns-clause-top c =
    let homes = c.args.bodies.now.homes.items in
    let first = ap (λ (z : List ℕ). take 1 z) c.in_ok-put_ready.ensures ∙ topped_first c.args.at (reverse c.args.bodies.now.ready.items) in
    c.in_ok-push.ensures.items ∙ ap (λ i. homes ++ i ∷ []) c.as_home.ensures ∙ ap (λ z. homes ++ z) (sym first)

pub as_home-requires : goal.as_home-requires
as_home-requires c =
    let m = c.requires.may in
    let k = host c.args.code.now c.args.limits.now c.args.bodies.now m.0 c.args.at c.args.number c.args.chord c.args.object c.args.members.now m.1 c.requires.sound m.3 m.2.so_long m.4 c.requires.fits in
    let l = slice_get_within c.args.bodies.now.tasks.items c.args.at k.task k.there in
    let few = m.3.few in
    omega (arith, l, few, m.2.so_long, c.requires.room)

pub returns-clause-others : goal.returns-clause-others
returns-clause-others c = λ i o. set_other c.args.bodies.now.tasks.items c.args.at i c.resume_with.new.self (eqb-false c.args.at i o)
