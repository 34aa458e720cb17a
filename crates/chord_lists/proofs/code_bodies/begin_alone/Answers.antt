use Rattle.std.proofs.Common.{◌≡◌, ◌∙◌, ◌++◌, ◌∷◌, [], refl, sym, ap, subst, arith, length, take, reverse, List, ℕ}
use Rattle.std.specs.Prelude.{slice_get}
use Rattle.std.proofs.lemmas.List.{length-append}
use Rattle.chord_base.specs.declared.value.Value.{Value}
use Rattle.chord_base.specs.declared.event.Entry.{Entry}
use Rattle.chord_base.specs.Bodies.{served_among}
use Rattle.chord_code.specs.Meaning.{code_program}
use Rattle.chord_task.specs.Standing.{view_of, IsTaskOf, MayResume}
use Rattle.chord_lists.specs.Engine.{fired}
use Rattle.chord_lists.specs.CodeStands.{sent_values, topped_by}
use Rattle.chord_lists.proofs.Spots.{one_some, before_end}
use Rattle.chord_lists.proofs.CodeFiring.{firing_sent, may_begin, fired_alone, topped_first}
use Rattle.chord_lists.proofs.CodeSteps.{listed_one}
use Rattle.std.proofs.lemmas.Bool.{eqb-false}
use Rattle.chord_task.specs.declared.task.Task.{Task}
use Rattle.chord_lists.proofs.code_bodies.begin_alone.Goals as goal

pub place_after-at-requires : goal.place_after-at-requires
place_after-at-requires c =
    let m = c.requires.may in
    let l = m.3.few in
    let e = ap length c.deref.ensures.value in
    omega (arith, e, l, m.2.so_long, c.requires.room)

pub add_all_arguments-requires-clause-there : goal.add_all_arguments-requires-clause-there
add_all_arguments-requires-clause-there c =
    let m = c.requires.may in
    rw (c.items.ensures.numbers, c.deref-2.ensures.value) (firing_sent c.args.code.now c.args.limits.now c.args.bodies.now m.0 c.args.number c.args.chord c.args.object c.args.members.now m.1 m.3 m.2 m.4).0

pub add_all_arguments-requires-clause-few : goal.add_all_arguments-requires-clause-few
add_all_arguments-requires-clause-few c =
    let m = c.requires.may in
    let sent = firing_sent c.args.code.now c.args.limits.now c.args.bodies.now m.0 c.args.number c.args.chord c.args.object c.args.members.now m.1 m.3 m.2 m.4 in
    let few = m.5.3.few_values in
    let l = ap (λ (ms : List ℕ). length (sent_values c.args.bodies.now.entries.items ms)) c.items.ensures.numbers ∙ ap length sent.1 in
    rw c.deref-2.ensures.value (omega (arith, few, l))

pub resume_with-requires-clause-may : goal.resume_with-requires-clause-may
resume_with-requires-clause-may c =
    let m = c.requires.may in
    let f = m.4 in
    let code = c.args.code.now in
    let limits = c.args.limits.now in
    let serves = ap (λ js. served_among ((code_program code limits).is_sync c.args.object.class) js c.args.members.now) (one_some f.0 c.requires.call.methods (slice_get ((code_program code limits).chords c.args.object.class) c.args.chord) f.1 c.requires.call.chord) ∙ c.requires.call.is in
    let sent = firing_sent code limits c.args.bodies.now m.0 c.args.number c.args.chord c.args.object c.args.members.now m.1 m.3 m.2 m.4 in
    let first : c.add_all_arguments.new.values ≡ m.1 = (rw c.deref-2.ensures.value at c.in_ok-add_all_arguments.ensures) ∙ ap (λ (ms : List ℕ). sent_values c.args.bodies.now.entries.items ms) c.items.ensures.numbers ∙ sent.1 in
    let t = c.in_ok-task.task in
    let spare = c.in_ok-task.ensures in
    subst (λ (vs : List Value). MayResume code t.limits t c.args.number c.args.chord c.args.object c.args.members.now vs) (sym first)
    (may_begin code limits c.args.bodies.now m.0 c.args.number c.args.chord c.args.object c.args.members.now m.1 t c.requires.sound m.3 m.2.so_long f serves spare.task spare.top spare.past spare.room)

pub returns-clause-began : goal.returns-clause-began
returns-clause-began c =
    λ h vs played s f.
    let code = c.args.code.now in
    let limits = c.args.limits.now in
    let sent = firing_sent code limits c.args.bodies.now h c.args.number c.args.chord c.args.object c.args.members.now vs s played f in
    let first : c.add_all_arguments.new.values ≡ vs = (rw c.deref-2.ensures.value at c.in_ok-add_all_arguments.ensures) ∙ ap (λ (ms : List ℕ). sent_values c.args.bodies.now.entries.items ms) c.items.ensures.numbers ∙ sent.1 in
    let spare = c.in_ok-task.ensures in
    let past : (view_of c.resume_with.new.self).past ≡ fired c.args.number c.args.chord c.args.object c.args.members.now vs ∷ [] =
    c.in_ok-resume_with.ensures.past ∙ ap (λ (z : List Value). fired c.args.number c.args.chord c.args.object c.args.members.now z ∷ (view_of c.in_ok-task.task).past) first
    ∙ ap (λ (z : List Entry). fired c.args.number c.args.chord c.args.object c.args.members.now vs ∷ z) spare.past
    in
    let task = subst (λ l. IsTaskOf code l c.resume_with.new.self) spare.task.limited c.in_ok-resume_with.ensures.task in
    let at : c.place_after-at.result ≡ length c.args.bodies.now.tasks.items = c.place_after-at.ensures.place ∙ ap length c.deref.ensures.value in
    let e = fired c.args.number c.args.chord c.args.object c.args.members.now vs in
    let list = c.reserve.new.self.items in
    let past' : reverse c.resume_with.new.self.past ≡ e ∷ reverse c.in_ok-task.task.past = past ∙ ap (λ (l : List Entry). e ∷ l) (sym spare.past) in
    let entries = listed_one c.in_ok-task.task.past c.resume_with.new.self.past list c.resume_with.new.list.items e c.in_ok-resume_with.ensures.listed past' ∙ ap (λ l. l ++ e ∷ []) c.reserve.ensures.items in
    fired_alone code limits c.args.bodies.now _ h c.args.number c.args.chord c.args.object c.args.members.now vs c.resume_with.new.self played s f task past c.in_ok-resume_with.ensures.top entries
    c.in_ok-push.ensures.items
    (c.in_ok-put_ready.ensures ∙ ap (λ i. topped_by i (reverse c.args.bodies.now.ready.items)) at)
    refl
    (c.in_ok-push-2.ensures.items ∙ ap (λ i. c.args.bodies.now.homes.items ++ i ∷ []) (c.as_home.ensures ∙ at))

pub returns-clause-ready : goal.returns-clause-ready
returns-clause-ready c =
    let at : c.place_after-at.result ≡ length c.args.bodies.now.tasks.items = c.place_after-at.ensures.place ∙ ap length c.deref.ensures.value in
    c.in_ok-put_ready.ensures ∙ ap (λ i. topped_by i (reverse c.args.bodies.now.ready.items)) at

pub returns-clause-top : goal.returns-clause-top
returns-clause-top c =
    let homes = c.args.bodies.now.homes.items in
    let first = ap (λ (z : List ℕ). take 1 z) c.in_ok-put_ready.ensures ∙ topped_first c.place_after-at.result (reverse c.args.bodies.now.ready.items) in
    c.in_ok-push-2.ensures.items ∙ ap (λ i. homes ++ i ∷ []) c.as_home.ensures ∙ ap (λ z. homes ++ z) (sym first)

pub returns-clause-tasks : goal.returns-clause-tasks
returns-clause-tasks c = ap length c.in_ok-push.ensures.items ∙ length-append c.args.bodies.now.tasks.items (c.resume_with.new.self ∷ [])

pub returns-clause-others : goal.returns-clause-others
returns-clause-others c =
    λ i o. ap (λ (ts : List Task). slice_get ts i) c.in_ok-push.ensures.items ∙ before_end c.args.bodies.now.tasks.items c.resume_with.new.self i (eqb-false (length c.args.bodies.now.tasks.items) i o)
