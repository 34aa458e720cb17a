use Rattle.std.proofs.Common.{◌∙◌, ap, sym, subst, length, reverse, Some}
use Rattle.chord_lists.specs.CodeStands.{home, KeepsOthers}
use Rattle.chord_lists.proofs.CodeFiring.{caller, call_served, topped_home, home_topped}
use Rattle.chord_lists.proofs.CodeOver.{stands_over, stands_later}
use Rattle.chord_lists.proofs.OverTasks.{none_over, none_went, last_went, all_went}
use Rattle.chord_lists.proofs.code_bodies.begin_body.Goals as goal

pub home_of-at-requires : goal.home_of-at-requires
home_of-at-requires c =
    let m = c.requires.may in
    let serves = call_served c.args.code.now c.args.limits.now m.0 c.args.chord c.args.object c.args.members.now m.1 (Some c.in-Some.call) m.4 (rw c.in-Some.is at c.requires.call) in
    let k = caller c.args.code.now c.args.limits.now c.args.bodies.now m.0 c.args.number c.args.chord c.args.object c.args.members.now m.1 c.in-Some.call c.requires.sound m.3 m.2.so_long m.4 serves in
    rw c.deref.ensures.value k.homed

pub begin_at-requires-clause-fits : goal.begin_at-requires-clause-fits
begin_at-requires-clause-fits c =
    record {
      call = Some c.in-Some.call;
      serves = rw c.in-Some.is at c.requires.call;
      hosts = c.home_of-at.ensures ∙ ap (λ z. home z c.in-Some.call) c.deref.ensures.value;
    }

pub begin_at-requires-clause-may : goal.begin_at-requires-clause-may
begin_at-requires-clause-may c =
    let m = c.requires.may in
    (m.0, m.1, m.2, stands_later c.args.code.now c.args.limits.now c.args.bodies.now c.home_of-at.result m.0 m.3, m.4, m.5)

pub next_over-requires : goal.next_over-requires
next_over-requires c = rw c.deref-in-None.ensures.value (c.requires.may.3.over)

pub begin_at-requires-in-Some-next_over-clause-may : goal.begin_at-requires-in-Some-next_over-clause-may
begin_at-requires-in-Some-next_over-clause-may c =
    let m = c.requires.may in
    let left = rw (c.in-Some-next_over.is, c.deref-in-None.ensures.value) at c.next_over.ensures.left in
    (m.0, m.1, m.2, stands_over c.args.code.now c.args.limits.now c.args.bodies.now c.next_over.new.over _ m.0 m.3 left, m.4, m.5)

pub begin_alone-requires-clause-may : goal.begin_alone-requires-clause-may
begin_alone-requires-clause-may c =
    let m = c.requires.may in
    let none = rw (c.in-None-next_over.is, c.deref-in-None.ensures.value) at c.next_over.ensures.none in
    (m.0, m.1, m.2, stands_over c.args.code.now c.args.limits.now c.args.bodies.now c.next_over.new.over _ m.0 m.3 (none_over c.args.bodies.now.tasks.items _ none), m.4, m.5)

pub returns-in_ok-begin_at-in-Some-clause-began : goal.returns-in_ok-begin_at-in-Some-clause-began
returns-in_ok-begin_at-in-Some-clause-began c =
    λ h vs played s f. c.in_ok-begin_at-in-Some.ensures.began h vs played (stands_later c.args.code.now c.args.limits.now c.args.bodies.now c.home_of-at.result h s) f

pub returns-in_ok-begin_at-in-Some-next_over-clause-began : goal.returns-in_ok-begin_at-in-Some-next_over-clause-began
returns-in_ok-begin_at-in-Some-next_over-clause-began c =
    λ h vs played s f.
    let left = rw (c.in-Some-next_over.is, c.deref-in-None.ensures.value) at c.next_over.ensures.left in
    c.in_ok-begin_at-in-Some-next_over.ensures.began h vs played (stands_over c.args.code.now c.args.limits.now c.args.bodies.now c.next_over.new.over _ h s left) f

pub returns-in_ok-begin_alone-in-None-next_over-clause-began : goal.returns-in_ok-begin_alone-in-None-next_over-clause-began
returns-in_ok-begin_alone-in-None-next_over-clause-began c =
    λ h vs played s f.
    let none = rw (c.in-None-next_over.is, c.deref-in-None.ensures.value) at c.next_over.ensures.none in
    c.in_ok-begin_alone-in-None-next_over.ensures.began h vs played
    (stands_over c.args.code.now c.args.limits.now c.args.bodies.now c.next_over.new.over _ h s (none_over c.args.bodies.now.tasks.items _ none)) f

pub returns-in_ok-begin_at-in-Some-clause-ready : goal.returns-in_ok-begin_at-in-Some-clause-ready
returns-in_ok-begin_at-in-Some-clause-ready c =
    let m = c.requires.may in
    let e = c.in_ok-begin_at-in-Some.ensures in
    topped_home c.args.bodies.now.homes.items c.begin_at.new.bodies.homes.items (reverse c.args.bodies.now.ready.items) (reverse c.begin_at.new.bodies.ready.items) c.home_of-at.result c.args.number
    (m.3.homed ∙ m.2.so_long) e.ready e.top

pub returns-in_ok-begin_at-in-Some-next_over-clause-ready : goal.returns-in_ok-begin_at-in-Some-next_over-clause-ready
returns-in_ok-begin_at-in-Some-next_over-clause-ready c =
    let m = c.requires.may in
    let e = c.in_ok-begin_at-in-Some-next_over.ensures in
    topped_home c.args.bodies.now.homes.items c.begin_at-in-Some-next_over.new.bodies.homes.items (reverse c.args.bodies.now.ready.items) (reverse c.begin_at-in-Some-next_over.new.bodies.ready.items) c.in-Some-next_over.at c.args.number
    (m.3.homed ∙ m.2.so_long) e.ready e.top

pub returns-in_ok-begin_alone-in-None-next_over-clause-ready : goal.returns-in_ok-begin_alone-in-None-next_over-clause-ready
returns-in_ok-begin_alone-in-None-next_over-clause-ready c =
    let m = c.requires.may in
    let e = c.in_ok-begin_alone-in-None-next_over.ensures in
    topped_home c.args.bodies.now.homes.items c.begin_alone.new.bodies.homes.items (reverse c.args.bodies.now.ready.items) (reverse c.begin_alone.new.bodies.ready.items) (length c.args.bodies.now.tasks.items) c.args.number
    (m.3.homed ∙ m.2.so_long) e.ready e.top

pub returns-in_ok-begin_at-in-Some-clause-over : goal.returns-in_ok-begin_at-in-Some-clause-over
returns-in_ok-begin_at-in-Some-clause-over c =
    none_went c.args.bodies.now.over.items c.begin_at.new.bodies.over.items c.in_ok-begin_at-in-Some.ensures.over

pub returns-in_ok-begin_at-in-Some-next_over-clause-over : goal.returns-in_ok-begin_at-in-Some-next_over-clause-over
returns-in_ok-begin_at-in-Some-next_over-clause-over c =
    last_went c.in-Some-next_over.at c.args.bodies.now.over.items c.next_over.new.over.items c.begin_at-in-Some-next_over.new.bodies.over.items c.in_ok-begin_at-in-Some-next_over.ensures.over
    (rw c.in-Some-next_over.is at c.next_over.ensures.cut)

pub returns-in_ok-begin_alone-in-None-next_over-clause-over : goal.returns-in_ok-begin_alone-in-None-next_over-clause-over
returns-in_ok-begin_alone-in-None-next_over-clause-over c =
    all_went c.args.bodies.now.over.items c.begin_alone.new.bodies.over.items (c.in_ok-begin_alone-in-None-next_over.ensures.over ∙ rw c.in-None-next_over.is at c.next_over.ensures.empty)

pub returns-in_ok-begin_at-in-Some-clause-kept : goal.returns-in_ok-begin_at-in-Some-clause-kept
returns-in_ok-begin_at-in-Some-clause-kept c = λ some. c.in_ok-begin_at-in-Some.ensures.over

pub returns-in_ok-begin_at-in-Some-next_over-clause-kept : goal.returns-in_ok-begin_at-in-Some-next_over-clause-kept
returns-in_ok-begin_at-in-Some-next_over-clause-kept c = λ some. absurd (some c.in-None.is)

pub returns-in_ok-begin_alone-in-None-next_over-clause-kept : goal.returns-in_ok-begin_alone-in-None-next_over-clause-kept
returns-in_ok-begin_alone-in-None-next_over-clause-kept c = λ some. absurd (some c.in-None.is)

pub returns-in_ok-begin_at-in-Some-clause-others : goal.returns-in_ok-begin_at-in-Some-clause-others
returns-in_ok-begin_at-in-Some-clause-others c =
    let m = c.requires.may in
    let e = c.in_ok-begin_at-in-Some.ensures in
    subst (λ z. KeepsOthers c.args.bodies.now.tasks.items c.begin_at.new.bodies.tasks.items z)
    (sym (home_topped c.args.bodies.now.homes.items c.begin_at.new.bodies.homes.items (reverse c.args.bodies.now.ready.items) (reverse c.begin_at.new.bodies.ready.items) c.home_of-at.result c.args.number
    (m.3.homed ∙ m.2.so_long) e.ready e.top))
    e.others

pub returns-in_ok-begin_at-in-Some-next_over-clause-others : goal.returns-in_ok-begin_at-in-Some-next_over-clause-others
returns-in_ok-begin_at-in-Some-next_over-clause-others c =
    let m = c.requires.may in
    let e = c.in_ok-begin_at-in-Some-next_over.ensures in
    subst (λ z. KeepsOthers c.args.bodies.now.tasks.items c.begin_at-in-Some-next_over.new.bodies.tasks.items z)
    (sym (home_topped c.args.bodies.now.homes.items c.begin_at-in-Some-next_over.new.bodies.homes.items (reverse c.args.bodies.now.ready.items) (reverse c.begin_at-in-Some-next_over.new.bodies.ready.items) c.in-Some-next_over.at c.args.number
    (m.3.homed ∙ m.2.so_long) e.ready e.top))
    e.others

pub returns-in_ok-begin_alone-in-None-next_over-clause-others : goal.returns-in_ok-begin_alone-in-None-next_over-clause-others
returns-in_ok-begin_alone-in-None-next_over-clause-others c =
    let m = c.requires.may in
    let e = c.in_ok-begin_alone-in-None-next_over.ensures in
    subst (λ z. KeepsOthers c.args.bodies.now.tasks.items c.begin_alone.new.bodies.tasks.items z)
    (sym (home_topped c.args.bodies.now.homes.items c.begin_alone.new.bodies.homes.items (reverse c.args.bodies.now.ready.items) (reverse c.begin_alone.new.bodies.ready.items) (length c.args.bodies.now.tasks.items) c.args.number
    (m.3.homed ∙ m.2.so_long) e.ready e.top))
    e.others
