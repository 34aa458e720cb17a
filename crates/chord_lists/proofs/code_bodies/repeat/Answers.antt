use Rattle.std.proofs.Common.{◌≡◌, ◌∙◌, ◌++◌, ◌∷◌, [], sym, ap, subst, arith, length, reverse, true}
use Rattle.chord_lists.specs.CodeStands.{home, ready_at, with_over, HasTurnedAt}
use Rattle.chord_lists.proofs.CodeReplay.{entry_asks_in, ready_there, made_again}
use Rattle.chord_lists.proofs.code_bodies.repeat.Goals as goal

pub home_of-at-requires : goal.home_of-at-requires
home_of-at-requires c =
    let m = c.requires.may in
    let x = entry_asks_in c.args.code.now c.args.limits.now c.args.bodies.now m.0 c.args.entry.now m.2 c.requires.own m.3 in
    let e = ap length c.deref.ensures.value in
    omega (arith, e, x.known, m.2.homed)

pub make-requires-clause-ready : goal.make-requires-clause-ready
make-requires-clause-ready c =
    let m = c.requires.may in
    let x = entry_asks_in c.args.code.now c.args.limits.now c.args.bodies.now m.0 c.args.entry.now m.2 c.requires.own m.3 in
    let at : c.home_of-at.result ≡ home c.args.bodies.now.homes.items c.args.entry.now.body = c.home_of-at.ensures ∙ ap (λ z. home z c.args.entry.now.body) c.deref.ensures.value in
    subst (λ i. ready_at c.args.bodies.now.tasks.items i ≡ true) (sym at) (ready_there c.args.bodies.now.tasks.items (home c.args.bodies.now.homes.items c.args.entry.now.body) x.task x.there x.ready)

pub returns-clause-replayed : goal.returns-clause-replayed
returns-clause-replayed c =
    λ h played s f within.
    let at : c.home_of-at.result ≡ home c.args.bodies.now.homes.items c.args.entry.now.body = c.home_of-at.ensures ∙ ap (λ z. home z c.args.entry.now.body) c.deref.ensures.value in
    made_again c.args.code.now c.args.limits.now c.args.bodies.now c.make.new.bodies h c.args.entry.now c.home_of-at.result c.in_ok-make.field-0 s c.requires.own f at (c.in_ok-make.ensures.went h played s)

pub returns-clause-homed : goal.returns-clause-homed
returns-clause-homed c =
    let homes = c.args.bodies.now.homes.items in
    let at : c.home_of-at.result ≡ home homes c.args.entry.now.body = c.home_of-at.ensures ∙ ap (λ z. home z c.args.entry.now.body) c.deref.ensures.value in
    c.in_ok-make.ensures.homed ∙ ap (λ i. homes ++ i ∷ []) at

pub returns-clause-over : goal.returns-clause-over
returns-clause-over c =
    let at : c.home_of-at.result ≡ home c.args.bodies.now.homes.items c.args.entry.now.body = c.home_of-at.ensures ∙ ap (λ z. home z c.args.entry.now.body) c.deref.ensures.value in
    subst (λ i. reverse c.make.new.bodies.over.items ≡ with_over c.make.new.bodies.tasks.items i (reverse c.args.bodies.now.over.items)) at c.in_ok-make.ensures.over

pub returns-clause-turned : goal.returns-clause-turned
returns-clause-turned c =
    let at : c.home_of-at.result ≡ home c.args.bodies.now.homes.items c.args.entry.now.body = c.home_of-at.ensures ∙ ap (λ z. home z c.args.entry.now.body) c.deref.ensures.value in
    subst (λ i. HasTurnedAt c.args.code.now c.args.limits.now c.args.bodies.now.tasks.items c.make.new.bodies.tasks.items i c.args.entry.now.number) at c.in_ok-make.ensures.turned
