use Rattle.std.proofs.Common.{◌∙◌, ap, ◌++◌, ◌∷◌, []}
use Rattle.chord_lists.specs.Engine.{main_begun}
use Rattle.chord_lists.proofs.CodeStart.{main_begins, started}
use Rattle.chord_lists.proofs.code_bodies.begin_run.Goals as goal

pub main-requires : goal.main-requires
main-requires c = main_begins c.args.code.now c.args.limits.now c.requires.sound

pub returns-clause-stands : goal.returns-clause-stands
returns-clause-stands c =
    let main = c.in_ok-main.main in
    started c.args.code.now c.args.limits.now _ main c.requires.sound c.in_ok-main.ensures.task c.in_ok-main.ensures.past c.in_ok-main.ensures.top
    (c.in_ok-push.ensures.items ∙ ap (λ z. z ++ main ∷ []) c.new-tasks.ensures.items)
    (c.in_ok-push-2.ensures.items ∙ ap (λ z. z ++ 0 ∷ []) c.new-ready.ensures.items)
    (c.in_ok-main.ensures.listed ∙ ap (λ z. z ++ main_begun) (c.reserve.ensures.items ∙ c.new-entries.ensures.items))
    (c.in_ok-push-3.ensures.items ∙ ap (λ z. z ++ 0 ∷ []) (c.reserve-2.ensures.items ∙ c.new-homes.ensures.items))

pub returns-clause-ready : goal.returns-clause-ready
returns-clause-ready c = c.in_ok-push-2.ensures.items ∙ ap (λ z. z ++ 0 ∷ []) c.new-ready.ensures.items
