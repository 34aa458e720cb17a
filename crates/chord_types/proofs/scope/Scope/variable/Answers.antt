use Rattle.std.proofs.Common.{sym, ap, ◌∙◌, option_map, slice_get}
use Rattle.chord_classes.specs.Site.{variable_named}
use Rattle.chord_types.specs.Views.{see_local}
use Rattle.chord_types.proofs.ScopePlaces.{variable_there, variable_absent, copied_local}
use Rattle.chord_types.proofs.scope.Scope.variable.Goals as goal

pub returns-in-Some : goal.returns-in-Some
returns-in-Some c =
    ap (option_map see_local) (c.copied.ensures ∙ copied_local c.deref.result.now c.in-Some.place.now c.get-in-Some.result c.get-in-Some.ensures.lookup.0 c.get-in-Some.ensures.lookup.1 ∙ ap (λ z. slice_get z c.in-Some.place.now) c.deref.ensures.value)
    ∙ variable_there c.self.inside.locals.items c.args.name.now c.in-Some.place.now (sym (c.in-Some.ensures.value ∙ c.self.invariant.each c.args.name.now))
    ∙ ap (λ z. variable_named z c.args.name.now) c.self.view_is

pub returns-in-None : goal.returns-in-None
returns-in-None c = sym (ap (λ z. variable_named z c.args.name.now) (sym c.self.view_is) ∙ variable_absent c.self.inside.locals.items c.args.name.now (sym (c.in-None.ensures.value ∙ c.self.invariant.each c.args.name.now)))
