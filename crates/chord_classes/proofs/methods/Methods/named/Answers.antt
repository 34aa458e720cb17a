use Rattle.std.proofs.Common.{slice_get, sym, ap, ◌∙◌}
use Rattle.chord_classes.proofs.NamedMethods.{named, unnamed, of_some, not_none}
use Rattle.chord_classes.proofs.methods.Methods.named.Goals as goal

pub returns-in-Some-method_at : goal.returns-in-Some-method_at
returns-in-Some-method_at c =
    let r = named _ c.args.self.now.all.items c.args.name.now c.in-Some.place c.args.self.now.named (sym c.place.ensures ∙ c.in-Some.is) in
    of_some c.in-Some.place (sym r.1 ∙ ap (λ z. slice_get z c.in-Some.place) (sym c.as_slice.ensures.value) ∙ sym c.method_at.ensures ∙ c.in-Some-method_at.is) r.2

pub returns-in-None-method_at : goal.returns-in-None-method_at
returns-in-None-method_at c =
    let r = named _ c.args.self.now.all.items c.args.name.now c.in-Some.place c.args.self.now.named (sym c.place.ensures ∙ c.in-Some.is) in
    not_none (sym r.1 ∙ ap (λ z. slice_get z c.in-Some.place) (sym c.as_slice.ensures.value) ∙ sym c.method_at.ensures ∙ c.in-None-method_at.is)

pub returns-in-None : goal.returns-in-None
returns-in-None c = unnamed _ c.args.self.now.all.items c.args.name.now c.args.self.now.named (sym c.place.ensures ∙ c.in-None.is)
