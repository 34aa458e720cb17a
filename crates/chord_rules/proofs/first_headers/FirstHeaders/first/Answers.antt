use Rattle.std.proofs.Common.{slice_get, sym, ap, ◌∙◌}
use Rattle.std.specs.Prelude.{option_map}
use Rattle.chord_rules.specs.FirstHeaders.{see_lent}
use Rattle.chord_rules.proofs.FirstNamed.{first_at, no_first}
use Rattle.chord_rules.proofs.first_headers.FirstHeaders.first.Goals as goal

pub returns-in-Some : goal.returns-in-Some
returns-in-Some c =
    ap (option_map see_lent) (c.header_at.ensures ∙ ap (λ z. slice_get z c.in-Some.place) c.as_slice.ensures.value)
    ∙ sym (first_at _ c.args.self.now.all.items c.args.name.now c.in-Some.place c.args.self.now.named (sym c.place.ensures ∙ c.in-Some.is))

pub returns-in-None : goal.returns-in-None
returns-in-None c = no_first _ c.args.self.now.all.items c.args.name.now c.args.self.now.named (sym c.place.ensures ∙ c.in-None.is)
