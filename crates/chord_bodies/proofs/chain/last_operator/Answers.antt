use Rattle.std.proofs.Common.{sym, ap, ◌∙◌}
use Rattle.std.specs.Option.{option_copied}
use Rattle.chord_bodies.specs.View.{LinkOf, view_link}
use Rattle.chord_bodies.proofs.Viewed.{viewed_link}
use Rattle.chord_bodies.proofs.Lasts.{last_link_there, last_link_absent}
use Rattle.chord_bodies.proofs.chain.last_operator.Goals as goal

pub returns-in-Some : goal.returns-in-Some
returns-in-Some c = sym (ap (λ (z : LinkOf). z.operator) (viewed_link c.in-Some.last.now)) ∙ sym (last_link_there (view_link c.args.link.now).operator c.args.more.now c.in-Some.last.now (sym c.last.ensures.value ∙ ap option_copied c.in-Some.is))

pub returns-in-None : goal.returns-in-None
returns-in-None c = sym (ap (λ (z : LinkOf). z.operator) (viewed_link c.args.link.now)) ∙ sym (last_link_absent (view_link c.args.link.now).operator c.args.more.now (sym c.last.ensures.value ∙ ap option_copied c.in-None.is))
