use Rattle.std.proofs.Common.{sym, ap, ◌∙◌}
use Rattle.std.specs.Option.{option_copied}
use Rattle.chord_bodies.specs.View.{CallOf, view_call}
use Rattle.chord_bodies.proofs.Viewed.{viewed_call}
use Rattle.chord_bodies.proofs.Lasts.{last_call_there, last_call_absent}
use Rattle.chord_bodies.proofs.chain.last_result.Goals as goal

pub returns-in-Some : goal.returns-in-Some
returns-in-Some c = sym (ap (λ (z : CallOf). z.result) (viewed_call c.in-Some.last.now)) ∙ sym (last_call_there (view_call c.args.call.now).result c.args.more.now c.in-Some.last.now (sym c.last.ensures.value ∙ ap option_copied c.in-Some.is))

pub returns-in-None : goal.returns-in-None
returns-in-None c = sym (ap (λ (z : CallOf). z.result) (viewed_call c.args.call.now)) ∙ sym (last_call_absent (view_call c.args.call.now).result c.args.more.now (sym c.last.ensures.value ∙ ap option_copied c.in-None.is))
