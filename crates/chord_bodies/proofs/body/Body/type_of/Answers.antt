use Rattle.std.proofs.Common.{refl, ap, ◌∙◌, Some}
use Rattle.chord_base.specs.declared.static_type.StaticType.{StaticType}
use Rattle.chord_bodies.specs.BodyView.{view_body}
use Rattle.chord_bodies.proofs.ChainTypes.{chain_type, chain_result}
use Rattle.chord_bodies.proofs.body.Body.type_of.Goals as goal

pub returns-in-Chain : goal.returns-in-Chain
returns-in-Chain c =
    rw (c.in-Chain.is, chain_type (view_body c.args.self.now) c.in-Chain.first c.in-Chain.link c.in-Chain.more)
    (ap (λ (z : StaticType). Some z) (c.operator_type.ensures ∙ rw (c.last_operator.ensures, c.deref.ensures, c.deref-in-Chain.ensures.value) refl))

pub returns-in-Calls : goal.returns-in-Calls
returns-in-Calls c =
    rw (c.in-Calls.is, chain_result (view_body c.args.self.now) c.in-Calls.first c.in-Calls.call c.in-Calls.more)
    (rw (c.last_result.ensures, c.deref-in-Calls.ensures, c.deref-in-Calls-2.ensures.value) refl)
