use Rattle.std.proofs.Common.{◌≡◌, length, sym, ap, ◌∙◌, arith}
use Rattle.chord_bodies.specs.Types.{this_in}
use Rattle.chord_bodies.proofs.Slots.{parameter_slot, local_slot}
use Rattle.chord_bodies.proofs.body.Body.slot_type.Goals as goal

pub returns-then-place-parameters : goal.returns-then-place-parameters
returns-then-place-parameters c =
    let b = c.args.self.now in
    let few : length c.as_slice-parameters.result.now ≡ length b.parameters.items = ap length c.as_slice-parameters.ensures.value in
    c.type_at.ensures ∙ rw c.as_slice-parameters.ensures.value (sym (parameter_slot (this_in b.is_main b.class) b.parameters.items b.locals.items c.args.slot c.if-slot-eq0.false (omega (arith, few))))

pub returns-else-place-parameters : goal.returns-else-place-parameters
returns-else-place-parameters c =
    let b = c.args.self.now in
    let few : length c.as_slice-parameters.result.now ≡ length b.parameters.items = ap length c.as_slice-parameters.ensures.value in
    c.type_at-else-place-parameters.ensures ∙ rw (c.deref.ensures.value, few) (sym (local_slot (this_in b.is_main b.class) b.parameters.items b.locals.items c.args.slot c.if-slot-eq0.false (omega (arith, few))))
