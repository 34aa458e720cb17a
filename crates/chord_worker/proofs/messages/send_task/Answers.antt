use Rattle.std.proofs.Common.{inl, refl, subst, arith}
use Rattle.chord_code.specs.declared.parts.Parts.{Parts}
use Rattle.chord_code.specs.Valid.{IsValid}
use Rattle.chord_space.specs.Desks.{space_code}
use Rattle.chord_space.proofs.Widths.{method_within}
use Rattle.chord_worker.proofs.Bounded.{class_low}
use Rattle.chord_worker.proofs.messages.send_task.Goals as goal

pub returns-clause-bounds : goal.returns-clause-bounds
returns-clause-bounds c =
    let valid = subst (λ (x : Parts). IsValid x) c.requires.code c.parts-parts.ensures.valid in
    (class_low (space_code c.args.space.now) valid c.args.object.class (c.requires.named.classes c.args.object (inl refl)), method_within (space_code c.args.space.now) c.args.object.class c.args.method _ c.requires.named.method)

pub send_off-requires-clause-bounds : goal.send_off-requires-clause-bounds
send_off-requires-clause-bounds c =
    let valid = subst (λ (x : Parts). IsValid x) c.requires.code c.parts-parts.ensures.valid in
    let within = c.requires.bounds.0 in
    let older = c.requires.bounds.1 in
    (within, omega (arith, within, older), class_low (space_code c.args.space.now) valid c.args.object.class (c.requires.named.classes c.args.object (inl refl)), method_within (space_code c.args.space.now) c.args.object.class c.args.method _ c.requires.named.method)
