use Rattle.std.proofs.Common.{◌≡◌, [], ◌∷◌, ◌++◌, ◌||◌, true, false, cond, length, refl, sym, ap, ◌∙◌, subst}
use Rattle.chord_bodies.specs.View.{view_class_plan}
use Rattle.chord_code.specs.declared.instruction.Instruction.TheVariants as i
use Rattle.chord_gen.specs.Emitted.{then_code}
use Rattle.chord_gen.specs.Translation.{has_own, has_builder, OfBuilder, own_code, own_slots, builder_block}
use Rattle.chord_gen.specs.TypedSource.{source_of}
use Rattle.chord_gen.specs.Building.{IsBuilt, named_body, is_told, base_told, init_listed}
use Rattle.chord_gen.proofs.BuiltMore.{builder_added, no_builder_added, builder_is_told, none_joined}
use Rattle.chord_gen.proofs.building.add_builder.Goals as goal

pub returns-in_ok-push-2-clause-built : goal.returns-in_ok-push-2-clause-built
returns-in_ok-push-2-clause-built c =
    λ plan members os typed e is.
    let p = source_of plan c.args.bodies.now in
    let class = view_class_plan c.args.class.now in
    let n = length c.args.builders.now.items in
    let own = named_body c.args.bodies.now c.args.class.now.constructor_body in
    let q = builder_is_told p typed.planned.bases c.args.blocks.now.items c.args.builders.now.items members os n class is refl e in
    let init = c.base_builder-init.ensures ∙ ap (λ z. base_told z c.args.class.now.base) c.deref.ensures.value in
    let has : has_builder p n ≡ true = q.0 ∙ ap (λ z. is_told z || has_own own) (sym init) ∙ sym c.builds.ensures ∙ c.if-builds.true in
    let block = c.in_ok-block_of_builder.ensures ∙ ap (λ z. record { slots = own_slots own; instructions = then_code 0 z (λ a. own_code own a ++ i.Back ∷ []) }) (ap init_listed init ∙ sym q.1) ∙ ap (builder_block p) (sym e) in
    subst (λ z. IsBuilt p c.push.new.self.items c.push-then-builds.new.self.items members (os ++ cond z (OfBuilder n ∷ []) [])) (sym has)
    (builder_added p c.args.blocks.now.items c.push.new.self.items c.args.builders.now.items c.push-then-builds.new.self.items members os n c.in_ok-number.number c.in_ok-block_of_builder.field-0 is refl has block c.in_ok-push.ensures.items c.in_ok-number.ensures.number c.in_ok-push-2.ensures.items)

pub returns-in_ok-push-3-clause-built : goal.returns-in_ok-push-3-clause-built
returns-in_ok-push-3-clause-built c =
    λ plan members os typed e is.
    let p = source_of plan c.args.bodies.now in
    let class = view_class_plan c.args.class.now in
    let n = length c.args.builders.now.items in
    let own = named_body c.args.bodies.now c.args.class.now.constructor_body in
    let q = builder_is_told p typed.planned.bases c.args.blocks.now.items c.args.builders.now.items members os n class is refl e in
    let init = c.base_builder-init.ensures ∙ ap (λ z. base_told z c.args.class.now.base) c.deref.ensures.value in
    let has : has_builder p n ≡ false = q.0 ∙ ap (λ z. is_told z || has_own own) (sym init) ∙ sym c.builds.ensures ∙ c.if-builds.false in
    subst (λ z. IsBuilt p c.args.blocks.now.items c.push-else-builds.new.self.items members (os ++ cond z (OfBuilder n ∷ []) [])) (sym has)
    (subst (IsBuilt p c.args.blocks.now.items c.push-else-builds.new.self.items members) (sym (none_joined os))
    (no_builder_added p c.args.blocks.now.items c.args.builders.now.items c.push-else-builds.new.self.items members os n is refl has c.in_ok-push-3.ensures.items))
