use Rattle.std.proofs.Common.{◌≡◌, List, [], ◌∷◌, ◌++◌, cond, map, length, ℕ, subst, append_assoc}
use Rattle.std.specs.Prelude.{Option, Some, slice_get}
use Rattle.chord_bodies.specs.Resolved.{LayoutOf}
use Rattle.chord_bodies.specs.View.{view_class_plan}
use Rattle.chord_gen.specs.Translation.{has_builder, Origin, OfBuilder, OfBody}
use Rattle.chord_gen.specs.TypedSource.{source_of, IsTypedSource}
use Rattle.chord_gen.specs.Building.{IsBuilt, class_origins}
use Rattle.chord_gen.proofs.Emits.{ok_gives}
use Rattle.chord_gen.proofs.building.add_class.Goals as goal

pub returns-clause-built : goal.returns-clause-built
returns-clause-built c =
    let n = length c.args.builders.now.items in
    ok_gives c.add_bodies.result
    ((plan : LayoutOf) (builders : List (Option ℕ)) (os : List Origin) → IsBuilt (source_of plan c.args.bodies.now) c.add_builder.new.blocks.items builders c.args.members.now.items os → IsBuilt (source_of plan c.args.bodies.now) c.add_bodies.new.blocks.items builders c.add_bodies.new.members.items (os ++ map OfBody c.deref.result.now))
    ((plan : LayoutOf) (os : List Origin) → IsTypedSource (source_of plan c.args.bodies.now) → slice_get plan.classes n ≡ Some (view_class_plan c.args.class.now) → IsBuilt (source_of plan c.args.bodies.now) c.args.blocks.now.items c.args.builders.now.items c.args.members.now.items os → IsBuilt (source_of plan c.args.bodies.now) c.add_bodies.new.blocks.items c.add_builder.new.builders.items c.add_bodies.new.members.items (os ++ class_origins (source_of plan c.args.bodies.now) n c.args.class.now.own.items))
    (λ h plan os typed e is.
    let p = source_of plan c.args.bodies.now in
    let first = cond (has_builder p n) (OfBuilder n ∷ []) [] in
    subst (IsBuilt p c.add_bodies.new.blocks.items c.add_builder.new.builders.items c.add_bodies.new.members.items) (append_assoc os first (map OfBody c.args.class.now.own.items))
    (subst (λ z. IsBuilt p c.add_bodies.new.blocks.items c.add_builder.new.builders.items c.add_bodies.new.members.items ((os ++ first) ++ map OfBody z)) c.deref.ensures.value
    (h plan c.add_builder.new.builders.items (os ++ first) (c.in_ok-add_builder.ensures.built plan c.args.members.now.items os typed e is))))
    c.add_bodies.ensures
