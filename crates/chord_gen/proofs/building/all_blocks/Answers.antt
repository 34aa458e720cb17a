use Rattle.std.proofs.Common.{◌≡◌, ◌+◌, [], ◌∷◌, ◌++◌, length, map, sym, ap, ◌∙◌}
use Rattle.std.specs.Prelude.{slice_get}
use Rattle.chord_bodies.specs.BodyView.{view_body}
use Rattle.chord_bodies.specs.View.{view_class_plan}
use Rattle.chord_gen.specs.Translation.{OfMain, body_block, origins_from, origins}
use Rattle.chord_gen.specs.TypedSource.{source_of}
use Rattle.chord_gen.specs.Building.{class_origins}
use Rattle.chord_gen.proofs.BuiltMore.{class_item, base_is_low, origins_step, map_count, main_built}
use Rattle.chord_gen.proofs.building.all_blocks.Goals as goal

pub loop-class-init : goal.loop-class-init
loop-class-init c =
    let p = source_of c.args.plan.now c.args.bodies.now in
    let block = c.in_ok-block_of_body.field-0 in
    let none : length c.new-builders.result.items ≡ 0 = ap length c.new-builders.ensures.items in (
      OfMain ∷ [],
      main_built p c.push.new.self.items c.new-builders.result.items c.in_ok-members.members.items (length c.args.bodies.now) block
          (c.in_ok-block_of_body.ensures ∙ ap (λ z. body_block (slice_get (map view_body c.args.bodies.now) z)) c.main.ensures)
          (c.in_ok-push.ensures.items ∙ ap (λ z. z ++ block ∷ []) c.new-blocks.ensures.items) c.new-builders.ensures.items (c.in_ok-members.ensures.items_if_clones_equal (λ y h. h)) (sym (map_count view_body c.args.bodies.now)),
      ap (λ n. OfMain ∷ origins_from p n p.classes) none,
      none,
    )

pub add_class-requires-clause-low : goal.add_class-requires-clause-low
add_class-requires-clause-low c =
    λ b q.
    let p = source_of c.args.plan.now c.args.bodies.now in
    base_is_low p c.requires.typed c.loop-class.class-index (view_class_plan c.class-item.result) (class_item c.classes-class-items.result.now p.classes c.loop-class.class-index c.class-item.result c.classes-class-items.ensures c.loop-class-test.true c.class-item.is) b q

pub loop-class-preserved : goal.loop-class-preserved
loop-class-preserved c =
    let p = source_of c.args.plan.now c.args.bodies.now in
    let h = c.loop-class.invariant in
    let n = length c.loop-class.builders.items in
    let class = view_class_plan c.class-item.result in
    let there = class_item c.classes-class-items.result.now p.classes c.loop-class.class-index c.class-item.result c.classes-class-items.ensures c.loop-class-test.true c.class-item.is in (
      h.0 ++ class_origins p n class.own,
      c.in_ok-add_class.ensures.built c.args.plan.now h.0 c.requires.typed (ap (slice_get p.classes) h.3 ∙ there) h.1,
      origins_step p h.0 (origins p) n (length c.add_class.new.builders.items) c.loop-class.class-index p.classes class c.in_ok-add_class.ensures.next there h.2,
      c.in_ok-add_class.ensures.next ∙ ap (λ z. z + 1) h.3,
    )
