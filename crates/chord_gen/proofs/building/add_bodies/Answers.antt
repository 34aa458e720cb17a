use Rattle.std.proofs.Common.{◌+◌, [], ◌∷◌, ◌++◌, map, drop, get_or, sym, ap, ◌∙◌, subst, append_assoc}
use Rattle.chord_gen.specs.Translation.{OfBody}
use Rattle.chord_gen.specs.TypedSource.{source_of}
use Rattle.chord_gen.specs.Building.{IsBuilt}
use Rattle.chord_gen.proofs.Emits.{item_from, none_behind}
use Rattle.chord_gen.proofs.BuiltMore.{none_joined}
use Rattle.chord_gen.proofs.building.add_bodies.Goals as goal

pub loop-member-preserved : goal.loop-member-preserved
loop-member-preserved c =
    λ plan builders os is.
    let h = c.loop-member.invariant plan builders os is in
    let x = get_or c.args.own.now c.loop-member.member-index 0 in
    let step = item_from c.args.own.now c.loop-member.member-index 0 c.loop-member-test.true in
    (h.0 ++ OfBody x ∷ [], c.in_ok-add_body.ensures plan builders h.0 h.1, append_assoc h.0 (OfBody x ∷ []) (map OfBody (drop (c.loop-member.member-index + 1) c.args.own.now)) ∙ ap (λ z. h.0 ++ map OfBody z) (sym step) ∙ h.2)

pub returns : goal.returns
returns c =
    λ plan builders os is.
    let h = c.loop-member.invariant plan builders os is in
    let none = none_behind c.args.own.now c.loop-member.member-index c.loop-member-test.false in
    subst (IsBuilt (source_of plan c.args.bodies.now) c.loop-member.blocks.items builders c.loop-member.members.items) (sym (none_joined h.0) ∙ ap (λ z. h.0 ++ map OfBody z) (sym none) ∙ h.2) h.1
