use Rattle.std.proofs.Common.{◌≡◌, ◌++◌, map, drop, List, ℕ}
use Rattle.std.specs.Prelude.{Option}
use Rattle.chord_bodies.specs.Resolved.{LayoutOf}
use Rattle.chord_gen.specs.Translation.{Origin, OfBody}
use Rattle.chord_gen.specs.TypedSource.{source_of}
use Rattle.chord_gen.specs.Building.{IsBuilt}
use Rattle.chord_gen.proofs.building.add_bodies.Given as goal

abbrev pub invariant-loop-member : goal.invariant-loop-member
invariant-loop-member l =
    (plan : LayoutOf) (builders : List (Option ℕ)) (os : List Origin) → IsBuilt (source_of plan l.bodies) l.initial.blocks.items builders l.initial.members.items os
    → (before : List Origin) × IsBuilt (source_of plan l.bodies) l.blocks.items builders l.members.items before × (before ++ map OfBody (drop l.member-index l.own) ≡ os ++ map OfBody l.own)
