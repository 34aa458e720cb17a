use Rattle.std.proofs.Common.{◌≡◌, ◌++◌, drop, length, List}
use Rattle.chord_gen.specs.Translation.{Origin, origins_from, origins}
use Rattle.chord_gen.specs.TypedSource.{source_of}
use Rattle.chord_gen.specs.Building.{IsBuilt}
use Rattle.chord_gen.proofs.building.all_blocks.Given as goal

abbrev pub invariant-loop-class : goal.invariant-loop-class
invariant-loop-class l =
    (before : List Origin) × IsBuilt (source_of l.plan l.bodies) l.blocks.items l.builders.items l.members.items before × (before ++ origins_from (source_of l.plan l.bodies) (length l.builders.items) (drop l.class-index l.plan.classes) ≡ origins (source_of l.plan l.bodies)) × (length l.builders.items ≡ l.class-index)
