use Rattle.std.proofs.Common.{◌+◌, ◌≤◌, drop, length}
use Rattle.chord_rule.specs.declared.view.View.{View}
use Rattle.chord_space.specs.Desks.{view, IsDeskOf, IsSameDesk}
use Rattle.chord_match.specs.Searching.{Searching}
use Rattle.chord_match.specs.Noting.{all_told}
use Rattle.chord_match.proofs.Knowing.{IsPartGathered}
use Rattle.chord_match.proofs.search.gather.Given as goal

abbrev pub invariant-loop-method : goal.invariant-loop-method
invariant-loop-method g l = IsDeskOf l.space l.desk × IsSameDesk l.fn.desk l.desk
    × ((length l.members + length (drop l.method-index l.methods) ≤ 8) × (length l.nexts + length (drop l.method-index l.methods) ≤ 8))
    × ((v : View) → Searching l.space.events v (view l.fn.desk) l.object l.own (all_told l.fn.known) → IsPartGathered l.space.events v (view l.fn.desk) (view l.desk) l.object l.own l.methods (drop l.method-index l.methods) (all_told l.fn.known) (all_told l.known) l.fn.members l.members l.fn.nexts l.nexts)
