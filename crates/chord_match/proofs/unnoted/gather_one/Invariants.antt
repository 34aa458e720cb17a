use Rattle.std.proofs.Common.{◌+◌, ◌≤◌, drop, length, replicate, None}
use Rattle.chord_rule.specs.declared.view.View.{View}
use Rattle.chord_space.specs.Desks.{view, IsDeskOf, IsSameDesk}
use Rattle.chord_match.specs.Searching.{Searching}
use Rattle.chord_match.proofs.Knowing.{IsFirstGathered}
use Rattle.chord_match.proofs.unnoted.gather_one.Given as goal

abbrev pub invariant-loop-method : goal.invariant-loop-method
invariant-loop-method g l = IsDeskOf l.space l.desk × IsSameDesk l.fn.desk l.desk
    × ((length l.members + length (drop l.method-index l.methods) ≤ 8) × (length l.nexts + length (drop l.method-index l.methods) ≤ 8))
    × ((v : View) → Searching l.space.events v (view l.fn.desk) l.object l.own (replicate 16 None) → IsFirstGathered l.space.events v (view l.fn.desk) (view l.desk) l.object l.own l.methods l.method-index (replicate 16 None) l.fn.members l.members l.fn.nexts l.nexts)
