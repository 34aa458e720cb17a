use Rattle.std.proofs.Common.{◌-◌, ◌≤◌, length, map, replicate, None}
use Rattle.chord_code.specs.Headers.{HasHeader}
use Rattle.chord_code.specs.Meaning.{methods_of}
use Rattle.chord_rule.specs.declared.view.View.{View}
use Rattle.chord_space.specs.Desks.{view, IsDeskOf, IsSameDesk}
use Rattle.chord_match.specs.Searching.{Searching, AreStuck, KnowsBeside}
use Rattle.chord_match.specs.Noting.{all_told}
use Rattle.chord_match.proofs.search.through_several.Given as goal

abbrev pub decreases-loop-at : goal.decreases-loop-at
decreases-loop-at g l = length l.lines - l.at

abbrev pub invariant-loop-at : goal.invariant-loop-at
invariant-loop-at g l = IsDeskOf l.space l.desk × IsSameDesk l.fn.desk l.desk
    × ((l.from ≤ l.at) × (l.at ≤ length l.lines) × HasHeader l.own.method (map methods_of l.lines) l.at)
    × ((v : View) → Searching l.space.events v (view l.fn.desk) l.object l.own (replicate 16 None) → Searching l.space.events v (view l.desk) l.object l.own (all_told l.known) × AreStuck l.own (map methods_of l.lines) l.at (all_told l.known) l.busy × KnowsBeside l.own (map methods_of l.lines) (all_told l.known))
