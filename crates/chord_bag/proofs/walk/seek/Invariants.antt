use Rattle.std.proofs.Common.{◌-◌}
use Rattle.chord_rule.specs.Made.{key}
use Rattle.chord_rule.specs.Ways.{IsAloneDesk}
use Rattle.chord_space.specs.Desks.{view, IsDeskOf, IsSameDesk}
use Rattle.chord_bag.specs.Seeking.{BeganAtHead, KeepsHeads}
use Rattle.chord_bag.specs.Walking.{Going, IsAtHead, gone_so_far}
use Rattle.chord_bag.proofs.walk.seek.Given as goal

abbrev pub decreases-loop-place : goal.decreases-loop-place
decreases-loop-place g l = l.space.events - gone_so_far (view l.desk).looked.ways

abbrev pub invariant-loop-place : goal.invariant-loop-place
invariant-loop-place g l = IsDeskOf l.space l.desk × IsSameDesk l.fn.desk l.desk × Going l.space.events (key l.fn.object l.fn.method) (view l.fn.desk) (view l.desk) l.place l.busy
    × BeganAtHead g.P.Carry.entries g.P.Carry.arguments g.P.Carry.keeps_to l.space (view l.fn.desk) (view l.desk) (key l.fn.object l.fn.method)
    × (IsAloneDesk (view l.fn.desk) → IsAtHead (key l.fn.object l.fn.method) (view l.desk) l.place l.at_head)
    × KeepsHeads (key l.fn.object l.fn.method) (view l.fn.desk) (view l.desk)
