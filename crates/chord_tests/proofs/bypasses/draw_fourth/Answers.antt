use Rattle.std.proofs.Common.{◌+◌}
use Rattle.chord_space.specs.Desks.{view, space_code, space_limits}
use Rattle.chord_tests.proofs.Bypassing.{may_fire_members, two_members, drawn_both}
use Rattle.chord_tests.proofs.bypasses.draw_fourth.Goals as goal

pub draw_firing-requires-clause-members : goal.draw_firing-requires-clause-members
draw_firing-requires-clause-members c =
    let s = c.args.space.now in
    let members = two_members c.new-members.result c.push.new.self c.push-2.new.self c.new-members.ensures c.push.ensures c.push-2.ensures in
    may_fire_members s.events (space_code s) (space_limits s) (view c.args.desk.now) c.push-2.new.self c.requires.table.0 c.requires.table.1 members c.requires.desk.1

pub returns-clause-drawn : goal.returns-clause-drawn
returns-clause-drawn c =
    let s = c.args.space.now in let v = view c.args.desk.now in
    let members = two_members c.new-members.result c.push.new.self c.push-2.new.self c.new-members.ensures c.push.ensures c.push-2.ensures in
    let may = may_fire_members s.events (space_code s) (space_limits s) v c.push-2.new.self c.requires.table.0 c.requires.table.1 members c.requires.desk.1 in
    drawn_both v (view c.draw_firing.new.desk) c.in-Ok-eq4.field-0 c.push-2.new.self may.values (c.in-Ok-eq4.field-0 + 1) c.requires.desk.1 c.in-Ok-eq4.field-0-test members (c.in-Ok-eq4.ensures.drawn.2 may.methods may.values may.found may.claimed).0
