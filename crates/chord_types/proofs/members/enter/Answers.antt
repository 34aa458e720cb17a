use Rattle.std.proofs.Common.{refl}
use Rattle.chord_tree.specs.View.{see_member}
use Rattle.chord_types.proofs.EnteredMembers.{entered}
use Rattle.chord_types.proofs.members.enter.Goals as goal

pub returns : goal.returns
returns c = entered c.args.table.now c.args.own (see_member c.args.member.now) _ c.declare_formals.new.site c.in_ok-declare_formals.ensures refl refl c.member_in_main.ensures c.member_due.ensures c.new.ensures refl c.new-2.ensures.items
