use Rattle.std.proofs.Common.{sym, subst}
use Rattle.chord_match.specs.declared.claiming.Missed.{Missed}
use Rattle.chord_match.specs.Fires.{IsFired, IsMissedBy}
use Rattle.chord_space.specs.Desks.{view, space_code, space_limits, program_of}
use Rattle.chord_match.proofs.handing.fire.Goals as goal

pub returns-in-Ok-clause-firing : goal.returns-in-Ok-clause-firing
returns-in-Ok-clause-firing g c =
    let n = c.args.space.now.events in let v = view c.args.desk.now in let w = view c.fire_to.new.desk in let h = c.in-Ok.ensures.fired in
    subst (λ z. IsFired g.P.Carry.entries g.P.Carry.arguments (λ z. g.P.Carry.keeps_to z (space_code c.args.space.now) (space_limits c.args.space.now)) (program_of c.args.space.now) n v w c.args.object c.args.chord c.args.members.now c.in-Ok.number z) (sym h.1) h.2

pub returns-in-Err-Lost-clause-firing : goal.returns-in-Err-Lost-clause-firing
returns-in-Err-Lost-clause-firing g c =
    subst (λ (x : Missed). IsMissedBy c.args.space.now.events (view c.args.desk.now) (view c.fire_to.new.desk) c.args.members.now c.args.nexts.now x) c.in-Err-Lost.field-0-is c.in-Err-Lost.ensures.missed

pub returns-in-Err-Spent-clause-firing : goal.returns-in-Err-Spent-clause-firing
returns-in-Err-Spent-clause-firing g c =
    subst (λ (x : Missed). IsMissedBy c.args.space.now.events (view c.args.desk.now) (view c.fire_to.new.desk) c.args.members.now c.args.nexts.now x) c.in-Err-Spent.field-0-is c.in-Err-Spent.ensures.missed
