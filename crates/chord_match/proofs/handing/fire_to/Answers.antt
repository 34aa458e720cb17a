use Rattle.std.proofs.Common.{ℕ, List, [], length, ◌∙◌, sym, subst, ap, arith}
use Rattle.chord_code.specs.declared.parts.Parts.{Parts}
use Rattle.chord_code.specs.Laws.{ChordsAreRight}
use Rattle.chord_code.specs.Meaning.{code_program}
use Rattle.chord_space.specs.Desks.{view, space_code, space_limits, program_of}
use Rattle.chord_match.specs.Consuming.{Consuming, Handed}
use Rattle.chord_match.proofs.Claims.{taking_first, ready_at, missed_all}
use Rattle.chord_match.proofs.Handovers.{drawn_consuming, is_fired}
use Rattle.chord_match.proofs.handing.fire_to.Goals as goal

pub take_members-requires-clause-right : goal.take_members-requires-clause-right
take_members-requires-clause-right g c =
    let low = c.requires.bounds.0 in let small = c.args.space.now.sized.4 in
    (omega (arith, low, small), subst (λ (z : Parts). ChordsAreRight (code_program z (space_limits c.args.space.now))) c.requires.code (c.chords_are_right.ensures (space_limits c.args.space.now)))

pub take_members-requires-clause-taking : goal.take_members-requires-clause-taking
take_members-requires-clause-taking g c =
    taking_first c.args.space.now.events (program_of c.args.space.now) (view c.args.desk.now) c.args.object c.args.chord c.args.members.now c.args.nexts.now c.requires.seen c.requires.free c.requires.room

pub hand_out-requires : goal.hand_out-requires
hand_out-requires g c =
    let ms = c.args.members.now in let t = c.in-Ok.ensures.taken in let n = c.args.space.now.events in let s = c.requires.seen in let v = view c.args.desk.now in
    let k = subst (λ (z : List ℕ). Consuming n (view c.take_members.new.desk) c.args.object t.1.methods z c.in-Ok.number t.1.values) (sym c.items.ensures.numbers)
    (drawn_consuming n (program_of c.args.space.now) v (view c.take_members.new.desk) c.args.object c.args.chord ms c.in-Ok.number t.1 (λ q l. (ready_at n v c.args.object s.methods ms c.args.nexts.now s.ready q l).below) c.args.desk.now.settled.7) in
    let few = c.items.ensures.few in let e = ap length c.items.ensures.numbers in
    record { desk = c.take_members.ensures.desk.0 ∙ c.requires.desk; consuming = (c.args.object, t.1.methods, c.in-Ok.number, t.1.values, k); room = ([], c.requires.empty, omega (arith, few, e)) }

pub returns-in-Ok-clause-fired : goal.returns-in-Ok-clause-fired
returns-in-Ok-clause-fired g c =
    let ms = c.args.members.now in let t = c.in-Ok.ensures.taken in let n = c.args.space.now.events in let s = c.requires.seen in let p = program_of c.args.space.now in let o = c.args.object in
    let v = view c.args.desk.now in let u = view c.take_members.new.desk in let w = view c.hand_out.new.desk in
    let k = subst (λ (z : List ℕ). Consuming n u o t.1.methods z c.in-Ok.number t.1.values) (sym c.items.ensures.numbers)
    (drawn_consuming n p v u o c.args.chord ms c.in-Ok.number t.1 (λ q l. (ready_at n v o s.methods ms c.args.nexts.now s.ready q l).below) c.args.desk.now.settled.7) in
    let h = c.hand_out.ensures.handed [] o t.1.methods c.in-Ok.number t.1.values c.requires.empty k in
    let handed = subst (λ (z : List ℕ). Handed g.P.Carry.entries g.P.Carry.arguments (λ z. g.P.Carry.keeps_to z (space_code c.args.space.now) (space_limits c.args.space.now)) p u w o t.1.methods z c.in-Ok.number t.1.values h.0) c.items.ensures.numbers h.2 in
    (h.0, h.1, is_fired g.P.Carry.entries g.P.Carry.arguments (λ z. g.P.Carry.keeps_to z (space_code c.args.space.now) (space_limits c.args.space.now)) p n v u w o c.args.chord ms c.in-Ok.number h.0 t.1 t.2 t.0 handed)

pub returns-in-Err-clause-missed : goal.returns-in-Err-clause-missed
returns-in-Err-clause-missed g c = missed_all c.args.space.now.events (view c.args.desk.now) (view c.take_members.new.desk) c.args.members.now c.args.nexts.now c.in-Err.missed c.requires.free c.in-Err.ensures.taken
