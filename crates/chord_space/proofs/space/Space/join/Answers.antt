use Rattle.std.proofs.Common.{arith}
use Rattle.chord_code.specs.Meaning.{code_program}
use Rattle.chord_rule.specs.Kinds.{united, gone}
use Rattle.chord_rule.proofs.Moving.{join_step}
use Rattle.chord_space.proofs.Under.{under_join}
use Rattle.chord_space.proofs.space.Space.join.Goals as goal

pub join_seat-requires : goal.join_seat-requires
join_seat-requires g c = let sized = c.args.self.now.sized in let key = c.args.self.now.table.shared.key in let seat = c.args.desk.now.seat in let other = c.args.other.seat in let settled = c.args.other.settled in (
  c.requires.desk.0,
  c.requires.desk.1,
  settled.0,
  omega arith,
  under_join g.P.Carry.entries g.P.Carry.arguments g.P.Carry.keeps_to key.code.value key.limits seat.id other.id seat.me.0 other.me.0 (united seat.me.0 other.me.0) gone (join_step g.P.Carry.entries g.P.Carry.arguments (λ q. g.P.Carry.keeps_to q key.code.value key.limits) (code_program key.code.value key.limits) key.limits.events _ (omega arith) (omega arith) seat.id other.id seat.me.0 other.me.0 c.args.desk.now.settled.6 settled.6 c.requires.first settled.3 c.requires.idle.1 c.requires.idle.0 settled.7 settled.4 settled.5),
)
