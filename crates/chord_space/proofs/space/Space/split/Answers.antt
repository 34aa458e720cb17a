use Rattle.std.proofs.Common.{arith}
use Rattle.chord_code.specs.Meaning.{code_program}
use Rattle.chord_rule.specs.Kinds.{lent_one, newcomer}
use Rattle.chord_rule.proofs.Moving.{split_step}
use Rattle.chord_space.proofs.Under.{under_split}
use Rattle.chord_space.proofs.space.Space.split.Goals as goal

pub split_seat-seat-requires : goal.split_seat-seat-requires
split_seat-seat-requires g c = let sized = c.args.self.now.sized in let key = c.args.self.now.table.shared.key in let seat = c.args.desk.now.seat in
    (c.requires.desk, omega arith, under_split g.P.Carry.entries g.P.Carry.arguments g.P.Carry.keeps_to key.code.value key.limits seat.id seat.me.0 (lent_one seat.me.0) newcomer (split_step g.P.Carry.entries g.P.Carry.arguments (λ q. g.P.Carry.keeps_to q key.code.value key.limits) (code_program key.code.value key.limits) key.limits.events _ (omega arith) (omega arith) seat.id seat.me.0 c.args.desk.now.settled.6 c.requires.first.0 c.requires.first.1))
