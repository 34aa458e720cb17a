use Rattle.std.proofs.Common.{rules, sym, subst, ℕ}
use Rattle.atomic_table.specs.Table.{Splits}
use Rattle.chord_roll.specs.Roll.{IsRoll, hired_one, new_card}
use Rattle.chord_roll.proofs.Steps.{hires_keeps}
use Rattle.chord_roll.proofs.card.Card.hire.Goals as goal

pub split_seat-seat-requires : goal.split_seat-seat-requires
split_seat-seat-requires g = let t = g.args.self.now.seat.me.0 in (
  search rules,
  search rules,
  subst (λ (id : ℕ). Splits IsRoll id t (hired_one t) new_card) (sym g.requires.first.0) (hires_keeps t g.requires.first.1),
)
