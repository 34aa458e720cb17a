use Rattle.std.proofs.Common.{ℕ, sym, ◌∙◌, subst, arith}
use mathlib.Core.Option.{none}
use Rattle.atomic_table.specs.Table.{Allows, step}
use Rattle.chord_code.specs.Meaning.{code_program}
use Rattle.chord_rule.specs.Tells.{looks_count}
use Rattle.chord_rule.proofs.Seeing.{look_count_step}
use Rattle.chord_space.specs.Ruled.{Ruled}
use Rattle.chord_space.proofs.Under.{under_rule}
use Rattle.chord_space.proofs.space.Space.look_count.Goals as goal

pub load-found-requires : goal.load-found-requires
load-found-requires g c = let sized = c.args.self.now.sized in let key = c.args.self.now.table.shared.key in let n : ℕ = key.limits.events in let seat = c.args.desk.now.seat in let live = c.args.desk.now.settled.6 in
    let keeps : g.row.P.Denot → Type 0 = λ q. g.P.Carry.keeps_to q key.code.value key.limits in let p = code_program key.code.value key.limits in (
      c.requires.desk,
      omega arith,
      subst (λ (y : ℕ). Allows (Ruled g.P.Carry.entries g.P.Carry.arguments g.P.Carry.keeps_to key.code.value key.limits) y seat.id seat.me 0 (λ x. x) (looks_count (step y 0 0 0 none) seat.me)) (sized.0 ∙ sym sized.2)
          (under_rule g.P.Carry.entries g.P.Carry.arguments g.P.Carry.keeps_to key.code.value key.limits n seat.id seat.me 0 (λ x. x) (looks_count (step n 0 0 0 none) seat.me) (look_count_step g.P.Carry.entries g.P.Carry.arguments keeps p n _ (omega arith) (omega arith) seat.id seat.me live)),
    )
