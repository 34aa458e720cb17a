use Rattle.std.proofs.Common.{ℕ, ◌∙◌, Option, ap, sym, subst, arith}
use mathlib.Core.Option.{none}
use Rattle.atomic_table.specs.Table.{Allows, step}
use Rattle.chord_code.specs.Meaning.{code_program}
use Rattle.chord_space.specs.Ruled.{Ruled}
use Rattle.chord_space.proofs.Under.{under_rule}
use Rattle.chord_rule.specs.Layout.{cell_at}
use Rattle.chord_rule.specs.Tells.{arms, word}
use Rattle.chord_word.specs.declared.cells.Cell.TheVariants as a_cell
use Rattle.chord_rule.proofs.Moving.{arm_step}
use Rattle.chord_space.proofs.space.Space.arm.Goals as goal

pub store-requires : goal.store-requires
store-requires g c = let sized = c.args.self.now.sized in let key = c.args.self.now.table.shared.key in let seat = c.args.desk.now.seat in let i : ℕ = c.args.m in let flight = c.requires.flight in
    let keeps : g.row.P.Denot → Type 0 = λ q. g.P.Carry.keeps_to q key.code.value key.limits in let p = code_program key.code.value key.limits in
    let stored = sym (c.pack-word.ensures.value ∙ ap (λ (o : Option ℕ). word a_cell.Pending o) (c.unpack_head.ensures.back seat.me.0.above (sym c.args.desk.now.settled.1))) in (
      c.requires.desk,
      c.cell_word.ensures.inside,
      subst (λ (y : ℕ × ℕ × ℕ). Allows (Ruled g.P.Carry.entries g.P.Carry.arguments g.P.Carry.keeps_to key.code.value key.limits) y.0 seat.id seat.me y.2 (λ _. y.1) (λ _. arms (step y.0 y.2 y.1 0 none) seat.me y.1)) (λ k. ((sized.0 ∙ sym sized.2) k, stored k, sym c.cell_word.ensures.word k))
          (under_rule g.P.Carry.entries g.P.Carry.arguments g.P.Carry.keeps_to key.code.value key.limits key.limits.events seat.id seat.me (cell_at i) (λ _. word a_cell.Pending seat.me.0.above) (λ _. arms (step key.limits.events (cell_at i) (word a_cell.Pending seat.me.0.above) 0 none) seat.me (word a_cell.Pending seat.me.0.above)) (arm_step g.P.Carry.entries g.P.Carry.arguments keeps p key.limits.events _ (omega arith) (omega arith) seat.id seat.me i c.args.desk.now.settled.6 (omega arith) flight.0)),
    )
