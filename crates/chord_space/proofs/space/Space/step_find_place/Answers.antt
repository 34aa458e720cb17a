use Rattle.std.proofs.Common.{ℕ, sym, ◌∙◌, subst, arith}
use mathlib.Core.Option.{none}
use Rattle.atomic_table.specs.Table.{Allows, step}
use Rattle.chord_base.specs.declared.event.Limits.{Limits}
use Rattle.chord_code.specs.declared.parts.Parts.{Parts}
use Rattle.chord_code.specs.Meaning.{code_program}
use Rattle.chord_rule.specs.Coming.{IsPlace}
use Rattle.chord_rule.specs.Tells.{finds_place}
use Rattle.chord_rule.proofs.Moving.{find_place_step}
use Rattle.chord_space.specs.Ruled.{Ruled}
use Rattle.chord_space.proofs.Under.{under_rule}
use Rattle.chord_space.proofs.space.Space.step_find_place.Goals as goal

pub load-requires : goal.load-requires
load-requires g c = let sized = c.args.self.now.sized in let key = c.args.self.now.table.shared.key in let n : ℕ = key.limits.events in let seat = c.args.desk.now.seat in let live = c.args.desk.now.settled.6 in
    let keeps : g.row.P.Denot → Type 0 = λ q. g.P.Carry.keeps_to q key.code.value key.limits in let p = code_program key.code.value key.limits in let governed = c.requires.governed in (
      c.requires.desk,
      omega arith,
      subst (λ (y : ℕ × Parts × Limits). Allows (Ruled g.P.Carry.entries g.P.Carry.arguments g.P.Carry.keeps_to key.code.value key.limits) y.0 seat.id seat.me 0 (λ x. x) (finds_place (code_program y.1 y.2) (step y.0 0 0 0 none) seat.me)) (λ k. ((sized.0 ∙ sym sized.2) k, sym governed.0 k, sym governed.1 k))
          (under_rule g.P.Carry.entries g.P.Carry.arguments g.P.Carry.keeps_to key.code.value key.limits n seat.id seat.me 0 (λ x. x) (finds_place p (step n 0 0 0 none) seat.me) (find_place_step g.P.Carry.entries g.P.Carry.arguments keeps p n _ (omega arith) (omega arith) seat.id seat.me live)),
    )

pub returns-clause-place : goal.returns-clause-place
returns-clause-place g c = let governed = c.requires.governed in subst (λ (y : Parts × Limits). IsPlace (code_program y.0 y.1) c.args.desk.now.seat.me.0.kept) (λ k. (governed.0 k, governed.1 k)) c.load.ensures.2.1
