use Rattle.std.proofs.Common.{ℕ, Option, sym, ap, ◌∙◌, subst, arith}
use mathlib.Core.Option.{none}
use Rattle.atomic_table.specs.Table.{Me, Allows, step}
use Rattle.chord_code.specs.Meaning.{code_program}
use Rattle.chord_rule.specs.declared.view.View.{View}
use Rattle.chord_rule.specs.Layout.{cell_at}
use Rattle.chord_rule.specs.Tells.{holds}
use Rattle.chord_rule.proofs.Moving.{claim_word_step}
use Rattle.chord_space.specs.Ruled.{Ruled}
use Rattle.chord_space.proofs.Settling.{settling, stays_settled}
use Rattle.chord_space.proofs.Under.{under_rule}
use Rattle.chord_space.proofs.space.Space.claimed_word.Goals as goal

pub load-requires : goal.load-requires
load-requires g c = let sized = c.args.self.now.sized in let key = c.args.self.now.table.shared.key in let n : ℕ = key.limits.events in let seat = c.args.desk.now.seat in let live = c.args.desk.now.settled.6 in
    let keeps : g.row.P.Denot → Type 0 = λ q. g.P.Carry.keeps_to q key.code.value key.limits in let p = code_program key.code.value key.limits in
    let i : ℕ = c.args.i in let bounds = c.requires.bounds in (
      c.requires.desk,
      c.cell_word.ensures.inside,
      subst (λ (y : ℕ × ℕ). Allows (Ruled g.P.Carry.entries g.P.Carry.arguments g.P.Carry.keeps_to key.code.value key.limits) y.0 seat.id seat.me y.1 (λ x. x) (holds (step y.0 y.1 0 0 none) seat.me)) (λ k. ((sized.0 ∙ sym sized.2) k, sym c.cell_word.ensures.word k))
          (under_rule g.P.Carry.entries g.P.Carry.arguments g.P.Carry.keeps_to key.code.value key.limits n seat.id seat.me (cell_at i) (λ x. x) (holds (step n (cell_at i) 0 0 none) seat.me) (claim_word_step g.P.Carry.entries g.P.Carry.arguments keeps p n _ (omega arith) (omega arith) seat.id seat.me i (omega arith))),
    )

pub invariant_of-desk : goal.invariant_of-desk
invariant_of-desk g c = let settled = c.args.desk.now.settled in let told = c.load.ensures.2 in record {
  settled = (let t = stays_settled c.args.desk.now.above (settling c.args.desk.now.seat.me.0) (settling c.load.new.seat.me.0) (ap (λ (m : Me (Option g.row.P.Denot) View). settling m.0) told.0) (settled.1, settled.2, settled.3, settled.4, settled.5, settled.6, settled.7) in (ap (λ (m : Me (Option g.row.P.Denot) View). m.1) told.0 ∙ settled.0, t.0, t.1, t.2, t.3, t.4, t.5, t.6));
}

pub returns-clause-word : goal.returns-clause-word
returns-clause-word g c = λ claim has num. c.load.ensures.2.1 claim has (c.cell_word.ensures.word ∙ ap (λ (k : ℕ). cell_at k) (sym num))

pub returns-clause-one : goal.returns-clause-one
returns-clause-one g c = λ a b has there num other. c.load.ensures.2.2 a b has there (num ∙ sym other)
