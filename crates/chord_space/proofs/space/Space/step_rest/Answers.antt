use Rattle.std.proofs.Common.{ℕ, ap, sym, ◌∙◌, subst, arith}
use mathlib.Core.Option.{none}
use Rattle.atomic_table.specs.Table.{Allows, step}
use Rattle.chord_code.specs.Meaning.{code_program}
use Rattle.chord_rule.specs.Layout.{place_at}
use Rattle.chord_rule.specs.Tells.{rests}
use Rattle.chord_rule.proofs.Seeing.{rest_step}
use Rattle.chord_space.specs.Ruled.{Ruled}
use Rattle.chord_space.proofs.Under.{under_rule}
use Rattle.chord_space.proofs.space.Space.step_rest.Goals as goal

pub load-requires : goal.load-requires
load-requires g c = let sized = c.args.self.now.sized in let key = c.args.self.now.table.shared.key in let n : ℕ = key.limits.events in let seat = c.args.desk.now.seat in let live = c.args.desk.now.settled.6 in
    let keeps : g.row.P.Denot → Type 0 = λ q. g.P.Carry.keeps_to q key.code.value key.limits in let p = code_program key.code.value key.limits in
    let may = c.requires.may in let m : ℕ = c.args.m in (
      c.requires.desk,
      c.place_word-quiet.ensures.inside,
      subst (λ (y : ℕ × ℕ × ℕ). Allows (Ruled g.P.Carry.entries g.P.Carry.arguments g.P.Carry.keeps_to key.code.value key.limits) y.0 seat.id seat.me y.2 (λ x. x) (rests y.1 (step y.0 y.2 0 0 none) seat.me)) (λ k. ((sized.0 ∙ sym sized.2) k, (may.2 ∙ sym c.requires.message) k, (ap (λ (e : ℕ). place_at e 0) sized.0 ∙ sym c.place_word-quiet.ensures.word) k))
          (under_rule g.P.Carry.entries g.P.Carry.arguments g.P.Carry.keeps_to key.code.value key.limits n seat.id seat.me (place_at n 0) (λ x. x) (rests may.0.message (step n (place_at n 0) 0 0 none) seat.me)
          (rest_step g.P.Carry.entries g.P.Carry.arguments keeps p n _ (omega arith) (omega arith) seat.id seat.me may.0 live may.1 (λ e h same bag. may.3 e h (same ∙ may.2) bag))),
    )
