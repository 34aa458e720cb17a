use Rattle.std.proofs.Common.{ℕ, ◌+◌, ◌%◌, ◌^◌, List, sym, ◌∙◌, subst, arith}
use mathlib.Core.Option.{none}
use Rattle.atomic_table.specs.Table.{Allows, step}
use Rattle.chord_code.specs.Meaning.{code_program}
use Rattle.chord_code.specs.declared.parts.Parts.{Parts}
use Rattle.chord_base.specs.declared.event.Limits.{Limits}
use Rattle.chord_rule.specs.Tells.{draws_firing}
use Rattle.chord_rule.proofs.Moving.{draw_firing_step}
use Rattle.chord_space.specs.Ruled.{Ruled}
use Rattle.chord_space.proofs.Under.{under_rule}
use Rattle.chord_space.proofs.space.Space.step_draw_firing.Goals as goal

pub fetch_add-requires : goal.fetch_add-requires
fetch_add-requires g c = let sized = c.args.self.now.sized in let key = c.args.self.now.table.shared.key in let n : ℕ = key.limits.events in let seat = c.args.desk.now.seat in let live = c.args.desk.now.settled.6 in
    let keeps : g.row.P.Denot → Type 0 = λ q. g.P.Carry.keeps_to q key.code.value key.limits in let p = code_program key.code.value key.limits in
    let may = c.requires.members in let said = c.requires.entry in let k : ℕ = c.args.chord in let o = c.args.object in let ms = c.args.members.now in (
      c.requires.desk,
      omega arith,
      subst (λ (y : ℕ × ℕ × _ × List ℕ × Parts × Limits). Allows (Ruled g.P.Carry.entries g.P.Carry.arguments g.P.Carry.keeps_to key.code.value key.limits) y.0 seat.id seat.me 0 (λ x. (x + 1) % 2 ^ 64) (draws_firing (code_program y.4 y.5) y.1 y.2 y.3 (step y.0 0 1 0 none) seat.me))
          (λ i. ((sized.0 ∙ sym sized.2) i, sym said.0 i, sym said.1 i, sym said.2 i, sym said.3 i, sym said.4 i))
          (under_rule g.P.Carry.entries g.P.Carry.arguments g.P.Carry.keeps_to key.code.value key.limits n seat.id seat.me 0 (λ x. (x + 1) % 2 ^ 64) (draws_firing p k o ms (step n 0 1 0 none) seat.me)
          (draw_firing_step g.P.Carry.entries g.P.Carry.arguments keeps p n _ (omega arith) (omega arith) seat.id seat.me k o may.methods ms may.values live c.requires.room may.found may.claimed)),
    )
