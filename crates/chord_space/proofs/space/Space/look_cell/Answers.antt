use Rattle.std.proofs.Common.{◌≡◌, ℕ, sym, ap, ◌∙◌, subst, arith}
use mathlib.Core.Option.{none}
use Rattle.atomic_table.specs.Table.{Allows, step}
use Rattle.chord_code.specs.Meaning.{code_program}
use Rattle.chord_word.specs.declared.cells.Word.{Word}
use Rattle.chord_rule.specs.Layout.{cell_at}
use Rattle.chord_rule.specs.Tells.{IsLook, looks_cell}
use Rattle.chord_rule.proofs.Seeing.{look_cell_step}
use Rattle.chord_space.specs.Ruled.{Ruled}
use Rattle.chord_space.proofs.Settling.{settling, stays_settled}
use Rattle.chord_space.proofs.Under.{under_rule}
use Rattle.chord_space.proofs.space.Space.look_cell.Goals as goal

pub load-found-requires : goal.load-found-requires
load-found-requires g c = let sized = c.args.self.now.sized in let key = c.args.self.now.table.shared.key in let n : ℕ = key.limits.events in let seat = c.args.desk.now.seat in let live = c.args.desk.now.settled.6 in
    let keeps : g.row.P.Denot → Type 0 = λ q. g.P.Carry.keeps_to q key.code.value key.limits in let p = code_program key.code.value key.limits in
    let i : ℕ = c.args.i in let bounds = c.requires.bounds in (
      c.requires.desk,
      c.cell_word.ensures.inside,
      subst (λ (y : ℕ × ℕ). Allows (Ruled g.P.Carry.entries g.P.Carry.arguments g.P.Carry.keeps_to key.code.value key.limits) y.0 seat.id seat.me y.1 (λ x. x) (looks_cell (step y.0 y.1 0 0 none) seat.me)) (λ k. ((sized.0 ∙ sym sized.2) k, sym c.cell_word.ensures.word k))
          (under_rule g.P.Carry.entries g.P.Carry.arguments g.P.Carry.keeps_to key.code.value key.limits n seat.id seat.me (cell_at i) (λ x. x) (looks_cell (step n (cell_at i) 0 0 none) seat.me) (look_cell_step g.P.Carry.entries g.P.Carry.arguments keeps p n _ (omega arith) (omega arith) seat.id seat.me i live (omega arith))),
    )

pub invariant_of-desk : goal.invariant_of-desk
invariant_of-desk g c = let settled = c.args.desk.now.settled in let told = c.load-found.ensures.2 c.args.i c.cell_word.ensures.word in record {
  settled = (let t = stays_settled c.args.desk.now.above (settling c.args.desk.now.seat.me.0) (settling c.load-found.new.seat.me.0) (ap settling told.3.looked) (settled.1, settled.2, settled.3, settled.4, settled.5, settled.6, settled.7) in (told.4 ∙ settled.0, t.0, t.1, t.2, t.3, t.4, t.5, t.6));
}

pub unpack_cell-requires : goal.unpack_cell-requires
unpack_cell-requires g c = let told = c.load-found.ensures.2 c.args.i c.cell_word.ensures.word in record { cell = (told.0, told.1, sym told.2) }

pub returns-clause-looked : goal.returns-clause-looked
returns-clause-looked g c = let told = c.load-found.ensures.2 c.args.i c.cell_word.ensures.word in let sized = c.args.self.now.sized in
    let same : told.0 ≡ c.unpack_cell.result = sym (c.unpack_cell.ensures.back told.0 told.1 (sym told.2)) in
    subst (λ (y : ℕ × Word). IsLook y.0 c.args.desk.now.seat.me.0 c.load-found.new.seat.me.0 c.args.i y.1) (λ k. (sized.2 k, same k)) told.3
