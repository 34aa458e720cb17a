use Rattle.std.proofs.Common.{◌≡◌, ℕ, true, false, eqb, eq-eqb, sym, ap, ◌∙◌, subst, arith}
use Rattle.std.proofs.lemmas.Bool.{eqb-true}
use mathlib.Core.Option.{none}
use mathlib.Core.Logic.{dite}
use native.Mathlib.Decide.{ℕ_discrete}
use prog.Atomic.{either}
use Rattle.atomic_table.specs.Table.{Allows, step}
use Rattle.chord_code.specs.Meaning.{code_program}
use Rattle.chord_word.specs.declared.cells.Cell.TheVariants as a_cell
use Rattle.chord_rule.specs.Layout.{cell_at}
use Rattle.chord_rule.specs.Tells.{word, bypasses_cell}
use Rattle.chord_rule.proofs.Bypassing.{bypass_cell_step}
use Rattle.chord_space.specs.Ruled.{Ruled}
use Rattle.chord_space.proofs.Nexts.{consumed_fits}
use Rattle.chord_space.proofs.Settling.{settling, stays_settled}
use Rattle.chord_space.proofs.Under.{under_rule}
use Rattle.chord_space.proofs.space.Space.bypass_next.Goals as goal

pub compare_exchange-found-requires : goal.compare_exchange-found-requires
compare_exchange-found-requires g c = let sized = c.args.self.now.sized in let key = c.args.self.now.table.shared.key in let n : ℕ = key.limits.events in let seat = c.args.desk.now.seat in let live = c.args.desk.now.settled.6 in
    let keeps : g.row.P.Denot → Type 0 = λ q. g.P.Carry.keeps_to q key.code.value key.limits in let p = code_program key.code.value key.limits in
    let i : ℕ = c.args.i in let from = c.args.from in let to = c.args.to in let bounds = c.requires.bounds in let events = c.args.self.now.events in (
      c.requires.desk,
      c.cell_word.ensures.inside,
      subst (λ (y : ℕ × ℕ × ℕ × ℕ). Allows (Ruled g.P.Carry.entries g.P.Carry.arguments g.P.Carry.keeps_to key.code.value key.limits) y.0 seat.id seat.me y.3 (λ x. either (eqb x y.1) y.2 x) (bypasses_cell (step y.0 y.3 y.1 y.2 none) seat.me))
          (λ k. ((sized.0 ∙ sym sized.2) k, sym c.message_word-first.ensures k, sym c.message_word-last.ensures k, sym c.cell_word.ensures.word k))
          (under_rule g.P.Carry.entries g.P.Carry.arguments g.P.Carry.keeps_to key.code.value key.limits n seat.id seat.me (cell_at i) (λ x. either (eqb x (word a_cell.Consumed from)) (word a_cell.Consumed to) x) (bypasses_cell (step n (cell_at i) (word a_cell.Consumed from) (word a_cell.Consumed to) none) seat.me)
          (bypass_cell_step g.P.Carry.entries g.P.Carry.arguments keeps p n _ (omega arith) (omega arith) seat.id seat.me i from to live (omega arith) (consumed_fits events from (omega arith) bounds.1) (consumed_fits events to (omega arith) bounds.2) c.requires.past)),
    )

pub invariant_of-desk : goal.invariant_of-desk
invariant_of-desk g c = let settled = c.args.desk.now.settled in let told = c.compare_exchange-found.ensures.2 c.args.i c.args.from c.args.to c.cell_word.ensures.word c.message_word-first.ensures c.message_word-last.ensures in
    let same : settling c.compare_exchange-found.new.seat.me.0 ≡ settling c.args.desk.now.seat.me.0 = dite (ℕ_discrete c.compare_exchange-found.result c.message_word-first.result) (λ e. ap settling (told.1 e)) (λ ne. ap settling (told.2 ne).4) in
    let t = stays_settled c.args.desk.now.above (settling c.args.desk.now.seat.me.0) (settling c.compare_exchange-found.new.seat.me.0) same (settled.1, settled.2, settled.3, settled.4, settled.5, settled.6, settled.7) in record {
      settled = (told.0 ∙ settled.0, t.0, t.1, t.2, t.3, t.4, t.5, t.6);
    }

pub returns-clause-moved : goal.returns-clause-moved
returns-clause-moved g c = λ hit. let told = c.compare_exchange-found.ensures.2 c.args.i c.args.from c.args.to c.cell_word.ensures.word c.message_word-first.ensures c.message_word-last.ensures in
    told.1 (eqb-true c.compare_exchange-found.result c.message_word-first.result hit)

pub returns-clause-refused : goal.returns-clause-refused
returns-clause-refused g c = λ miss. let told = c.compare_exchange-found.ensures.2 c.args.i c.args.from c.args.to c.cell_word.ensures.word c.message_word-first.ensures c.message_word-last.ensures in
    let other = told.2 (λ e. let z : true ≡ false = sym (eq-eqb c.compare_exchange-found.result c.message_word-first.result e) ∙ miss in absurd (cc)) in
    (other.0, other.2, other.4)

pub returns-clause-alone : goal.returns-clause-alone
returns-clause-alone g c = λ is_first none_lent last. let told = c.compare_exchange-found.ensures.2 c.args.i c.args.from c.args.to c.cell_word.ensures.word c.message_word-first.ensures c.message_word-last.ensures in
    eq-eqb c.compare_exchange-found.result c.message_word-first.result (told.3 is_first none_lent last)
