use Rattle.std.proofs.Common.{◌≡◌, ◌≢◌, ℕ, eqb, Option, sym, ap, ◌∙◌, subst, arith}
use mathlib.Core.Option.{none}
use mathlib.Core.Logic.{dite}
use native.Mathlib.Decide.{ℕ_discrete}
use prog.Atomic.{either}
use Rattle.atomic_table.specs.Table.{Allows, step}
use Rattle.chord_code.specs.Meaning.{code_program}
use Rattle.chord_word.specs.declared.cells.Cell.TheVariants as a_cell
use Rattle.chord_word.specs.declared.cells.Word.{Word}
use Rattle.chord_rule.specs.Bags.{IsArmed}
use Rattle.chord_rule.specs.Kinds.{saw}
use Rattle.chord_rule.specs.Layout.{cell_at}
use Rattle.chord_rule.specs.Tells.{word, a_word, claims}
use Rattle.chord_rule.proofs.Moving.{claim_step}
use Rattle.chord_space.specs.Ruled.{Ruled}
use Rattle.chord_space.proofs.Nexts.{next_fits}
use Rattle.chord_space.proofs.Settling.{settling, stays_settled}
use Rattle.chord_space.proofs.Under.{under_rule}
use Rattle.chord_space.proofs.space.Space.claim.Goals as goal

pub compare_exchange-found-requires : goal.compare_exchange-found-requires
compare_exchange-found-requires g c = let sized = c.args.self.now.sized in let key = c.args.self.now.table.shared.key in let n : ℕ = key.limits.events in let seat = c.args.desk.now.seat in let live = c.args.desk.now.settled.6 in
    let keeps : g.row.P.Denot → Type 0 = λ q. g.P.Carry.keeps_to q key.code.value key.limits in let p = code_program key.code.value key.limits in
    let i : ℕ = c.args.i in let next = c.args.next in let bounds = c.requires.bounds in (
      c.requires.desk,
      c.cell_word.ensures.inside,
      subst (λ (y : ℕ × ℕ × ℕ × ℕ). Allows (Ruled g.P.Carry.entries g.P.Carry.arguments g.P.Carry.keeps_to key.code.value key.limits) y.0 seat.id seat.me y.3 (λ x. either (eqb x y.1) y.2 x) (claims (step y.0 y.3 y.1 y.2 none) seat.me))
          (λ k. ((sized.0 ∙ sym sized.2) k, sym c.message_word-pending.ensures k, sym c.message_word-claimed.ensures k, sym c.cell_word.ensures.word k))
          (under_rule g.P.Carry.entries g.P.Carry.arguments g.P.Carry.keeps_to key.code.value key.limits n seat.id seat.me (cell_at i) (λ x. either (eqb x (word a_cell.Pending next)) (word a_cell.Claimed next) x) (claims (step n (cell_at i) (word a_cell.Pending next) (word a_cell.Claimed next) none) seat.me)
          (claim_step g.P.Carry.entries g.P.Carry.arguments keeps p n _ (omega arith) (omega arith) seat.id seat.me i next live (omega arith) (next_fits c.args.self.now.events next (omega arith) bounds.1) c.requires.seen)),
    )

pub invariant_of-desk : goal.invariant_of-desk
invariant_of-desk g c = let settled = c.args.desk.now.settled in let told = c.compare_exchange-found.ensures.2 c.args.i c.args.next c.cell_word.ensures.word c.message_word-pending.ensures in
    let same : settling c.compare_exchange-found.new.seat.me.0 ≡ settling c.args.desk.now.seat.me.0 = dite (ℕ_discrete c.compare_exchange-found.result c.message_word-pending.result) (λ e. ap settling (told.1 e).2) (λ ne. ap settling (told.2 ne).4) in
    let t = stays_settled c.args.desk.now.above (settling c.args.desk.now.seat.me.0) (settling c.compare_exchange-found.new.seat.me.0) same (settled.1, settled.2, settled.3, settled.4, settled.5, settled.6, settled.7) in record {
      settled = (told.0 ∙ settled.0, t.0, t.1, t.2, t.3, t.4, t.5, t.6);
    }

pub returns-then-found-pending-clause-claimed : goal.returns-then-found-pending-clause-claimed
returns-then-found-pending-clause-claimed g c = let told = c.compare_exchange-found.ensures.2 c.args.i c.args.next c.cell_word.ensures.word c.message_word-pending.ensures in let new = told.1 c.if-found-pending.true in (new.0, new.1, new.2)

pub unpack_cell-requires : goal.unpack_cell-requires
unpack_cell-requires g c = let told = c.compare_exchange-found.ensures.2 c.args.i c.args.next c.cell_word.ensures.word c.message_word-pending.ensures in let missed = told.2 c.if-found-pending.false in
    record { cell = (missed.0, missed.1, sym missed.3) }

pub returns-clause-refused : goal.returns-clause-refused
returns-clause-refused g c = let told = c.compare_exchange-found.ensures.2 c.args.i c.args.next c.cell_word.ensures.word c.message_word-pending.ensures in let missed = told.2 c.if-found-pending.false in
    let same : missed.0 ≡ c.unpack_cell.result = sym (c.unpack_cell.ensures.back missed.0 missed.1 (sym missed.3)) in
    subst (λ (w : Word). (w.cell ≢ a_cell.Pending) × ((next : Option ℕ) × (c.compare_exchange-found.new.seat.me.0 ≡ saw c.args.desk.now.seat.me.0 c.args.i (a_word w.cell next))) × IsArmed w.cell) same (missed.2, (missed.0.next, missed.4), missed.5)

pub returns-clause-alone : goal.returns-clause-alone
returns-clause-alone g c = let told = c.compare_exchange-found.ensures.2 c.args.i c.args.next c.cell_word.ensures.word c.message_word-pending.ensures in λ is_first none_lent last. absurd (c.if-found-pending.false (told.3 is_first none_lent last))
