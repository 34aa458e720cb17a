use Rattle.std.proofs.Common.{◌≡◌, ℕ, ◌<◌, Option, sym, ap, ◌∙◌, subst, arith}
use mathlib.Core.Option.{none}
use Rattle.atomic_table.specs.Table.{Me, Allows, step}
use Rattle.chord_code.specs.Meaning.{code_program}
use Rattle.chord_word.specs.declared.cells.Cell.TheVariants as a_cell
use Rattle.chord_rule.specs.declared.view.View.{View}
use Rattle.chord_rule.specs.Claims.{HasThe}
use Rattle.chord_rule.specs.Kinds as kinds
use Rattle.chord_rule.specs.Kinds.{saw}
use Rattle.chord_rule.specs.Layout.{cell_at}
use Rattle.chord_rule.specs.Tells.{word, a_word, unclaims}
use Rattle.chord_rule.proofs.Moving.{give_step}
use Rattle.chord_space.specs.Ruled.{Ruled}
use Rattle.chord_space.proofs.Settling.{settling, stays_settled}
use Rattle.chord_space.proofs.Under.{under_rule}
use Rattle.chord_space.proofs.space.Space.give_back.Goals as goal

pub pending_again-word-requires : goal.pending_again-word-requires
pending_again-word-requires g c = let claimed = c.requires.claimed in let w = c.claimed_word-claimed.ensures.word claimed.0 claimed.1 claimed.2 in record { claimed = (claimed.0.next, w.0, w.1) }

pub store-requires : goal.store-requires
store-requires g c = let sized = c.args.self.now.sized in let key = c.args.self.now.table.shared.key in let n : ℕ = key.limits.events in let d = c.claimed_word-claimed.new.desk in let seat = d.seat in let live = d.settled.6 in
    let keeps : g.row.P.Denot → Type 0 = λ q. g.P.Carry.keeps_to q key.code.value key.limits in let p = code_program key.code.value key.limits in let i : ℕ = c.args.i in let bounds = c.requires.bounds in
    let claimed = c.requires.claimed in let claim = claimed.0 in let same = c.claimed_word-claimed.ensures.desk in
    let has : HasThe claim seat.me.0.claims = subst (λ (v : View). HasThe claim v.claims) (sym same.1) claimed.1 in
    let num = claimed.2 in let low : claim.number < n = omega arith in
    let stored : word a_cell.Pending claim.next ≡ c.pending_again-word.result = sym (c.pending_again-word.ensures claim.next (c.claimed_word-claimed.ensures.word claim claimed.1 num).0) in (
      same.0.0 ∙ c.requires.desk,
      c.cell_word.ensures.inside,
      subst (λ (y : ℕ × ℕ × ℕ). Allows (Ruled g.P.Carry.entries g.P.Carry.arguments g.P.Carry.keeps_to key.code.value key.limits) y.0 seat.id seat.me y.1 (λ _. y.2) (λ _. unclaims (step y.0 y.1 y.2 0 none) seat.me y.2)) (λ k. ((sized.0 ∙ sym sized.2) k, (ap (λ (n : ℕ). cell_at n) num ∙ sym c.cell_word.ensures.word) k, stored k))
          (under_rule g.P.Carry.entries g.P.Carry.arguments g.P.Carry.keeps_to key.code.value key.limits n seat.id seat.me (cell_at claim.number) (λ _. word a_cell.Pending claim.next) (λ _. unclaims (step n (cell_at claim.number) (word a_cell.Pending claim.next) 0 none) seat.me (word a_cell.Pending claim.next))
          (give_step g.P.Carry.entries g.P.Carry.arguments keeps p n _ (omega arith) (omega arith) seat.id seat.me claim live low has claimed.3)),
    )

pub invariant_of-desk : goal.invariant_of-desk
invariant_of-desk g c = let d = c.claimed_word-claimed.new.desk in let settled = d.settled in let claimed = c.requires.claimed in let same = c.claimed_word-claimed.ensures.desk in
    let new = c.store.ensures.2 claimed.0 (subst (λ (v : View). HasThe claimed.0 v.claims) (sym same.1) claimed.1) (c.cell_word.ensures.word ∙ ap (λ (k : ℕ). cell_at k) (sym claimed.2)) in
    let t = stays_settled d.above (settling d.seat.me.0) (settling c.store.new.seat.me.0) (ap (λ (m : Me (Option g.row.P.Denot) View). settling m.0) new) (settled.1, settled.2, settled.3, settled.4, settled.5, settled.6, settled.7) in record {
      settled = (ap (λ (m : Me (Option g.row.P.Denot) View). m.1) new ∙ settled.0, t.0, t.1, t.2, t.3, t.4, t.5, t.6);
    }

pub returns-clause-given : goal.returns-clause-given
returns-clause-given g c = λ claim has num. let same = c.claimed_word-claimed.ensures.desk in
    let new = c.store.ensures.2 claim (subst (λ (v : View). HasThe claim v.claims) (sym same.1) has) (c.cell_word.ensures.word ∙ ap (λ (k : ℕ). cell_at k) (sym num)) in
    ap (λ (m : Me (Option g.row.P.Denot) View). m.0) new ∙ (λ k. saw (kinds.unclaimed (same.1 k) (num k)) (num k) (a_word a_cell.Pending claim.next))
