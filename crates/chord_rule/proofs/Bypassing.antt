-- What bypasses ask of the table.
use Rattle.std.proofs.Common.{◌≡◌, false, ℕ, ◌<◌, ◌≤◌, eqb, List, refl, ap, subst, arith, Option, Some, None}
use mathlib.Core.Option.{none}
use prog.Atomic.{either}
use Rattle.atomic_table.specs.Table.{State, Allows, Me, keeps, step}
use Rattle.chord_base.specs.Meaning.{Program}
use Rattle.chord_base.specs.declared.event.Entry.{Entry}
use Rattle.chord_base.specs.declared.value.Object.{Object}
use Rattle.chord_base.specs.declared.value.Value as value
use Rattle.chord_word.proofs.Packing.{same_link}
use Rattle.chord_word.specs.declared.cells.Cell.TheVariants as a_cell
use Rattle.chord_word.specs.Cells.{word_of, link_of, NextFits}
use Rattle.chord_rule.specs.declared.view.View.{View}
use Rattle.chord_rule.specs.Layout.{cell_at, head_at}
use Rattle.chord_rule.specs.Moment.{Moment, LinkOk}
use Rattle.chord_rule.specs.Bags.{head_number}
use Rattle.chord_rule.specs.Kinds.{saw, saw_head}
use Rattle.chord_rule.specs.Made.{key}
use Rattle.chord_rule.specs.StandsFor.{Unseen}
use Rattle.chord_rule.specs.Tells.{word, a_word, BypassTells, bypasses_head, BypassCellTells, bypasses_cell}
use Rattle.chord_rule.specs.Ways.{WentPast}
use Rattle.chord_rule.specs.Whole.{Held, Whole}
use Rattle.chord_rule.proofs.Bridge.{exchange_cell, exchange_head}
use Rattle.chord_rule.proofs.BypassSteps.{bypassed_order, whole_bypass_head, whole_bypass_cell}
use Rattle.chord_rule.proofs.KeySteps.{head_key}
use Rattle.chord_rule.proofs.Knowing as knowing
use Rattle.chord_rule.proofs.Spreading.{spread_one}
use Rattle.chord_rule.proofs.Wholes as wholes

-- the word of a consumed message tells its next
same_consumed : (a b : Option ℕ) → word a_cell.Consumed a ≡ word a_cell.Consumed b → a ≡ b
same_consumed None None e = refl
same_consumed None (Some y) e = absurd (omega arith)
same_consumed (Some x) None e = absurd (omega arith)
same_consumed (Some x) (Some y) e = let z : x ≡ y = omega arith in ap (λ (k : ℕ). Some k) z

module _ {P : Type 0} (entries : P → List Entry) (arguments : P → List value.Value) (keeps_to : P → Type 0) (p : Program) (n width : ℕ) (any : 0 < n) (small : n ≤ 65536) where
  -- the rule at a moment
  abbrev W : Moment P → Unseen → Type 0
  W = Whole entries arguments keeps_to p n

  -- the table shows a moment that meets the rule
  abbrev H : State (Option P) View → Type 0
  H = Held entries arguments keeps_to p n width

  -- a head is moved past consumed messages, if it is as it was
  pub bypass_head_step : (id : ℕ) (me : Me (Option P) View) (o : Object) (j from : ℕ) (to : Option ℕ) → me.0.gone ≡ false → o.number < n → j < width → width ≤ 16 → LinkOk to → WentPast me.0 from to
      → Allows H n id me (head_at n width o.number j) (λ z. either (eqb z (link_of (Some from))) (link_of to) z) (bypasses_head o j (step n (head_at n width o.number j) (link_of (Some from)) (link_of to) none) me)
  bypass_head_step id me o j from to live low few most fits past = exchange_head Unseen W n width id me o.number j (head_number (key o j)) (Some from) to (bypasses_head o j (step n (head_at n width o.number j) (link_of (Some from)) (link_of to) none) me) low few most (head_key o j (omega arith) (omega arith)) fits
      (λ m u whole at is. (
        saw_head me.0 (head_number (key o j)) to,
        keeps,
        u,
        tt,
        whole_bypass_head entries arguments keeps_to p n small m u whole id me.0 at live (head_number (key o j)) from to is past,
        all_tells (link_of (Some from)) (saw_head me.0 (head_number (key o j)) to, me.1) (refl, (λ _. refl), (λ ne. absurd (ne refl)), (λ _ _ _. refl)),
      ))
      (λ m u whole at good ne. (
        saw_head me.0 (head_number (key o j)) (m.heads (head_number (key o j))),
        keeps,
        u,
        tt,
        wholes.whole_saw_head entries arguments keeps_to p n small m u whole id me.0 at live (head_number (key o j)),
        all_tells (link_of (m.heads (head_number (key o j)))) (saw_head me.0 (head_number (key o j)) (m.heads (head_number (key o j))), me.1) (
          refl,
          (λ e. absurd (ne (same_link (m.heads (head_number (key o j))) (Some from) e))),
          (λ _. (m.heads (head_number (key o j)), refl, good, ne, refl)),
          (λ is_first none_lent last. absurd (ne (knowing.remembered_head entries arguments keeps_to p n small m u whole id me.0 at live is_first none_lent (head_number (key o j)) (Some from) last))),
        ),
      ))
    where
      all_tells : (x : ℕ) (w : Me (Option P) View) → BypassTells (head_number (key o j)) from to (step n (head_at n width o.number j) (link_of (Some from)) (link_of to) none) me x w
          → bypasses_head o j (step n (head_at n width o.number j) (link_of (Some from)) (link_of to) none) me x w
      all_tells x w told from' to' f g = let before : from ≡ from' = omega arith in let next : to ≡ to' = same_link to to' g in
          subst (λ (y : ℕ × Option ℕ). BypassTells (head_number (key o j)) y.0 y.1 (step n (head_at n width o.number j) (link_of (Some from)) (link_of to) none) me x w) (λ k. (before k, next k)) told

  -- the next of a consumed message is moved past consumed messages, if its cell is as it was
  pub bypass_cell_step : (id : ℕ) (me : Me (Option P) View) (i : ℕ) (from to : Option ℕ) → me.0.gone ≡ false → i < n → NextFits a_cell.Consumed from → NextFits a_cell.Consumed to → WentPast me.0 i to
      → Allows H n id me (cell_at i) (λ z. either (eqb z (word a_cell.Consumed from)) (word a_cell.Consumed to) z) (bypasses_cell (step n (cell_at i) (word a_cell.Consumed from) (word a_cell.Consumed to) none) me)
  bypass_cell_step id me i from to live low from_fits to_fits past = exchange_cell Unseen W n width id me i (a_word a_cell.Consumed from) (a_word a_cell.Consumed to) (bypasses_cell (step n (cell_at i) (word a_cell.Consumed from) (word a_cell.Consumed to) none) me) low
      (omega arith, from_fits) (omega arith, to_fits)
      (λ m u whole at is. (
        saw me.0 i (a_word a_cell.Consumed to),
        keeps,
        record u { order = bypassed_order u.order i to },
        tt,
        whole_bypass_cell entries arguments keeps_to p n small m u whole id me.0 at live i from to is past,
        all_tells (word a_cell.Consumed from) (saw me.0 i (a_word a_cell.Consumed to), me.1) (refl, (λ _. refl), (λ ne. absurd (ne refl)), (λ _ _ _. refl)),
      ))
      (λ m u whole at good ne. (
        saw me.0 i (m.cells i),
        keeps,
        u,
        tt,
        wholes.whole_saw entries arguments keeps_to p n small m u whole id me.0 at live i,
        all_tells (word_of (m.cells i)) (saw me.0 i (m.cells i), me.1) (
          refl,
          (λ e. absurd (ne e)),
          (λ _. (m.cells i, good, (λ is. ne (ap word_of is)), refl, refl)),
          (λ is_first none_lent last. absurd (ne (ap word_of (knowing.remembered_cell entries arguments keeps_to p n small m u whole id me.0 at live is_first none_lent i (a_word a_cell.Consumed from) last)))),
        ),
      ))
    where
      all_tells : (x : ℕ) (w : Me (Option P) View) → BypassCellTells i from to (step n (cell_at i) (word a_cell.Consumed from) (word a_cell.Consumed to) none) me x w → bypasses_cell (step n (cell_at i) (word a_cell.Consumed from) (word a_cell.Consumed to) none) me x w
      all_tells x w told i' from' to' e f g = let there : i ≡ i' = spread_one i i' (omega arith) in let before = same_consumed from from' f in let next = same_consumed to to' g in
          subst (λ (y : ℕ × Option ℕ × Option ℕ). BypassCellTells y.0 y.1 y.2 (step n (cell_at i) (word a_cell.Consumed from) (word a_cell.Consumed to) none) me x w) (λ k. (there k, before k, next k)) told
