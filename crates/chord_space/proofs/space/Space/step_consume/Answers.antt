use Rattle.std.proofs.Common.{◌≡◌, ℕ, ◌<◌, [], ◌∷◌, Option, Some, None, IsSome, refl, sym, ap, ◌∙◌, subst, arith}
use mathlib.Core.Option.{none}
use mathlib.Core.Path.{Path}
use Rattle.atomic_table.specs.Table.{Me, Allows, step, rest}
use Rattle.chord_code.specs.Meaning.{code_program}
use Rattle.chord_code.specs.declared.parts.Parts.{Parts}
use Rattle.chord_base.specs.declared.event.Limits.{Limits}
use Rattle.chord_word.specs.declared.cells.Cell.TheVariants as a_cell
use Rattle.chord_word.specs.Cells.{link_of}
use Rattle.chord_rule.specs.declared.view.Claim.{Claim}
use Rattle.chord_rule.specs.declared.view.View.{View}
use Rattle.chord_rule.specs.Coming.{ComesWithMessage}
use Rattle.chord_rule.specs.Claims.{HasThe}
use Rattle.chord_base.specs.Story.{AllBelow}
use Rattle.chord_rule.specs.Kinds as kinds
use Rattle.chord_rule.specs.Kinds.{saw}
use Rattle.chord_rule.specs.Layout.{cell_at}
use Rattle.chord_rule.specs.Tells.{word, a_word, consumes, slot_returns}
use Rattle.chord_rule.proofs.Lists.{some_is}
use Rattle.chord_rule.proofs.Moving.{consume_step, empty_step}
use Rattle.chord_space.specs.Ruled.{Ruled}
use Rattle.chord_space.proofs.Slots.{out_slot}
use Rattle.chord_space.proofs.Under.{under_rule}
use Rattle.chord_space.proofs.space.Space.step_consume.Goals as goal

pub consumed_of-word-requires : goal.consumed_of-word-requires
consumed_of-word-requires g c = let claimed = c.requires.fired in let w = c.claimed_word-claimed.ensures.word claimed.0 claimed.2 claimed.3 in record { claimed = (claimed.0.next, w.0, w.1) }

pub store-requires : goal.store-requires
store-requires g c = let sized = c.args.self.now.sized in let key = c.args.self.now.table.shared.key in let n : ℕ = key.limits.events in let d = c.claimed_word-claimed.new.desk in let seat = d.seat in let live = d.settled.6 in
    let keeps : g.row.P.Denot → Type 0 = λ q. g.P.Carry.keeps_to q key.code.value key.limits in let p = code_program key.code.value key.limits in let i : ℕ = c.args.i in let bounds = c.requires.bounds in
    let claimed = c.requires.fired in let claim = claimed.0 in let same = c.claimed_word-claimed.ensures.desk in let governed = c.requires.governed in
    let has : HasThe claim seat.me.0.claims = subst (λ (v : View). HasThe claim v.claims) (sym same.1) claimed.2 in
    let num = claimed.3 in let low : claim.number < n = omega arith in
    let stored : word a_cell.Consumed claim.next ≡ c.consumed_of-word.result = sym (c.consumed_of-word.ensures claim.next (c.claimed_word-claimed.ensures.word claim claimed.2 num).0) in (
      same.0.0 ∙ c.requires.desk,
      c.cell_word-cell.ensures.inside,
      subst (λ (y : ℕ × ℕ × ℕ × Parts × Limits). Allows (Ruled g.P.Carry.entries g.P.Carry.arguments g.P.Carry.keeps_to key.code.value key.limits) y.0 seat.id seat.me y.1 (λ _. y.2) (λ _. consumes (code_program y.3 y.4) g.P.Carry.entries g.P.Carry.arguments (λ q. g.P.Carry.keeps_to q y.3 y.4) (step y.0 y.1 y.2 0 none) seat.me y.2)) (λ k. ((sized.0 ∙ sym sized.2) k, (ap (λ (n : ℕ). cell_at n) num ∙ sym c.cell_word-cell.ensures.word) k, stored k, sym governed.0 k, sym governed.1 k))
          (under_rule g.P.Carry.entries g.P.Carry.arguments g.P.Carry.keeps_to key.code.value key.limits n seat.id seat.me (cell_at claim.number) (λ _. word a_cell.Consumed claim.next) (λ _. consumes p g.P.Carry.entries g.P.Carry.arguments keeps (step n (cell_at claim.number) (word a_cell.Consumed claim.next) 0 none) seat.me (word a_cell.Consumed claim.next))
          (consume_step g.P.Carry.entries g.P.Carry.arguments keeps p n _ (omega arith) (omega arith) seat.id seat.me claim claimed.1 live low has claimed.4 d.settled.7)),
    )

pub exchange-parcel-requires : goal.exchange-parcel-requires
exchange-parcel-requires g c = let claimed = c.requires.fired in let claim = claimed.0 in let f = claimed.1 in let same = c.claimed_word-claimed.ensures.desk in let i : ℕ = c.args.i in let d = c.claimed_word-claimed.new.desk in let settled = d.settled in let num = claimed.3 in
    let has : HasThe claim d.seat.me.0.claims = subst (λ (v : View). HasThe claim v.claims) (sym same.1) claimed.2 in
    let told = c.store.ensures.2 claim f has (c.cell_word-cell.ensures.word ∙ ap (λ (k : ℕ). cell_at k) (sym num)) claimed.4 in
    let held : c.store.new.seat.me.1 ≡ (i, Some told.0) ∷ [] = told.2 ∙ (λ k. (num k, Some told.0) ∷ settled.0 k) in
    (c.store.ensures.0 ∙ same.0.0 ∙ c.requires.desk, (Some told.0, held ∙ (λ k. (i, Some told.0) ∷ sym (ap rest held) k)))

pub load-requires : goal.load-requires
load-requires g c = let sized = c.args.self.now.sized in let key = c.args.self.now.table.shared.key in let n : ℕ = key.limits.events in let keeps : g.row.P.Denot → Type 0 = λ q. g.P.Carry.keeps_to q key.code.value key.limits in let p = code_program key.code.value key.limits in let bounds = c.requires.bounds in
    let claimed = c.requires.fired in let claim = claimed.0 in let f = claimed.1 in let same = c.claimed_word-claimed.ensures.desk in let i : ℕ = c.args.i in let d = c.claimed_word-claimed.new.desk in let settled = d.settled in let num = claimed.3 in
    let has : HasThe claim d.seat.me.0.claims = subst (λ (v : View). HasThe claim v.claims) (sym same.1) claimed.2 in
    let told = c.store.ensures.2 claim f has (c.cell_word-cell.ensures.word ∙ ap (λ (k : ℕ). cell_at k) (sym num)) claimed.4 in
    let held : c.store.new.seat.me.1 ≡ (i, Some told.0) ∷ [] = told.2 ∙ (λ k. (num k, Some told.0) ∷ settled.0 k) in
    let v : View = saw (kinds.consumed d.seat.me.0 claim.number (g.P.Carry.entries told.0)) claim.number (a_word a_cell.Consumed claim.next) in
    let me : c.exchange-parcel.new.seat.me ≡ (v, (i, None) ∷ []) = c.exchange-parcel.ensures.3 ∙ (λ k. (told.1 k, (i, None) ∷ ap rest held k)) in
    let seat = c.exchange-parcel.new.seat in (
      c.exchange-parcel.ensures.0 ∙ c.store.ensures.0 ∙ same.0.0 ∙ c.requires.desk,
      c.cell_word-cell.ensures.inside,
      subst (λ (y : ℕ × Me (Option g.row.P.Denot) View × ℕ). Allows (Ruled g.P.Carry.entries g.P.Carry.arguments g.P.Carry.keeps_to key.code.value key.limits) y.0 seat.id y.1 y.2 (λ x. x) (slot_returns (step y.0 y.2 0 0 none) y.1)) (λ k. ((sized.0 ∙ sym sized.2) k, sym me k, sym c.cell_word-cell.ensures.word k))
          (under_rule g.P.Carry.entries g.P.Carry.arguments g.P.Carry.keeps_to key.code.value key.limits n seat.id (v, (i, None) ∷ []) (cell_at i) (λ x. x) (slot_returns (step n (cell_at i) 0 0 none) (v, (i, None) ∷ [])) (empty_step g.P.Carry.entries g.P.Carry.arguments keeps p n _ (omega arith) (omega arith) seat.id v i settled.6 (omega arith) (ap (λ (k : ℕ). Some k) num))),
    )

pub invariant_of-desk : goal.invariant_of-desk
invariant_of-desk g c = let claimed = c.requires.fired in let claim = claimed.0 in let f = claimed.1 in let same = c.claimed_word-claimed.ensures.desk in let i : ℕ = c.args.i in let d = c.claimed_word-claimed.new.desk in let settled = d.settled in let num = claimed.3 in
    let has : HasThe claim d.seat.me.0.claims = subst (λ (v : View). HasThe claim v.claims) (sym same.1) claimed.2 in
    let told = c.store.ensures.2 claim f has (c.cell_word-cell.ensures.word ∙ ap (λ (k : ℕ). cell_at k) (sym num)) claimed.4 in
    let held : c.store.new.seat.me.1 ≡ (i, Some told.0) ∷ [] = told.2 ∙ (λ k. (num k, Some told.0) ∷ settled.0 k) in
    let v : View = saw (kinds.consumed d.seat.me.0 claim.number (g.P.Carry.entries told.0)) claim.number (a_word a_cell.Consumed claim.next) in
    let me : c.exchange-parcel.new.seat.me ≡ (v, (i, None) ∷ []) = c.exchange-parcel.ensures.3 ∙ (λ k. (told.1 k, (i, None) ∷ ap rest held k)) in
    let home = c.load.ensures.2 i (ap (λ (m : Me (Option g.row.P.Denot) View). m.0.emptying) me ∙ ap (λ (k : ℕ). Some k) num) (ap (λ (m : Me (Option g.row.P.Denot) View). m.1) me) in
    let view : c.load.new.seat.me.0 ≡ kinds.emptied v = ap (λ (m : Me (Option g.row.P.Denot) View). m.0) home ∙ ap (λ (m : Me (Option g.row.P.Denot) View). kinds.emptied m.0) me in record {
      settled = (
        ap (λ (m : Me (Option g.row.P.Denot) View). m.1) home,
        settled.1 ∙ sym (ap (λ (w : View). link_of w.above) view),
        settled.2,
        ap (λ (w : View). w.placing) view ∙ settled.3,
        ap (λ (w : View). w.posting) view ∙ settled.4,
        ap (λ (w : View). w.starting) view ∙ settled.5,
        ap (λ (w : View). w.gone) view ∙ settled.6,
        ap (λ (w : View). w.emptying) view,
      );
    }

pub unwrap-requires : goal.unwrap-requires
unwrap-requires g c = let claimed = c.requires.fired in let claim = claimed.0 in let f = claimed.1 in let same = c.claimed_word-claimed.ensures.desk in let i : ℕ = c.args.i in let d = c.claimed_word-claimed.new.desk in let settled = d.settled in let num = claimed.3 in
    let has : HasThe claim d.seat.me.0.claims = subst (λ (v : View). HasThe claim v.claims) (sym same.1) claimed.2 in
    let told = c.store.ensures.2 claim f has (c.cell_word-cell.ensures.word ∙ ap (λ (k : ℕ). cell_at k) (sym num)) claimed.4 in
    let held : c.store.new.seat.me.1 ≡ (i, Some told.0) ∷ [] = told.2 ∙ (λ k. (num k, Some told.0) ∷ settled.0 k) in
    subst (λ (r : Option g.row.P.Denot). IsSome r) (out_slot i (Some told.0) c.exchange-parcel.result c.store.new.seat.me.1 [] (rest c.store.new.seat.me.1) held c.exchange-parcel.ensures.2) refl

pub returns-clause-taken : goal.returns-clause-taken
returns-clause-taken g c = let claimed = c.requires.fired in let claim = claimed.0 in let f = claimed.1 in let same = c.claimed_word-claimed.ensures.desk in let i : ℕ = c.args.i in let d = c.claimed_word-claimed.new.desk in let settled = d.settled in let num = claimed.3 in
    let has : HasThe claim d.seat.me.0.claims = subst (λ (v : View). HasThe claim v.claims) (sym same.1) claimed.2 in
    let told = c.store.ensures.2 claim f has (c.cell_word-cell.ensures.word ∙ ap (λ (k : ℕ). cell_at k) (sym num)) claimed.4 in
    let held : c.store.new.seat.me.1 ≡ (i, Some told.0) ∷ [] = told.2 ∙ (λ k. (num k, Some told.0) ∷ settled.0 k) in
    let v : View = saw (kinds.consumed d.seat.me.0 claim.number (g.P.Carry.entries told.0)) claim.number (a_word a_cell.Consumed claim.next) in
    let me : c.exchange-parcel.new.seat.me ≡ (v, (i, None) ∷ []) = c.exchange-parcel.ensures.3 ∙ (λ k. (told.1 k, (i, None) ∷ ap rest held k)) in
    let home = c.load.ensures.2 i (ap (λ (m : Me (Option g.row.P.Denot) View). m.0.emptying) me ∙ ap (λ (k : ℕ). Some k) num) (ap (λ (m : Me (Option g.row.P.Denot) View). m.1) me) in
    let was : Path (Option g.row.P.Denot) (Some told.0) (Some c.unwrap.result) = out_slot i (Some told.0) c.exchange-parcel.result c.store.new.seat.me.1 [] (rest c.store.new.seat.me.1) held c.exchange-parcel.ensures.2 ∙ c.unwrap.ensures in
    let it : told.0 ≡ c.unwrap.result = (let e = was in cc) in
    λ other there number. let one : claim ≡ other = c.claimed_word-claimed.ensures.one claim other claimed.2 there num number in
    ap (λ (m : Me (Option g.row.P.Denot) View). m.0) home ∙ ap (λ (m : Me (Option g.row.P.Denot) View). kinds.emptied m.0) me ∙ (λ k. kinds.emptied (saw (kinds.consumed (same.1 k) (num k) (g.P.Carry.entries (it k))) (num k) (a_word a_cell.Consumed (one k).next)))

pub returns-clause-parcel : goal.returns-clause-parcel
returns-clause-parcel g c = let claimed = c.requires.fired in let claim = claimed.0 in let f = claimed.1 in let same = c.claimed_word-claimed.ensures.desk in let i : ℕ = c.args.i in let d = c.claimed_word-claimed.new.desk in let settled = d.settled in let num = claimed.3 in
    let has : HasThe claim d.seat.me.0.claims = subst (λ (v : View). HasThe claim v.claims) (sym same.1) claimed.2 in
    let told = c.store.ensures.2 claim f has (c.cell_word-cell.ensures.word ∙ ap (λ (k : ℕ). cell_at k) (sym num)) claimed.4 in
    let held : c.store.new.seat.me.1 ≡ (i, Some told.0) ∷ [] = told.2 ∙ (λ k. (num k, Some told.0) ∷ settled.0 k) in
    let was : Path (Option g.row.P.Denot) (Some told.0) (Some c.unwrap.result) = out_slot i (Some told.0) c.exchange-parcel.result c.store.new.seat.me.1 [] (rest c.store.new.seat.me.1) held c.exchange-parcel.ensures.2 ∙ c.unwrap.ensures in
    let it : told.0 ≡ c.unwrap.result = (let e = was in cc) in
    λ other there number. let one : claim ≡ other = c.claimed_word-claimed.ensures.one claim other claimed.2 there num number in
    ap g.P.Carry.arguments (sym it) ∙ told.3 ∙ ap (λ (y : Claim). y.values) one

pub returns-clause-below : goal.returns-clause-below
returns-clause-below g c = let claimed = c.requires.fired in let claim = claimed.0 in let f = claimed.1 in let same = c.claimed_word-claimed.ensures.desk in let i : ℕ = c.args.i in let d = c.claimed_word-claimed.new.desk in let settled = d.settled in let num = claimed.3 in
    let has : HasThe claim d.seat.me.0.claims = subst (λ (v : View). HasThe claim v.claims) (sym same.1) claimed.2 in
    let told = c.store.ensures.2 claim f has (c.cell_word-cell.ensures.word ∙ ap (λ (k : ℕ). cell_at k) (sym num)) claimed.4 in
    let held : c.store.new.seat.me.1 ≡ (i, Some told.0) ∷ [] = told.2 ∙ (λ k. (num k, Some told.0) ∷ settled.0 k) in
    let was : Path (Option g.row.P.Denot) (Some told.0) (Some c.unwrap.result) = out_slot i (Some told.0) c.exchange-parcel.result c.store.new.seat.me.1 [] (rest c.store.new.seat.me.1) held c.exchange-parcel.ensures.2 ∙ c.unwrap.ensures in
    let it : told.0 ≡ c.unwrap.result = (let e = was in cc) in
    λ other h there number firing. let one : claim ≡ other = c.claimed_word-claimed.ensures.one claim other claimed.2 there num number in
    let same_firing : f ≡ h = some_is f h (sym claimed.4 ∙ ap (λ (y : Claim). y.firing) one ∙ firing) in
    subst (λ (y : ℕ × g.row.P.Denot). AllBelow y.0 (g.P.Carry.entries y.1)) (λ k. (same_firing k, it k)) told.4

pub returns-clause-task : goal.returns-clause-task
returns-clause-task g c = let claimed = c.requires.fired in let claim = claimed.0 in let f = claimed.1 in let same = c.claimed_word-claimed.ensures.desk in let i : ℕ = c.args.i in let d = c.claimed_word-claimed.new.desk in let settled = d.settled in let num = claimed.3 in
    let has : HasThe claim d.seat.me.0.claims = subst (λ (v : View). HasThe claim v.claims) (sym same.1) claimed.2 in
    let told = c.store.ensures.2 claim f has (c.cell_word-cell.ensures.word ∙ ap (λ (k : ℕ). cell_at k) (sym num)) claimed.4 in
    let held : c.store.new.seat.me.1 ≡ (i, Some told.0) ∷ [] = told.2 ∙ (λ k. (num k, Some told.0) ∷ settled.0 k) in
    let was : Path (Option g.row.P.Denot) (Some told.0) (Some c.unwrap.result) = out_slot i (Some told.0) c.exchange-parcel.result c.store.new.seat.me.1 [] (rest c.store.new.seat.me.1) held c.exchange-parcel.ensures.2 ∙ c.unwrap.ensures in
    let it : told.0 ≡ c.unwrap.result = (let e = was in cc) in
    let governed = c.requires.governed in subst (λ (y : g.row.P.Denot × Parts × Limits). g.P.Carry.keeps_to y.0 y.1 y.2) (λ k. (it k, governed.0 k, governed.1 k)) told.5

pub returns-clause-comes : goal.returns-clause-comes
returns-clause-comes g c = let claimed = c.requires.fired in let claim = claimed.0 in let f = claimed.1 in let same = c.claimed_word-claimed.ensures.desk in let i : ℕ = c.args.i in let d = c.claimed_word-claimed.new.desk in let settled = d.settled in let num = claimed.3 in
    let has : HasThe claim d.seat.me.0.claims = subst (λ (v : View). HasThe claim v.claims) (sym same.1) claimed.2 in
    let told = c.store.ensures.2 claim f has (c.cell_word-cell.ensures.word ∙ ap (λ (k : ℕ). cell_at k) (sym num)) claimed.4 in
    let held : c.store.new.seat.me.1 ≡ (i, Some told.0) ∷ [] = told.2 ∙ (λ k. (num k, Some told.0) ∷ settled.0 k) in
    let was : Path (Option g.row.P.Denot) (Some told.0) (Some c.unwrap.result) = out_slot i (Some told.0) c.exchange-parcel.result c.store.new.seat.me.1 [] (rest c.store.new.seat.me.1) held c.exchange-parcel.ensures.2 ∙ c.unwrap.ensures in
    let it : told.0 ≡ c.unwrap.result = (let e = was in cc) in
    let governed = c.requires.governed in
    λ other there number. let one : claim ≡ other = c.claimed_word-claimed.ensures.one claim other claimed.2 there num number in
    subst (λ (y : g.row.P.Denot × Parts × Limits × View × Claim). ComesWithMessage (code_program y.1 y.2) y.3.kept y.4 (g.P.Carry.entries y.0)) (λ k. (it k, governed.0 k, governed.1 k, same.1 k, one k)) told.6
