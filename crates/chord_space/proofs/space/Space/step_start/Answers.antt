use Rattle.std.proofs.Common.{◌≡◌, ◌≢◌, ℕ, eqb, List, [], ◌∷◌, Option, Some, None, IsSome, refl, sym, ap, ◌∙◌, subst, arith}
use mathlib.Core.Option.{none}
use mathlib.Core.Path.{Path}
use prog.Atomic.{either}
use Rattle.atomic_table.specs.Table.{Me, Allows, step, rest}
use Rattle.chord_base.specs.declared.event.Limits.{Limits}
use Rattle.chord_code.specs.declared.parts.Parts.{Parts}
use Rattle.chord_code.specs.Meaning.{code_program}
use Rattle.chord_word.specs.Cells.{link_of}
use Rattle.chord_rule.specs.Coming.{ComesWithFiring}
use Rattle.chord_rule.specs.declared.view.View.{View}
use Rattle.chord_rule.specs.Kinds.{firing_started, played, saw}
use Rattle.chord_rule.specs.Layout.{cell_at}
use Rattle.chord_rule.specs.Tells.{word, a_word, starts, plays}
use Rattle.chord_word.specs.declared.cells.Cell.TheVariants as a_cell
use Rattle.chord_space.specs.Ruled.{Ruled}
use Rattle.chord_space.proofs.Under.{under_rule}
use Rattle.chord_rule.proofs.Moving.{start_step, play_step}
use Rattle.chord_word.specs.declared.cells.Word.{Word}
use Rattle.chord_space.proofs.Slots.{out_slot}
use Rattle.chord_space.proofs.space.Space.step_start.Goals as goal

pub compare_exchange-found-requires : goal.compare_exchange-found-requires
compare_exchange-found-requires g c = let sized = c.args.self.now.sized in let key = c.args.self.now.table.shared.key in let n : ℕ = key.limits.events in let seat = c.args.desk.now.seat in let f : ℕ = c.args.f in let bounds = c.requires.bounds in let governed = c.requires.governed in
    let p = code_program key.code.value key.limits in let keeps : g.row.P.Denot → Type 0 = λ q. g.P.Carry.keeps_to q key.code.value key.limits in (
      c.requires.desk,
      c.cell_word-cell.ensures.inside,
      subst (λ (y : ℕ × ℕ × ℕ × Parts × Limits × ℕ). Allows (Ruled g.P.Carry.entries g.P.Carry.arguments g.P.Carry.keeps_to key.code.value key.limits) y.0 seat.id seat.me y.5 (λ x. either (eqb x y.1) y.2 x) (starts (code_program y.3 y.4) g.P.Carry.entries (λ q. g.P.Carry.keeps_to q y.3 y.4) (step y.0 y.5 y.1 y.2 none) seat.me))
          (λ k. ((sized.0 ∙ sym sized.2) k, sym c.firing_word-ready.ensures k, sym c.firing_word.ensures k, sym governed.0 k, sym governed.1 k, sym c.cell_word-cell.ensures.word k))
          (under_rule g.P.Carry.entries g.P.Carry.arguments g.P.Carry.keeps_to key.code.value key.limits n seat.id seat.me (cell_at f) (λ x. either (eqb x (word a_cell.Ready None)) (word a_cell.Started None) x) (starts p g.P.Carry.entries keeps (step n (cell_at f) (word a_cell.Ready None) (word a_cell.Started None) none) seat.me) (start_step g.P.Carry.entries g.P.Carry.arguments keeps p n _ (omega arith) (omega arith) seat.id seat.me f c.args.desk.now.settled.6 (omega arith) c.args.desk.now.settled.5)),
    )

pub exchange-parcel-requires : goal.exchange-parcel-requires
exchange-parcel-requires g c = let f : ℕ = c.args.f in let told = (c.compare_exchange-found.ensures.2 f c.cell_word-cell.ensures.word).0 c.if-found-ready.true in
    let held : c.compare_exchange-found.new.seat.me.1 ≡ (f, Some told.0) ∷ [] = told.2 ∙ ap (λ (xs : List (ℕ × Option g.row.P.Denot)). (f, Some told.0) ∷ xs) c.args.desk.now.settled.0 in
    (c.compare_exchange-found.ensures.0 ∙ c.requires.desk, (Some told.0, held ∙ (λ k. (f, Some told.0) ∷ sym (ap rest held) k)))

pub load-requires : goal.load-requires
load-requires g c = let sized = c.args.self.now.sized in let bounds = c.requires.bounds in let key = c.args.self.now.table.shared.key in let n : ℕ = key.limits.events in let f : ℕ = c.args.f in
    let p = code_program key.code.value key.limits in let keeps : g.row.P.Denot → Type 0 = λ q. g.P.Carry.keeps_to q key.code.value key.limits in
    let told = (c.compare_exchange-found.ensures.2 f c.cell_word-cell.ensures.word).0 c.if-found-ready.true in
    let held : c.compare_exchange-found.new.seat.me.1 ≡ (f, Some told.0) ∷ [] = told.2 ∙ ap (λ (xs : List (ℕ × Option g.row.P.Denot)). (f, Some told.0) ∷ xs) c.args.desk.now.settled.0 in
    let v : View = saw (firing_started c.args.desk.now.seat.me.0 f (g.P.Carry.entries told.0)) f (a_word a_cell.Started None) in
    let seat = c.exchange-parcel.new.seat in
    let me : seat.me ≡ (v, (f, None) ∷ []) = c.exchange-parcel.ensures.3 ∙ (λ k. (told.1 k, (f, None) ∷ ap rest held k)) in (
      c.exchange-parcel.ensures.0 ∙ c.compare_exchange-found.ensures.0 ∙ c.requires.desk,
      c.cell_word-cell.ensures.inside,
      subst (λ (y : ℕ × Me (Option g.row.P.Denot) View × ℕ). Allows (Ruled g.P.Carry.entries g.P.Carry.arguments g.P.Carry.keeps_to key.code.value key.limits) y.0 seat.id y.1 y.2 (λ x. x) (plays (step y.0 y.2 0 0 none) y.1)) (λ k. ((sized.0 ∙ sym sized.2) k, sym me k, sym c.cell_word-cell.ensures.word k))
          (under_rule g.P.Carry.entries g.P.Carry.arguments g.P.Carry.keeps_to key.code.value key.limits n seat.id (v, (f, None) ∷ []) (cell_at f) (λ x. x) (plays (step n (cell_at f) 0 0 none) (v, (f, None) ∷ [])) (play_step g.P.Carry.entries g.P.Carry.arguments keeps p n _ (omega arith) (omega arith) seat.id v f c.args.desk.now.settled.6 (omega arith) refl)),
    )

pub invariant_of-desk : goal.invariant_of-desk
invariant_of-desk g c = let f : ℕ = c.args.f in let settled = c.args.desk.now.settled in
    let told = (c.compare_exchange-found.ensures.2 f c.cell_word-cell.ensures.word).0 c.if-found-ready.true in
    let held : c.compare_exchange-found.new.seat.me.1 ≡ (f, Some told.0) ∷ [] = told.2 ∙ ap (λ (xs : List (ℕ × Option g.row.P.Denot)). (f, Some told.0) ∷ xs) settled.0 in
    let v : View = saw (firing_started c.args.desk.now.seat.me.0 f (g.P.Carry.entries told.0)) f (a_word a_cell.Started None) in
    let me : c.exchange-parcel.new.seat.me ≡ (v, (f, None) ∷ []) = c.exchange-parcel.ensures.3 ∙ (λ k. (told.1 k, (f, None) ∷ ap rest held k)) in
    let home = c.load.ensures.2 f (ap (λ (m : Me (Option g.row.P.Denot) View). m.0.starting) me) (ap (λ (m : Me (Option g.row.P.Denot) View). m.1) me) in
    let view : c.load.new.seat.me.0 ≡ played v = ap (λ (m : Me (Option g.row.P.Denot) View). m.0) home ∙ ap (λ (m : Me (Option g.row.P.Denot) View). played m.0) me in record {
      settled = (
        ap (λ (m : Me (Option g.row.P.Denot) View). m.1) home,
        settled.1 ∙ sym (ap (λ (w : View). link_of w.above) view),
        settled.2,
        ap (λ (w : View). w.placing) view ∙ settled.3,
        ap (λ (w : View). w.posting) view ∙ settled.4,
        ap (λ (w : View). w.starting) view,
        ap (λ (w : View). w.gone) view ∙ settled.6,
        ap (λ (w : View). w.emptying) view ∙ settled.7,
      );
    }

pub unwrap-requires : goal.unwrap-requires
unwrap-requires g c = let f : ℕ = c.args.f in let told = (c.compare_exchange-found.ensures.2 f c.cell_word-cell.ensures.word).0 c.if-found-ready.true in
    subst (λ (r : Option g.row.P.Denot). IsSome r) (out_slot f (Some told.0) c.exchange-parcel.result c.compare_exchange-found.new.seat.me.1 c.args.desk.now.seat.me.1 (rest c.compare_exchange-found.new.seat.me.1) told.2 c.exchange-parcel.ensures.2) refl

pub returns-then-found-ready-clause-started : goal.returns-then-found-ready-clause-started
returns-then-found-ready-clause-started g c = let f : ℕ = c.args.f in let told = (c.compare_exchange-found.ensures.2 f c.cell_word-cell.ensures.word).0 c.if-found-ready.true in
    let held : c.compare_exchange-found.new.seat.me.1 ≡ (f, Some told.0) ∷ [] = told.2 ∙ ap (λ (xs : List (ℕ × Option g.row.P.Denot)). (f, Some told.0) ∷ xs) c.args.desk.now.settled.0 in
    let v : View = saw (firing_started c.args.desk.now.seat.me.0 f (g.P.Carry.entries told.0)) f (a_word a_cell.Started None) in
    let me : c.exchange-parcel.new.seat.me ≡ (v, (f, None) ∷ []) = c.exchange-parcel.ensures.3 ∙ (λ k. (told.1 k, (f, None) ∷ ap rest held k)) in
    let home = c.load.ensures.2 f (ap (λ (m : Me (Option g.row.P.Denot) View). m.0.starting) me) (ap (λ (m : Me (Option g.row.P.Denot) View). m.1) me) in
    let was : Path (Option g.row.P.Denot) (Some told.0) (Some c.unwrap.result) = out_slot f (Some told.0) c.exchange-parcel.result c.compare_exchange-found.new.seat.me.1 c.args.desk.now.seat.me.1 (rest c.compare_exchange-found.new.seat.me.1) told.2 c.exchange-parcel.ensures.2 ∙ c.unwrap.ensures in
    let same : told.0 ≡ c.unwrap.result = (let e = was in cc) in
    ap (λ (m : Me (Option g.row.P.Denot) View). m.0) home ∙ ap (λ (m : Me (Option g.row.P.Denot) View). played m.0) me ∙ (λ k. played (saw (firing_started c.args.desk.now.seat.me.0 f (g.P.Carry.entries (same k))) f (a_word a_cell.Started None)))

pub returns-then-found-ready-clause-parcel : goal.returns-then-found-ready-clause-parcel
returns-then-found-ready-clause-parcel g c = let f : ℕ = c.args.f in let told = (c.compare_exchange-found.ensures.2 f c.cell_word-cell.ensures.word).0 c.if-found-ready.true in let governed = c.requires.governed in
    let was : Path (Option g.row.P.Denot) (Some told.0) (Some c.unwrap.result) = out_slot f (Some told.0) c.exchange-parcel.result c.compare_exchange-found.new.seat.me.1 c.args.desk.now.seat.me.1 (rest c.compare_exchange-found.new.seat.me.1) told.2 c.exchange-parcel.ensures.2 ∙ c.unwrap.ensures in
    let same : told.0 ≡ c.unwrap.result = (let e = was in cc) in
    subst (λ (y : g.row.P.Denot × Parts × Limits). g.P.Carry.keeps_to y.0 y.1 y.2) (λ k. (same k, governed.0 k, governed.1 k)) told.3

pub returns-then-found-ready-clause-comes : goal.returns-then-found-ready-clause-comes
returns-then-found-ready-clause-comes g c = let f : ℕ = c.args.f in let told = (c.compare_exchange-found.ensures.2 f c.cell_word-cell.ensures.word).0 c.if-found-ready.true in let governed = c.requires.governed in
    let was : Path (Option g.row.P.Denot) (Some told.0) (Some c.unwrap.result) = out_slot f (Some told.0) c.exchange-parcel.result c.compare_exchange-found.new.seat.me.1 c.args.desk.now.seat.me.1 (rest c.compare_exchange-found.new.seat.me.1) told.2 c.exchange-parcel.ensures.2 ∙ c.unwrap.ensures in
    let same : told.0 ≡ c.unwrap.result = (let e = was in cc) in
    subst (λ (y : g.row.P.Denot × Parts × Limits). ComesWithFiring (code_program y.1 y.2) c.args.desk.now.seat.me.0.kept f (g.P.Carry.entries y.0)) (λ k. (same k, governed.0 k, governed.1 k)) told.4

pub invariant_of-desk-else-found-ready : goal.invariant_of-desk-else-found-ready
invariant_of-desk-else-found-ready g c = let settled = c.args.desk.now.settled in let missed = (c.compare_exchange-found.ensures.2 c.args.f c.cell_word-cell.ensures.word).1 c.if-found-ready.false in
    let view = missed.1.4 in record {
      settled = (
        missed.0 ∙ settled.0,
        settled.1 ∙ sym (ap (λ (w : View). link_of w.above) view),
        settled.2,
        ap (λ (w : View). w.placing) view ∙ settled.3,
        ap (λ (w : View). w.posting) view ∙ settled.4,
        ap (λ (w : View). w.starting) view ∙ settled.5,
        ap (λ (w : View). w.gone) view ∙ settled.6,
        ap (λ (w : View). w.emptying) view ∙ settled.7,
      );
    }

pub unpack_cell-requires : goal.unpack_cell-requires
unpack_cell-requires g c = let missed = (c.compare_exchange-found.ensures.2 c.args.f c.cell_word-cell.ensures.word).1 c.if-found-ready.false in
    record { cell = (missed.1.0, missed.1.1, sym missed.1.3) }

pub returns-clause-refused : goal.returns-clause-refused
returns-clause-refused g c = let missed = (c.compare_exchange-found.ensures.2 c.args.f c.cell_word-cell.ensures.word).1 c.if-found-ready.false in
    let same : missed.1.0 ≡ c.unpack_cell.result = sym (c.unpack_cell.ensures.back missed.1.0 missed.1.1 (sym missed.1.3)) in
    subst (λ (w : Word). (w.cell ≢ a_cell.Ready) × ((next : Option ℕ) × (c.compare_exchange-found.new.seat.me.0 ≡ saw c.args.desk.now.seat.me.0 c.args.f (a_word w.cell next)))) same (missed.1.2, (missed.1.0.next, missed.1.4))
