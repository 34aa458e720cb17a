use Rattle.std.proofs.Common.{◌≡◌, ℕ, List, [], ◌∷◌, Option, Some, None, refl, sym, ap, ◌∙◌, subst, arith, ⊎_elim}
use mathlib.Core.Option.{none}
use Rattle.atomic_table.specs.Table.{Me, Allows, step, rest}
use Rattle.chord_base.specs.declared.event.Entry.{Entry}
use Rattle.chord_base.specs.Messages.{Message, message_of}
use Rattle.chord_base.specs.Story.{IsIn}
use Rattle.chord_code.specs.Meaning.{code_program}
use Rattle.chord_word.specs.Cells.{link_of}
use Rattle.chord_rule.specs.declared.view.View.{View}
use Rattle.chord_rule.specs.Hands.{hand, IsUnlinked}
use Rattle.chord_rule.specs.Kinds.{posting, posted, saw}
use Rattle.chord_rule.specs.Layout.{cell_at}
use Rattle.chord_rule.specs.Tells.{word, a_word, posts_out, posts}
use Rattle.chord_word.specs.declared.cells.Cell.TheVariants as a_cell
use Rattle.chord_space.specs.Ruled.{Ruled}
use Rattle.chord_space.proofs.Under.{under_rule}
use Rattle.chord_rule.proofs.Moving.{post_out_step, post_step}
use Rattle.chord_space.proofs.Slots.{never_both}
use Rattle.chord_space.proofs.space.Space.post.Goals as goal

pub load-requires : goal.load-requires
load-requires g c = let sized = c.args.self.now.sized in let key = c.args.self.now.table.shared.key in let n : ℕ = key.limits.events in let seat = c.args.desk.now.seat in let f : ℕ = c.args.f in let bounds = c.requires.bounds in
    let keeps : g.row.P.Denot → Type 0 = λ q. g.P.Carry.keeps_to q key.code.value key.limits in let p = code_program key.code.value key.limits in (
      c.requires.desk,
      c.cell_word-cell.ensures.inside,
      subst (λ (y : ℕ × ℕ). Allows (Ruled g.P.Carry.entries g.P.Carry.arguments g.P.Carry.keeps_to key.code.value key.limits) y.0 seat.id seat.me y.1 (λ x. x) (posts_out (step y.0 y.1 0 0 none) seat.me)) (λ k. ((sized.0 ∙ sym sized.2) k, sym c.cell_word-cell.ensures.word k))
          (under_rule g.P.Carry.entries g.P.Carry.arguments g.P.Carry.keeps_to key.code.value key.limits n seat.id seat.me (cell_at f) (λ x. x) (posts_out (step n (cell_at f) 0 0 none) seat.me) (post_out_step g.P.Carry.entries g.P.Carry.arguments keeps p n _ (omega arith) (omega arith) seat.id seat.me f c.args.desk.now.settled.6 (omega arith) c.requires.post.unposted c.args.desk.now.settled.4)),
    )

pub exchange-requires : goal.exchange-requires
exchange-requires g c = let f : ℕ = c.args.f in let told = c.load.ensures.2 f c.cell_word-cell.ensures.word in
    let held : c.load.new.seat.me.1 ≡ (f, None) ∷ [] = told.1 ∙ ap (λ (xs : List (ℕ × Option g.row.P.Denot)). (f, None) ∷ xs) c.args.desk.now.settled.0 in
    (c.load.ensures.0 ∙ c.requires.desk, (None, held ∙ (λ k. (f, None) ∷ sym (ap rest held) k)))

pub unreachable-requires : goal.unreachable-requires
unreachable-requires g c = let f : ℕ = c.args.f in let told = c.load.ensures.2 f c.cell_word-cell.ensures.word in
    let held : c.load.new.seat.me.1 ≡ (f, None) ∷ [] = told.1 ∙ ap (λ (xs : List (ℕ × Option g.row.P.Denot)). (f, None) ∷ xs) c.args.desk.now.settled.0 in
    never_both f c.in-Some.field-0 c.exchange.result c.load.new.seat.me.1 (rest c.load.new.seat.me.1) held c.exchange.ensures.2 c.in-Some.is

pub store-requires : goal.store-requires
store-requires g c = let sized = c.args.self.now.sized in let key = c.args.self.now.table.shared.key in let n : ℕ = key.limits.events in let f : ℕ = c.args.f in let q : g.row.P.Denot = c.args.parcel in let bounds = c.requires.bounds in let may = c.requires.post in let settled = c.args.desk.now.settled in
    let keeps : g.row.P.Denot → Type 0 = λ q. g.P.Carry.keeps_to q key.code.value key.limits in let p = code_program key.code.value key.limits in
    let told = c.load.ensures.2 f c.cell_word-cell.ensures.word in
    let held : c.load.new.seat.me.1 ≡ (f, None) ∷ [] = told.1 ∙ ap (λ (xs : List (ℕ × Option g.row.P.Denot)). (f, None) ∷ xs) settled.0 in
    let v : View = posting c.args.desk.now.seat.me.0 f in
    let me : c.exchange.new.seat.me ≡ (v, (f, Some q) ∷ []) = c.exchange.ensures.3 ∙ (λ k. (told.0 k, (f, Some q) ∷ ap rest held k)) in
    let others : (e : Entry) (x : Message) → IsIn e (g.P.Carry.entries q) → message_of e.what ≡ Some x → IsUnlinked (hand v) e.number → ⊥ = (λ e x is says un. ⊎_elim (λ h. may.linked e x is says h) (λ s. let z : None ≡ Some e.number = sym settled.3 ∙ s in cc) un) in (
      c.exchange.ensures.0 ∙ c.load.ensures.0 ∙ c.requires.desk,
      c.cell_word-cell.ensures.inside,
      subst (λ (y : ℕ × ℕ × Me (Option g.row.P.Denot) View × ℕ). Allows (Ruled g.P.Carry.entries g.P.Carry.arguments g.P.Carry.keeps_to key.code.value key.limits) y.0 c.exchange.new.seat.id y.2 y.3 (λ _. y.1) (λ _. posts g.P.Carry.entries (step y.0 y.3 y.1 0 none) y.2 y.1))
          (λ k. ((sized.0 ∙ sym sized.2) k, sym c.firing_word.ensures k, sym me k, sym c.cell_word-cell.ensures.word k))
          (under_rule g.P.Carry.entries g.P.Carry.arguments g.P.Carry.keeps_to key.code.value key.limits n c.exchange.new.seat.id (v, (f, Some q) ∷ []) (cell_at f) (λ _. word a_cell.Ready None) (λ _. posts g.P.Carry.entries (step n (cell_at f) (word a_cell.Ready None) 0 none) (v, (f, Some q) ∷ []) (word a_cell.Ready None)) (post_step g.P.Carry.entries g.P.Carry.arguments keeps p n _ (omega arith) (omega arith) c.exchange.new.seat.id v f q settled.6 (omega arith) refl may.goes others may.begins may.only may.parked c.requires.task)),
    )

pub invariant_of-desk : goal.invariant_of-desk
invariant_of-desk g c = let f : ℕ = c.args.f in let q : g.row.P.Denot = c.args.parcel in let settled = c.args.desk.now.settled in
    let told = c.load.ensures.2 f c.cell_word-cell.ensures.word in
    let held : c.load.new.seat.me.1 ≡ (f, None) ∷ [] = told.1 ∙ ap (λ (xs : List (ℕ × Option g.row.P.Denot)). (f, None) ∷ xs) settled.0 in
    let v : View = posting c.args.desk.now.seat.me.0 f in
    let me : c.exchange.new.seat.me ≡ (v, (f, Some q) ∷ []) = c.exchange.ensures.3 ∙ (λ k. (told.0 k, (f, Some q) ∷ ap rest held k)) in
    let r = c.store.ensures.2 f q (ap (λ (m : Me (Option g.row.P.Denot) View). m.1) me) in
    let view : c.store.new.seat.me.0 ≡ saw (posted v (g.P.Carry.entries q)) f (a_word a_cell.Ready None) = r.0 ∙ ap (λ (m : Me (Option g.row.P.Denot) View). saw (posted m.0 (g.P.Carry.entries q)) f (a_word a_cell.Ready None)) me in record {
      settled = (
        r.1,
        settled.1 ∙ sym (ap (λ (w : View). link_of w.above) view),
        settled.2,
        ap (λ (w : View). w.placing) view ∙ settled.3,
        ap (λ (w : View). w.posting) view,
        ap (λ (w : View). w.starting) view ∙ settled.5,
        ap (λ (w : View). w.gone) view ∙ settled.6,
        ap (λ (w : View). w.emptying) view ∙ settled.7,
      );
    }

pub returns-clause-posted : goal.returns-clause-posted
returns-clause-posted g c = let f : ℕ = c.args.f in let q : g.row.P.Denot = c.args.parcel in
    let told = c.load.ensures.2 f c.cell_word-cell.ensures.word in
    let held : c.load.new.seat.me.1 ≡ (f, None) ∷ [] = told.1 ∙ ap (λ (xs : List (ℕ × Option g.row.P.Denot)). (f, None) ∷ xs) c.args.desk.now.settled.0 in
    let v : View = posting c.args.desk.now.seat.me.0 f in
    let me : c.exchange.new.seat.me ≡ (v, (f, Some q) ∷ []) = c.exchange.ensures.3 ∙ (λ k. (told.0 k, (f, Some q) ∷ ap rest held k)) in
    let r = c.store.ensures.2 f q (ap (λ (m : Me (Option g.row.P.Denot) View). m.1) me) in
    r.0 ∙ ap (λ (m : Me (Option g.row.P.Denot) View). saw (posted m.0 (g.P.Carry.entries q)) f (a_word a_cell.Ready None)) me
