use Rattle.std.proofs.Common.{◌≡◌, ◌⊎◌, ℕ, ◌<◌, List, [], ◌∷◌, Option, Some, None, refl, sym, ap, ◌∙◌, subst, arith, ⊎_elim, inl, inr}
use mathlib.Core.Option.{none}
use Rattle.atomic_table.specs.Table.{Me, Allows, step, rest}
use Rattle.chord_base.specs.declared.event.Entry.{Entry}
use Rattle.chord_base.specs.Messages.{Message, message_of}
use Rattle.chord_base.specs.Story.{IsIn}
use Rattle.chord_code.specs.Meaning.{code_program}
use Rattle.chord_word.specs.Cells.{link_of}
use Rattle.chord_word.specs.Places.{place_word}
use Rattle.chord_rule.specs.declared.view.View.{View}
use Rattle.chord_rule.specs.Bags.{head_number}
use Rattle.chord_rule.specs.Hands.{hand, IsUnlinked}
use Rattle.chord_rule.specs.Kinds.{address_set, flown, saw_head}
use Rattle.chord_rule.specs.Made.{key}
use Rattle.chord_rule.specs.Moment.{LinkOk}
use Rattle.chord_rule.specs.Numbers.{HasNumber}
use Rattle.chord_rule.specs.Layout.{place_at, head_at}
use Rattle.chord_rule.specs.Tells.{places, link_adds}
use Rattle.chord_space.specs.Widest.{widest}
use Rattle.chord_space.specs.Ruled.{Ruled}
use Rattle.chord_space.proofs.Under.{under_rule}
use Rattle.chord_rule.proofs.Lists.{has_without}
use Rattle.chord_rule.proofs.Moving.{place_step, linking_step}
use Rattle.chord_space.proofs.Slots.{never_both}
use Rattle.chord_space.proofs.space.Space.step_link.Goals as goal

pub store-requires : goal.store-requires
store-requires g c = let sized = c.args.self.now.sized in let key = c.args.self.now.table.shared.key in let n : ℕ = key.limits.events in let seat = c.args.desk.now.seat in let i : ℕ = c.args.m in let o = c.args.object in let j : ℕ = c.args.method in
    let may = c.requires.link in let bounds = c.requires.bounds in
    let keeps : g.row.P.Denot → Type 0 = λ q. g.P.Carry.keeps_to q key.code.value key.limits in let p = code_program key.code.value key.limits in
    let at : place_at n i ≡ c.place_word.result = ap (λ (e : ℕ). place_at e i) sized.0 ∙ sym c.place_word.ensures.word in (
      c.requires.desk,
      c.place_word.ensures.inside,
      subst (λ (y : ℕ × ℕ × ℕ). Allows (Ruled g.P.Carry.entries g.P.Carry.arguments g.P.Carry.keeps_to key.code.value key.limits) y.0 seat.id seat.me y.1 (λ _. y.2) (λ _. places (step y.0 y.1 y.2 0 none) seat.me y.2)) (λ k. ((sized.0 ∙ sym sized.2) k, at k, sym c.pack_place.ensures.value k))
          (under_rule g.P.Carry.entries g.P.Carry.arguments g.P.Carry.keeps_to key.code.value key.limits n seat.id seat.me (place_at n i) (λ _. place_word o j) (λ _. places (step n (place_at n i) (place_word o j) 0 none) seat.me (place_word o j)) (place_step g.P.Carry.entries g.P.Carry.arguments keeps p n _ (omega arith) (omega arith) seat.id seat.me i may.entry (record { object = o; method = j; arguments = g.P.Carry.arguments c.args.parcel }) c.args.desk.now.settled.6 (omega arith) (omega arith) (omega arith, omega arith, omega arith) (omega arith) may.kept may.numbered may.message may.fresh c.args.desk.now.settled.3)),
    )

pub exchange-requires : goal.exchange-requires
exchange-requires g c = let sized = c.args.self.now.sized in let i : ℕ = c.args.m in let told = c.store.ensures.2 i (c.place_word.ensures.word ∙ ap (λ (e : ℕ). place_at e i) (sym sized.2)) in
    let held : c.store.new.seat.me.1 ≡ (i, None) ∷ [] = told.1 ∙ ap (λ (xs : List (ℕ × Option g.row.P.Denot)). (i, None) ∷ xs) c.args.desk.now.settled.0 in
    (c.store.ensures.0 ∙ c.requires.desk, (None, held ∙ (λ k. (i, None) ∷ sym (ap rest held) k)))

pub unreachable-requires : goal.unreachable-requires
unreachable-requires g c = let sized = c.args.self.now.sized in let i : ℕ = c.args.m in let told = c.store.ensures.2 i (c.place_word.ensures.word ∙ ap (λ (e : ℕ). place_at e i) (sym sized.2)) in
    let held : c.store.new.seat.me.1 ≡ (i, None) ∷ [] = told.1 ∙ ap (λ (xs : List (ℕ × Option g.row.P.Denot)). (i, None) ∷ xs) c.args.desk.now.settled.0 in
    never_both i c.in-Some.field-0 c.exchange.result c.store.new.seat.me.1 (rest c.store.new.seat.me.1) held c.exchange.ensures.2 c.in-Some.is

pub swap-desk-requires : goal.swap-desk-requires
swap-desk-requires g c = let sized = c.args.self.now.sized in let shared_key = c.args.self.now.table.shared.key in let n : ℕ = shared_key.limits.events in let i : ℕ = c.args.m in let q : g.row.P.Denot = c.args.parcel in let o = c.args.object in let j : ℕ = c.args.method in
    let may = c.requires.link in let bounds = c.requires.bounds in let keeps : g.row.P.Denot → Type 0 = λ q. g.P.Carry.keeps_to q shared_key.code.value shared_key.limits in let p = code_program shared_key.code.value shared_key.limits in
    let told = c.store.ensures.2 i (c.place_word.ensures.word ∙ ap (λ (e : ℕ). place_at e i) (sym sized.2)) in
    let held : c.store.new.seat.me.1 ≡ (i, None) ∷ [] = told.1 ∙ ap (λ (xs : List (ℕ × Option g.row.P.Denot)). (i, None) ∷ xs) c.args.desk.now.settled.0 in
    let v : View = address_set c.args.desk.now.seat.me.0 i in
    let me : c.exchange.new.seat.me ≡ (v, (i, Some q) ∷ []) = c.exchange.ensures.3 ∙ (λ k. (told.0 k, (i, Some q) ∷ ap rest held k)) in
    let width : ℕ = widest shared_key.code.value in let word = c.head_word-head.ensures.word in let head : head_at n width o.number j ≡ c.head_word-head.result = ap (λ (e : ℕ). head_at e width o.number j) sized.0 ∙ sym word in
    let x : Message = record { object = o; method = j; arguments = g.P.Carry.arguments q } in
    let others : (e : Entry) (y : Message) → IsIn e (g.P.Carry.entries q) → message_of e.what ≡ Some y → (e.number ≡ i) ⊎ (IsUnlinked (hand v) e.number → ⊥) = (λ e y is says. ⊎_elim (λ same. inl same)
    (λ old. inr (λ un. ⊎_elim (λ h. old (has_without e.number i c.args.desk.now.seat.me.0.fresh h).1) (λ s. let same : i ≡ e.number = (let z = s in cc) in old (subst (λ (k : ℕ). HasNumber k c.args.desk.now.seat.me.0.fresh) same may.fresh)) un)) (may.others e y is says)) in (
      c.exchange.ensures.0 ∙ c.store.ensures.0 ∙ c.requires.desk,
      c.head_word-head.ensures.inside,
      subst (λ (y : ℕ × ℕ × ℕ × Me (Option g.row.P.Denot) View × (g.row.P.Denot → Type 0)). Allows (Ruled g.P.Carry.entries g.P.Carry.arguments g.P.Carry.keeps_to shared_key.code.value shared_key.limits) y.0 c.exchange.new.seat.id y.3 y.1 (λ _. y.2) (link_adds g.P.Carry.entries g.J.Addressed.object g.J.Addressed.method (step y.0 y.1 y.2 0 none) y.3))
          (λ k. ((sized.0 ∙ sym sized.2) k, head k, sym c.pack_head.ensures.value k, sym me k, keeps))
          (subst (λ (y : _ × ℕ). Allows (Ruled g.P.Carry.entries g.P.Carry.arguments g.P.Carry.keeps_to shared_key.code.value shared_key.limits) n c.exchange.new.seat.id (v, (i, Some q) ∷ []) (head_at n width o.number j) (λ _. link_of (Some i)) (link_adds g.P.Carry.entries y.0 y.1 (step n (head_at n width o.number j) (link_of (Some i)) 0 none) (v, (i, Some q) ∷ []))) (λ k. (sym c.requires.address.0 k, sym c.requires.address.1 k))
          (under_rule g.P.Carry.entries g.P.Carry.arguments g.P.Carry.keeps_to shared_key.code.value shared_key.limits n c.exchange.new.seat.id (v, (i, Some q) ∷ []) (head_at n width o.number j) (λ _. link_of (Some i)) (link_adds g.P.Carry.entries o j (step n (head_at n width o.number j) (link_of (Some i)) 0 none) (v, (i, Some q) ∷ [])) (linking_step g.P.Carry.entries g.P.Carry.arguments keeps p n _ (omega arith) (omega arith) c.exchange.new.seat.id v i q may.entry x c.args.desk.now.settled.6 (omega arith) may.kept may.numbered (omega arith) may.message bounds.3 (omega (arith, sized.5, sized.6)) refl may.idle may.goes others refl may.call may.parked c.requires.task))),
    )

pub invariant_of-desk : goal.invariant_of-desk
invariant_of-desk g c = let sized = c.args.self.now.sized in let i : ℕ = c.args.m in let q : g.row.P.Denot = c.args.parcel in let settled = c.args.desk.now.settled in
    let told = c.store.ensures.2 i (c.place_word.ensures.word ∙ ap (λ (e : ℕ). place_at e i) (sym sized.2)) in
    let held : c.store.new.seat.me.1 ≡ (i, None) ∷ [] = told.1 ∙ ap (λ (xs : List (ℕ × Option g.row.P.Denot)). (i, None) ∷ xs) settled.0 in
    let v : View = address_set c.args.desk.now.seat.me.0 i in
    let me : c.exchange.new.seat.me ≡ (v, (i, Some q) ∷ []) = c.exchange.ensures.3 ∙ (λ k. (told.0 k, (i, Some q) ∷ ap rest held k)) in
    let r = c.swap-desk.ensures.2 i q (ap (λ (m : Me (Option g.row.P.Denot) View). m.1) me) in let kept = ap (λ (m : Me (Option g.row.P.Denot) View). m.0) me in record {
      settled = (
        r.0,
        r.1.1 ∙ sym (ap (λ (w : View). link_of w.above) r.1.3),
        subst (λ (x : ℕ). x < 65537) (sym r.1.1) (link_low r.1.0 r.1.2),
        ap (λ (w : View). w.placing) r.1.3,
        ap (λ (w : View). w.posting) r.1.3 ∙ ap (λ (w : View). w.posting) kept ∙ settled.4,
        ap (λ (w : View). w.starting) r.1.3 ∙ ap (λ (w : View). w.starting) kept ∙ settled.5,
        ap (λ (w : View). w.gone) r.1.3 ∙ ap (λ (w : View). w.gone) kept ∙ settled.6,
        ap (λ (w : View). w.emptying) r.1.3 ∙ ap (λ (w : View). w.emptying) kept ∙ settled.7,
      );
    }
  where
    link_low : (above : Option ℕ) → LinkOk above → link_of above < 65537
    link_low None ok = omega arith
    link_low (Some x) ok = omega arith

pub returns-clause-linked : goal.returns-clause-linked
returns-clause-linked g c = let sized = c.args.self.now.sized in let i : ℕ = c.args.m in let q : g.row.P.Denot = c.args.parcel in
    let told = c.store.ensures.2 i (c.place_word.ensures.word ∙ ap (λ (e : ℕ). place_at e i) (sym sized.2)) in
    let held : c.store.new.seat.me.1 ≡ (i, None) ∷ [] = told.1 ∙ ap (λ (xs : List (ℕ × Option g.row.P.Denot)). (i, None) ∷ xs) c.args.desk.now.settled.0 in
    let v : View = address_set c.args.desk.now.seat.me.0 i in
    let me : c.exchange.new.seat.me ≡ (v, (i, Some q) ∷ []) = c.exchange.ensures.3 ∙ (λ k. (told.0 k, (i, Some q) ∷ ap rest held k)) in
    let r = c.swap-desk.ensures.2 i q (ap (λ (m : Me (Option g.row.P.Denot) View). m.1) me) in let kept = ap (λ (m : Me (Option g.row.P.Denot) View). m.0) me in
    (r.1.0, r.1.3 ∙ (λ k. saw_head (flown (kept k) i (key (c.requires.address.0 k) (c.requires.address.1 k)) r.1.0 (g.P.Carry.entries q)) (head_number (key (c.requires.address.0 k) (c.requires.address.1 k))) (Some i)))
