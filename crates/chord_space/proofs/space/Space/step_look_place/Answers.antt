use Rattle.std.proofs.Common.{◌≡◌, ℕ, ◌<◌, Option, IfSome, sym, ap, ◌∙◌, subst, arith}
use mathlib.Core.Option.{none}
use Rattle.atomic_table.specs.Table.{Allows, step}
use Rattle.chord_base.specs.declared.event.Limits.{Limits}
use Rattle.chord_code.specs.declared.parts.Parts.{Parts}
use Rattle.chord_code.specs.Meaning.{code_program}
use Rattle.chord_rule.specs.Heading.{WasPlace}
use Rattle.chord_rule.specs.Layout.{place_at}
use Rattle.chord_rule.specs.Tells.{looks_place}
use Rattle.chord_rule.proofs.Seeing.{look_place_step}
use Rattle.chord_space.specs.Ruled.{Ruled, LooksAtPlace}
use Rattle.chord_rule.specs.Moment.{Place}
use Rattle.chord_space.proofs.Places.{place_read, place_within}
use Rattle.chord_space.proofs.Under.{under_rule}
use Rattle.chord_space.proofs.space.Space.step_look_place.Goals as goal

pub load-found-requires : goal.load-found-requires
load-found-requires g c = let sized = c.args.self.now.sized in let key = c.args.self.now.table.shared.key in let n : ℕ = key.limits.events in let seat = c.args.desk.now.seat in let live = c.args.desk.now.settled.6 in
    let keeps : g.row.P.Denot → Type 0 = λ q. g.P.Carry.keeps_to q key.code.value key.limits in let p = code_program key.code.value key.limits in
    let i : ℕ = c.args.i in let bounds = c.requires.bounds in let governed = c.requires.governed in let at : place_at n i ≡ c.place_word.result = ap (λ (e : ℕ). place_at e i) sized.0 ∙ sym c.place_word.ensures.word in (
      c.requires.desk,
      c.place_word.ensures.inside,
      subst (λ (y : ℕ × ℕ × Parts × Limits). Allows (Ruled g.P.Carry.entries g.P.Carry.arguments g.P.Carry.keeps_to key.code.value key.limits) y.0 seat.id seat.me y.1 (λ x. x) (looks_place g.P.Carry.entries g.P.Carry.arguments (λ q. g.P.Carry.keeps_to q y.2 y.3) (code_program y.2 y.3) (step y.0 y.1 0 0 none) seat.me)) (λ k. ((sized.0 ∙ sym sized.2) k, at k, sym governed.0 k, sym governed.1 k))
          (under_rule g.P.Carry.entries g.P.Carry.arguments g.P.Carry.keeps_to key.code.value key.limits n seat.id seat.me (place_at n i) (λ x. x) (looks_place g.P.Carry.entries g.P.Carry.arguments keeps p (step n (place_at n i) 0 0 none) seat.me) (look_place_step g.P.Carry.entries g.P.Carry.arguments keeps p n _ (omega arith) (omega arith) seat.id seat.me i (omega arith))),
    )

pub returns-clause-within : goal.returns-clause-within
returns-clause-within g c = let sized = c.args.self.now.sized in let told = c.load-found.ensures.2.1 c.args.i (c.place_word.ensures.word ∙ ap (λ (e : ℕ). place_at e c.args.i) (sym sized.2)) in
    let same = place_read told.0 c.load-found.result c.unpack_place.result told.1 told.2 c.unpack_place.ensures.back c.unpack_place.ensures.none.1 in
    subst (λ (r : Option Place). IfSome r (λ p. (p.0.number < c.args.self.now.events) × (p.0.class < 1024) × (p.1 < 16))) (sym same) (place_within c.args.self.now.events told.0 told.2 (λ q s. let t = told.3 q s in (omega arith, t.1)))

pub returns-clause-duty : goal.returns-clause-duty
returns-clause-duty g c = λ d h is. let sized = c.args.self.now.sized in let told = c.load-found.ensures.2.1 c.args.i (c.place_word.ensures.word ∙ ap (λ (e : ℕ). place_at e c.args.i) (sym sized.2)) in
    let same = place_read told.0 c.load-found.result c.unpack_place.result told.1 told.2 c.unpack_place.ensures.back c.unpack_place.ensures.none.1 in let t = told.4 d h is in (t.0, same ∙ t.1, t.2)

pub returns-clause-claim : goal.returns-clause-claim
returns-clause-claim g c = λ d h is. let sized = c.args.self.now.sized in let told = c.load-found.ensures.2.1 c.args.i (c.place_word.ensures.word ∙ ap (λ (e : ℕ). place_at e c.args.i) (sym sized.2)) in
    place_read told.0 c.load-found.result c.unpack_place.result told.1 told.2 c.unpack_place.ensures.back c.unpack_place.ensures.none.1 ∙ told.5 d h is

pub returns-clause-looked : goal.returns-clause-looked
returns-clause-looked g c = let sized = c.args.self.now.sized in let governed = c.requires.governed in let old = c.args.desk.now.seat.me.0 in let told = c.load-found.ensures.2.1 c.args.i (c.place_word.ensures.word ∙ ap (λ (e : ℕ). place_at e c.args.i) (sym sized.2)) in
    let same = place_read told.0 c.load-found.result c.unpack_place.result told.1 told.2 c.unpack_place.ensures.back c.unpack_place.ensures.none.1 in
    let keeps : g.row.P.Denot → Parts → Limits → Type 0 = g.P.Carry.keeps_to in
    subst (λ (y : Parts × Limits × Option Place). LooksAtPlace g.P.Carry.entries g.P.Carry.arguments keeps y.0 y.1 old c.args.i y.2)
    (λ k. (governed.0 k, governed.1 k, sym same k))
    (record {
      moment = subst (λ (n : ℕ). WasPlace g.P.Carry.entries g.P.Carry.arguments (λ q. keeps q g.J.Governed.parts g.J.Governed.limits) (code_program g.J.Governed.parts g.J.Governed.limits) n old c.args.i told.0)
          (sized.2 ∙ sym sized.0 ∙ ap (λ (l : Limits). l.events) (sym governed.1)) told.6;
    })
