use Rattle.std.proofs.Common.{◌≡◌, ℕ, ap, sym, ◌∙◌, subst, arith, Option}
use mathlib.Core.Option.{none}
use Rattle.atomic_table.specs.Table.{Allows, Me, step}
use Rattle.chord_base.specs.declared.event.Limits.{Limits}
use Rattle.chord_base.specs.declared.value.Object.{Object}
use Rattle.chord_code.specs.declared.parts.Parts.{Parts}
use Rattle.chord_code.specs.Meaning.{code_program}
use Rattle.chord_rule.specs.declared.view.View.{View}
use Rattle.chord_rule.specs.Bags.{head_number}
use Rattle.chord_rule.specs.Heading.{WasHead}
use Rattle.chord_rule.specs.Made.{key}
use Rattle.chord_rule.specs.Layout.{head_at}
use Rattle.chord_rule.specs.Tells.{looks_head}
use Rattle.chord_rule.proofs.Seeing.{look_head_step}
use Rattle.chord_space.specs.Widest.{widest}
use Rattle.chord_space.specs.Ruled.{Ruled, LooksAtHead}
use Rattle.chord_rule.specs.Ways.{HasLooksLeft}
use Rattle.chord_space.proofs.Under.{under_rule}
use Rattle.chord_space.proofs.space.Space.step_look_head.Goals as goal

pub load-found-requires : goal.load-found-requires
load-found-requires g c = let sized = c.args.self.now.sized in let key = c.args.self.now.table.shared.key in let n : ℕ = key.limits.events in let seat = c.args.desk.now.seat in let live = c.args.desk.now.settled.6 in
    let keeps : g.row.P.Denot → Type 0 = λ q. g.P.Carry.keeps_to q key.code.value key.limits in let p = code_program key.code.value key.limits in
    let o = c.args.object in let j : ℕ = c.args.method in let bounds = c.requires.bounds in let width : ℕ = widest key.code.value in
    let word = c.head_word-head.ensures.word in let at : head_at n width o.number j ≡ c.head_word-head.result = ap (λ (e : ℕ). head_at e width o.number j) sized.0 ∙ sym word in (
      c.requires.desk,
      c.head_word-head.ensures.inside,
      subst (λ (y : ℕ × ℕ × Object × ℕ × Parts × Limits). Allows (Ruled g.P.Carry.entries g.P.Carry.arguments g.P.Carry.keeps_to key.code.value key.limits) y.0 seat.id seat.me y.1 (λ x. x) (looks_head g.P.Carry.entries g.P.Carry.arguments (λ q. g.P.Carry.keeps_to q y.4 y.5) (code_program y.4 y.5) y.2 y.3 (step y.0 y.1 0 0 none) seat.me)) (λ k. ((sized.0 ∙ sym sized.2) k, at k, sym c.requires.address.0 k, sym c.requires.address.1 k, sym c.requires.address.2 k, sym c.requires.address.3 k))
          (under_rule g.P.Carry.entries g.P.Carry.arguments g.P.Carry.keeps_to key.code.value key.limits n seat.id seat.me (head_at n width o.number j) (λ x. x) (looks_head g.P.Carry.entries g.P.Carry.arguments keeps p o j (step n (head_at n width o.number j) 0 0 none) seat.me) (look_head_step g.P.Carry.entries g.P.Carry.arguments keeps p n _ (omega arith) (omega arith) seat.id seat.me o j live (omega arith) bounds.2 (omega (arith, sized.5, sized.6)))),
    )

pub returns-clause-room : goal.returns-clause-room
returns-clause-room g c = subst (λ (n : ℕ). HasLooksLeft n c.load-found.new.seat.me.0.looked.ways) c.args.self.now.sized.2 c.load-found.ensures.2.5

pub returns-clause-looked : goal.returns-clause-looked
returns-clause-looked g c = let told = c.load-found.ensures.2 in let address = c.requires.address in let old = c.args.desk.now.seat.me.0 in let new = c.load-found.new.seat.me.0 in
    let found : told.0 ≡ c.unpack_head.result = sym (c.unpack_head.ensures.back told.0 (sym told.2)) in
    let keeps : g.row.P.Denot → Parts → Limits → Type 0 = g.P.Carry.keeps_to in
    subst (λ (y : Object × ℕ × Parts × Limits × Option ℕ). LooksAtHead g.P.Carry.entries g.P.Carry.arguments keeps y.2 y.3 old new (key y.0 y.1) y.4)
    (λ i. (address.0 i, address.1 i, address.2 i, address.3 i, found i))
    (record {
      linked = told.1;
      is = ap (λ (z : Me _ View). z.0) told.4;
      moment = subst (λ (n : ℕ). WasHead g.P.Carry.entries g.P.Carry.arguments (λ q. keeps q g.J.Headed.parts g.J.Headed.limits) (code_program g.J.Headed.parts g.J.Headed.limits) n old (head_number (key g.J.Headed.object g.J.Headed.method)) told.0 told.1)
          (c.args.self.now.sized.2 ∙ sym c.args.self.now.sized.0 ∙ ap (λ (l : Limits). l.events) (sym address.3)) told.6;
    })
