use Rattle.std.proofs.Common.{◌≡◌, ℕ, true, false, eqb, eq-eqb, Some, sym, ap, ◌∙◌, subst, arith}
use Rattle.std.proofs.lemmas.Bool.{eqb-true}
use mathlib.Core.Option.{none}
use mathlib.Core.Logic.{dite}
use native.Mathlib.Decide.{ℕ_discrete}
use prog.Atomic.{either}
use Rattle.atomic_table.specs.Table.{Allows, step}
use Rattle.chord_base.specs.declared.value.Object.{Object}
use Rattle.chord_code.specs.Meaning.{code_program}
use Rattle.chord_word.specs.Cells.{link_of}
use Rattle.chord_rule.specs.Bags.{head_number}
use Rattle.chord_rule.specs.Kinds.{saw_head}
use Rattle.chord_rule.specs.Looks.{LastHead}
use Rattle.chord_rule.specs.Made.{key}
use Rattle.chord_rule.specs.Layout.{head_at}
use Rattle.chord_rule.specs.Tells.{bypasses_head}
use Rattle.chord_rule.proofs.Bypassing.{bypass_head_step}
use Rattle.chord_space.specs.Desks.{view}
use Rattle.chord_space.specs.Ruled.{Ruled}
use Rattle.chord_space.specs.Widest.{widest}
use Rattle.chord_space.proofs.Nexts.{link_fits}
use Rattle.chord_space.proofs.Settling.{settling, stays_settled}
use Rattle.chord_space.proofs.Under.{under_rule}
use Rattle.chord_space.proofs.space.Space.step_bypass_head.Goals as goal

pub compare_exchange-found-requires : goal.compare_exchange-found-requires
compare_exchange-found-requires g c = let sized = c.args.self.now.sized in let key = c.args.self.now.table.shared.key in let n : ℕ = key.limits.events in let seat = c.args.desk.now.seat in let live = c.args.desk.now.settled.6 in
    let keeps : g.row.P.Denot → Type 0 = λ q. g.P.Carry.keeps_to q key.code.value key.limits in let p = code_program key.code.value key.limits in
    let from : ℕ = c.args.from in let to = c.args.to in let bounds = c.requires.bounds in let o = c.args.object in let j : ℕ = c.args.method in let width : ℕ = widest key.code.value in
    let word = c.head_word-head.ensures.word in let at : head_at n width o.number j ≡ c.head_word-head.result = ap (λ (e : ℕ). head_at e width o.number j) sized.0 ∙ sym word in (
      c.requires.desk,
      c.head_word-head.ensures.inside,
      subst (λ (y : ℕ × ℕ × ℕ × ℕ × Object × ℕ). Allows (Ruled g.P.Carry.entries g.P.Carry.arguments g.P.Carry.keeps_to key.code.value key.limits) y.0 seat.id seat.me y.1 (λ x. either (eqb x y.2) y.3 x) (bypasses_head y.4 y.5 (step y.0 y.1 y.2 y.3 none) seat.me))
          (λ k. ((sized.0 ∙ sym sized.2) k, at k, sym c.pack_head-first.ensures.value k, sym c.pack_head-last.ensures.value k, sym c.requires.address.0 k, sym c.requires.address.1 k))
          (under_rule g.P.Carry.entries g.P.Carry.arguments g.P.Carry.keeps_to key.code.value key.limits n seat.id seat.me (head_at n width o.number j) (λ x. either (eqb x (link_of (Some from))) (link_of to) x) (bypasses_head o j (step n (head_at n width o.number j) (link_of (Some from)) (link_of to) none) seat.me)
          (bypass_head_step g.P.Carry.entries g.P.Carry.arguments keeps p n _ (omega arith) (omega arith) seat.id seat.me o j from to live (omega arith) bounds.1 (omega (arith, sized.5, sized.6)) (link_fits c.args.self.now.events to (omega arith) bounds.2) c.requires.past)),
    )

pub invariant_of-desk : goal.invariant_of-desk
invariant_of-desk g c = let settled = c.args.desk.now.settled in
    let told = c.compare_exchange-found.ensures.2 c.args.from c.args.to c.pack_head-first.ensures.value c.pack_head-last.ensures.value in
    let same : settling c.compare_exchange-found.new.seat.me.0 ≡ settling c.args.desk.now.seat.me.0 = dite (ℕ_discrete c.compare_exchange-found.result c.pack_head-first.result) (λ e. ap settling (told.1 e)) (λ ne. ap settling (told.2 ne).4) in
    let t = stays_settled c.args.desk.now.above (settling c.args.desk.now.seat.me.0) (settling c.compare_exchange-found.new.seat.me.0) same (settled.1, settled.2, settled.3, settled.4, settled.5, settled.6, settled.7) in record {
      settled = (told.0 ∙ settled.0, t.0, t.1, t.2, t.3, t.4, t.5, t.6);
    }

pub returns-clause-moved : goal.returns-clause-moved
returns-clause-moved g c = λ hit. let told = c.compare_exchange-found.ensures.2 c.args.from c.args.to c.pack_head-first.ensures.value c.pack_head-last.ensures.value in
    subst (λ (y : Object × ℕ). c.compare_exchange-found.new.seat.me.0 ≡ saw_head c.args.desk.now.seat.me.0 (head_number (key y.0 y.1)) c.args.to) (λ k. (c.requires.address.0 k, c.requires.address.1 k))
    (told.1 (eqb-true c.compare_exchange-found.result c.pack_head-first.result hit))

pub returns-clause-refused : goal.returns-clause-refused
returns-clause-refused g c = λ miss. let told = c.compare_exchange-found.ensures.2 c.args.from c.args.to c.pack_head-first.ensures.value c.pack_head-last.ensures.value in
    let other = told.2 (λ e. let z : true ≡ false = sym (eq-eqb c.compare_exchange-found.result c.pack_head-first.result e) ∙ miss in absurd (cc)) in
    (other.0, other.3, subst (λ (y : Object × ℕ). c.compare_exchange-found.new.seat.me.0 ≡ saw_head c.args.desk.now.seat.me.0 (head_number (key y.0 y.1)) other.0) (λ k. (c.requires.address.0 k, c.requires.address.1 k)) other.4)

pub returns-clause-alone : goal.returns-clause-alone
returns-clause-alone g c = λ is_first none_lent last. let told = c.compare_exchange-found.ensures.2 c.args.from c.args.to c.pack_head-first.ensures.value c.pack_head-last.ensures.value in
    let at : head_number (key g.J.Addressed.object g.J.Addressed.method) ≡ head_number (key c.args.object c.args.method) = (λ k. head_number (key (c.requires.address.0 k) (c.requires.address.1 k))) in
    eq-eqb c.compare_exchange-found.result c.pack_head-first.result (told.3 is_first none_lent (subst (λ (x : ℕ). LastHead x (Some c.args.from) (view c.args.desk.now).looked.heads) (sym at) last))
