use Rattle.std.proofs.Common.{◌≡◌, ℕ, ◌+◌, ◌%◌, ◌^◌, ◌<◌, ◌∙◌, ◌∷◌, true, false, sym, subst, arith, ⊎_elim}
use mathlib.Core.Option.{none}
use Rattle.atomic_table.specs.Table.{Allows, step}
use Rattle.chord_base.specs.Bodies.{Asks}
use Rattle.chord_base.specs.Story.{IsOwn, AllBelow}
use Rattle.chord_base.specs.declared.event.Limits.{Limits}
use Rattle.chord_base.specs.declared.event.What.{What}
use Rattle.chord_base.specs.declared.event.What.TheVariants.{Begun}
use Rattle.chord_code.specs.declared.parts.Parts.{Parts}
use Rattle.chord_code.specs.Meaning.{code_program}
use Rattle.chord_base.specs.declared.value.Object.{Object}
use Rattle.chord_rule.specs.Kinds.{entry, drew, saw_count}
use Rattle.chord_rule.specs.Made.{Names}
use Rattle.chord_rule.specs.Coming.{IsPlace}
use Rattle.chord_rule.specs.Whole.{Held}
use Rattle.chord_rule.specs.Tells.{draws, CameNext}
use Rattle.chord_rule.proofs.Moves.{draw_step}
use Rattle.chord_rule.proofs.Moving.{begun_step}
use Rattle.chord_space.specs.Widest.{widest}
use Rattle.chord_space.specs.Ruled.{Ruled, IsOfCode, draws_of_code}
use Rattle.chord_space.proofs.Classes.{of_code}
use Rattle.chord_space.proofs.Under.{under_telling}
use Rattle.chord_space.proofs.space.Space.step_draw.Goals as goal

pub fetch_add-requires : goal.fetch_add-requires
fetch_add-requires g c = let sized = c.args.self.now.sized in let key = c.args.self.now.table.shared.key in let p = code_program key.code.value key.limits in let said = c.requires.entry in let seat = c.args.desk.now.seat in let live = c.args.desk.now.settled.6 in
    let keeps : g.row.P.Denot → Type 0 = λ q. g.P.Carry.keeps_to q key.code.value key.limits in let n : ℕ = key.limits.events in let body : ℕ = c.args.body in let what = g.A.AsEntry.what c.args.said.now in
    let may : ℕ → What → Type 0 = λ b w. Allows (Held g.P.Carry.entries g.P.Carry.arguments keeps p n (widest key.code.value)) n seat.id seat.me 0 (λ x. (x + 1) % 2 ^ 64) (draws p b w (step n 0 1 0 none) seat.me) in
    let own : IsOwn what × Asks p seat.me.0.kept body what → may body what = λ next. draw_step g.P.Carry.entries g.P.Carry.arguments keeps p n _ (omega arith) (omega arith) seat.id seat.me body what live c.requires.room next.0 next.1 in
    let begun : (what ≡ Begun) × (body ≡ 0) × (seat.me.0.first ≡ true) × (seat.me.0.drawn ≡ false) × (seat.me.0.splits ≡ 0) → may body what = λ first.
    subst (λ (y : ℕ × What). may y.0 y.1) (λ i. (sym first.1 i, sym first.0 i)) (begun_step g.P.Carry.entries g.P.Carry.arguments keeps p n _ (omega arith) (omega arith) seat.id seat.me live first.2 first.3 first.4) in (
      c.requires.desk,
      omega arith,
      subst (λ (y : ℕ × ℕ × What × Parts × Limits). Allows (Ruled g.P.Carry.entries g.P.Carry.arguments g.P.Carry.keeps_to key.code.value key.limits) y.0 seat.id seat.me 0 (λ x. (x + 1) % 2 ^ 64) (draws_of_code y.3 y.4 y.1 y.2 (step y.0 0 1 0 none) seat.me))
          (λ i. ((sized.0 ∙ sym sized.2) i, sym said.0 i, sym said.1 i, sym said.2 i, sym said.3 i))
          (under_telling g.P.Carry.entries g.P.Carry.arguments g.P.Carry.keeps_to key.code.value key.limits n seat.id seat.me 0 (λ x. (x + 1) % 2 ^ 64) (draws p body what (step n 0 1 0 none) seat.me) (draws_of_code key.code.value key.limits body what (step n 0 1 0 none) seat.me)
          (λ x w valid sound told. (told, λ low. let came = (told.1 low).3 in of_code key.code.value key.limits valid sound came.0 (entry x body what) came.1)) (⊎_elim own begun c.requires.next)),
    )

pub returns-clause-drawn : goal.returns-clause-drawn
returns-clause-drawn g c = λ low. let sized = c.args.self.now.sized in let said = c.requires.entry in let told = c.fetch_add.ensures.2 in let old = c.args.desk.now.seat.me.0 in let x = c.fetch_add.result in
    let inside : x < c.args.self.now.table.shared.table_id.slots = omega arith in let t = told.0.1 inside in
    subst (λ (y : ℕ × What × Parts × Limits).
    (c.fetch_add.new.seat.me.0 ≡ saw_count (drew old x y.0 y.1) (x + 1)) × AllBelow x old.kept × ((o : Object) → Names y.1 o → o.number < x) × IsOfCode y.2 y.1 × CameNext (code_program y.2 y.3) (entry x y.0 y.1) × IsPlace (code_program y.2 y.3) (entry x y.0 y.1 ∷ old.kept))
    (λ i. (said.0 i, said.1 i, said.2 i, said.3 i)) (t.0, t.1, t.2, told.1 inside, t.3, t.4)
