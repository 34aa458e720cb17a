use Rattle.std.proofs.Common.{rules, ℕ, List, [], ◌∷◌, ◌++◌, inl, refl, ◌∙◌, sym, subst, arith, append_assoc, append-nil}
use Rattle.chord_word.specs.declared.cells.Cell.TheVariants as a_cell
use Rattle.chord_word.specs.declared.cells.Word.{Word}
use Rattle.chord_space.specs.Desks.{view, space_code, space_limits, program_of}
use Rattle.chord_match.specs.Consuming.{Consuming, Handed}
use Rattle.chord_match.proofs.Lists.{no_items, one_longer}
use Rattle.chord_match.proofs.Handovers.{split_methods, no_method_left, handed_none, consuming_less, handed_more}
use Rattle.chord_match.proofs.handing.+hand_out.Goals as goal

pub consume-parcel-requires-clause-bounds : goal.consume-parcel-requires-clause-bounds
consume-parcel-requires-clause-bounds g s c =
    let split = c.in-Some.ensures.cases in let r = c.requires.consuming in let n = c.args.space.now.events in
    (subst (λ (z : List ℕ). Consuming n (view c.args.desk.now) r.0 r.1 z r.2 r.3) split.0 r.4).below c.in-Some.i.now (inl refl)

pub consume-parcel-requires-clause-fired : goal.consume-parcel-requires-clause-fired
consume-parcel-requires-clause-fired g s c =
    let split = c.in-Some.ensures.cases in let r = c.requires.consuming in let n = c.args.space.now.events in let v = view c.args.desk.now in let i = c.in-Some.i.now in
    let t0 = subst (λ (z : List ℕ). Consuming n v r.0 r.1 z r.2 r.3) split.0 r.4 in
    let m = split_methods v.claims r.2 r.0 r.1 i c.in-Some.rest.now r.3 t0.fired in
    let t = subst (λ (z : List ℕ). Consuming n v r.0 z (i ∷ c.in-Some.rest.now) r.2 r.3) m.2 t0 in
    (t.fired.0.claim, r.2, t.fired.0.there, t.fired.0.numbered, t.fired.0.firing)

pub receive-requires : goal.receive-requires
receive-requires g s c =
    let l = c.in-Some.ensures.cases.1 in let r = c.requires.room in let room = r.2 in record { room = (r.0, r.1, omega (arith, l, room)) }

pub hand_out-requires : goal.hand_out-requires
hand_out-requires g s c =
    let split = c.in-Some.ensures.cases in let r = c.requires.consuming in let n = c.args.space.now.events in let v = view c.args.desk.now in let i = c.in-Some.i.now in let q = c.consume-parcel.result in
    let t0 = subst (λ (z : List ℕ). Consuming n v r.0 r.1 z r.2 r.3) split.0 r.4 in
    let m = split_methods v.claims r.2 r.0 r.1 i c.in-Some.rest.now r.3 t0.fired in
    let t = subst (λ (z : List ℕ). Consuming n v r.0 z (i ∷ c.in-Some.rest.now) r.2 r.3) m.2 t0 in
    let word : Word = record { cell = a_cell.Consumed; next = t.fired.0.claim.next } in
    let is = c.consume-parcel.ensures.taken t.fired.0.claim t.fired.0.there t.fired.0.numbered in
    let less = consuming_less g.P.Carry.entries g.P.Carry.arguments (λ z. g.P.Carry.keeps_to z (space_code c.args.space.now) (space_limits c.args.space.now)) (program_of c.args.space.now) n v (view c.consume-parcel.new.desk) r.0 m.0 m.1 i c.in-Some.rest.now r.2 r.3 q word t is in
    let h = c.requires.room in
    let longer = one_longer h.0 q in
    let l = split.1 in let room = h.2 in let d = c.decreases in
    λ κs o. (
      search rules,
      (
        o.0,
        (
          o.1,
          (
            c.consume-parcel.ensures.desk.0 ∙ c.requires.desk,
            (
              (r.0, m.1, r.2, t.fired.1, less),
              (h.0 ++ q ∷ [], c.receive.ensures.received h.0 h.1, omega (arith, l, room, longer)),
            ),
          ),
        ),
      ),
    )

pub returns-in-Some-clause-handed : goal.returns-in-Some-clause-handed
returns-in-Some-clause-handed g s c ps o js f us held t1 =
    let split = c.in-Some.ensures.cases in let n = c.args.space.now.events in let p = program_of c.args.space.now in let v = view c.args.desk.now in let i = c.in-Some.i.now in let q = c.consume-parcel.result in
    let t0 = subst (λ (z : List ℕ). Consuming n v o js z f us) split.0 t1 in
    let m = split_methods v.claims f o js i c.in-Some.rest.now us t0.fired in
    let t = subst (λ (z : List ℕ). Consuming n v o z (i ∷ c.in-Some.rest.now) f us) m.2 t0 in
    let word : Word = record { cell = a_cell.Consumed; next = t.fired.0.claim.next } in
    let e = c.consume-parcel.ensures in let a = t.fired.0 in
    let is = e.taken a.claim a.there a.numbered in
    let less = consuming_less g.P.Carry.entries g.P.Carry.arguments (λ z. g.P.Carry.keeps_to z (space_code c.args.space.now) (space_limits c.args.space.now)) p n v (view c.consume-parcel.new.desk) o m.0 m.1 i c.in-Some.rest.now f us q word t is in
    let h = c.hand_out.ensures.handed (ps ++ q ∷ []) o m.1 f t.fired.1 (c.receive.ensures.received ps held) less in (
      q ∷ h.0,
      subst (g.H.Receive.holds c.hand_out.new.hand) (append_assoc ps (q ∷ []) h.0) h.1,
      subst (λ (z : List ℕ × List ℕ). Handed g.P.Carry.entries g.P.Carry.arguments (λ z. g.P.Carry.keeps_to z (space_code c.args.space.now) (space_limits c.args.space.now)) p v (view c.hand_out.new.desk) o z.0 z.1 f us (q ∷ h.0)) (λ k. (sym m.2 k, sym split.0 k))
          (handed_more g.P.Carry.entries g.P.Carry.arguments (λ z. g.P.Carry.keeps_to z (space_code c.args.space.now) (space_limits c.args.space.now)) p n v (view c.consume-parcel.new.desk) o m.0 m.1 i c.in-Some.rest.now f us q word t is (view c.hand_out.new.desk) h.0 refl
          (e.parcel a.claim a.there a.numbered) (e.below a.claim f a.there a.numbered a.firing) e.task (e.comes a.claim a.there a.numbered) h.2),
    )

pub returns-in_default-clause-handed : goal.returns-in_default-clause-handed
returns-in_default-clause-handed g s c ps o js f us held t1 =
    let none = no_items c.args.members.now c.in_default.ensures.cases in let n = c.args.space.now.events in let p = program_of c.args.space.now in let v = view c.args.desk.now in
    let t0 = subst (λ (z : List ℕ). Consuming n v o js z f us) none t1 in
    let m = no_method_left v.claims f o js us t0.fired in
    let t = subst (λ (z : List ℕ). Consuming n v o z [] f us) m.0 t0 in (
      [],
      subst (g.H.Receive.holds c.args.hand.now) (sym (append-nil ps)) held,
      subst (λ (z : List ℕ × List ℕ). Handed g.P.Carry.entries g.P.Carry.arguments (λ z. g.P.Carry.keeps_to z (space_code c.args.space.now) (space_limits c.args.space.now)) p v v o z.0 z.1 f us []) (λ k. (sym m.0 k, sym none k))
          (handed_none g.P.Carry.entries g.P.Carry.arguments (λ z. g.P.Carry.keeps_to z (space_code c.args.space.now) (space_limits c.args.space.now)) p n v o f us t),
    )
