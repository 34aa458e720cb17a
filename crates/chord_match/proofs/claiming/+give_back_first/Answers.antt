use Rattle.std.proofs.Common.{rules, ◌≡◌, ℕ, ◌+◌, ◌-◌, ◌<◌, List, None, slice_index_or, ◌∙◌, sym, subst, arith}
use Rattle.chord_rule.specs.declared.view.Claim.{Claim}
use Rattle.chord_rule.specs.Claims.{HasThe}
use Rattle.chord_rule.specs.Kinds.{saw, unclaimed}
use Rattle.chord_rule.specs.Tells.{a_word}
use Rattle.chord_word.specs.declared.cells.Cell.TheVariants.{Pending}
use Rattle.chord_space.specs.Desks.{view, program_of}
use Rattle.chord_match.specs.Claiming.{IsMissed}
use Rattle.chord_match.proofs.Claims.{member_ready, last_claimed, may_give_last, missed_last}
use Rattle.chord_match.proofs.claiming.+give_back_first.Goals as goal

pub give_back-requires-clause-bounds : goal.give_back-requires-clause-bounds
give_back-requires-clause-bounds g s c =
    let n = c.args.space.now.events in let p = program_of c.args.space.now in let ms = c.args.members.now in let k = c.args.many - 1 in let old = view c.args.desk.now in let same = c.items.ensures.numbers in
    let pos = c.if-many-gt0.true in let more : c.args.many ≡ k + 1 = omega (arith, pos) in
    let r = c.requires.missed in
    let l = last_claimed n p r.3 r.0 r.1 ms r.2 c.args.many r.4 pos r.8 in
    let m = subst (λ (q : ℕ). IsMissed n r.4 old ms r.2 q r.5) more r.9 in
    subst (λ (z : List ℕ). slice_index_or z k 0 < n) (sym same) (member_ready n p l.0 r.0 r.1 ms r.2 k l.2.taking l.2.low).below

pub give_back-requires-clause-claimed : goal.give_back-requires-clause-claimed
give_back-requires-clause-claimed g s c =
    let n = c.args.space.now.events in let p = program_of c.args.space.now in let ms = c.args.members.now in let k = c.args.many - 1 in let old = view c.args.desk.now in let same = c.items.ensures.numbers in
    let pos = c.if-many-gt0.true in let more : c.args.many ≡ k + 1 = omega (arith, pos) in
    let r = c.requires.missed in
    let l = last_claimed n p r.3 r.0 r.1 ms r.2 c.args.many r.4 pos r.8 in
    let m = subst (λ (q : ℕ). IsMissed n r.4 old ms r.2 q r.5) more r.9 in
    subst (λ (z : List ℕ). (d : Claim) × HasThe d old.claims × (d.number ≡ slice_index_or z k 0) × (d.firing ≡ None)) (sym same) (may_give_last n p r.7 r.0 r.6 r.1 ms r.2 k l.0 r.4 old l.2 r.5 m)

pub give_back_first-requires : goal.give_back_first-requires
give_back_first-requires g s c =
    let n = c.args.space.now.events in let p = program_of c.args.space.now in let ms = c.args.members.now in let k = c.args.many - 1 in let old = view c.args.desk.now in let same = c.items.ensures.numbers in
    let pos = c.if-many-gt0.true in let more : c.args.many ≡ k + 1 = omega (arith, pos) in
    let r = c.requires.missed in
    let l = last_claimed n p r.3 r.0 r.1 ms r.2 c.args.many r.4 pos r.8 in
    let m = subst (λ (q : ℕ). IsMissed n r.4 old ms r.2 q r.5) more r.9 in
    let now = view c.give_back.new.desk in
    let given = subst (λ (z : List ℕ). (d : Claim) → HasThe d old.claims → d.number ≡ slice_index_or z k 0 → now ≡ saw (unclaimed old (slice_index_or z k 0)) (slice_index_or z k 0) (a_word Pending d.next)) same c.give_back.ensures.given in
    let d = c.decreases in
    λ κs o. (
      search rules,
      (
        o,
        (
          c.give_back.ensures.desk.0 ∙ c.requires.desk,
          (r.0, r.1, r.2, r.3, l.0, r.5, r.6, r.7, l.1, missed_last n p r.7 r.0 r.6 r.1 ms r.2 k l.0 r.4 old l.2 r.5 m now given),
        ),
      ),
    )

pub returns-then-many-gt0-clause-missed : goal.returns-then-many-gt0-clause-missed
returns-then-many-gt0-clause-missed g s c o chord xs v u x small right were missed =
    let n = c.args.space.now.events in let p = program_of c.args.space.now in let ms = c.args.members.now in let k = c.args.many - 1 in let old = view c.args.desk.now in let same = c.items.ensures.numbers in
    let pos = c.if-many-gt0.true in let more : c.args.many ≡ k + 1 = omega (arith, pos) in
    let l = last_claimed n p v o chord ms xs c.args.many u pos were in
    let m = subst (λ (q : ℕ). IsMissed n u old ms xs q x) more missed in
    let now = view c.give_back.new.desk in
    let given = subst (λ (z : List ℕ). (d : Claim) → HasThe d old.claims → d.number ≡ slice_index_or z k 0 → now ≡ saw (unclaimed old (slice_index_or z k 0)) (slice_index_or z k 0) (a_word Pending d.next)) same c.give_back.ensures.given in
    c.give_back_first.ensures.missed o chord xs v l.0 x small right l.1 (missed_last n p right o small chord ms xs k l.0 u old l.2 x m now given)
