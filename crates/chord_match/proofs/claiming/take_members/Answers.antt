use Rattle.std.proofs.Common.{false, true, ◌≡◌, ◌<◌, ◌+◌, ℕ, List, Option, Some, None, suc, length, slice_index_or, refl, ◌∙◌, sym, subst, ap, arith}
use Rattle.chord_rule.specs.declared.view.View.{View}
use Rattle.chord_rule.specs.Looks.{HasSeen}
use Rattle.chord_rule.specs.Ways.{LastSeen}
use Rattle.chord_rule.specs.Kinds.{saw, claimed}
use Rattle.chord_rule.specs.Tells.{IsNewClaim}
use Rattle.chord_word.specs.declared.cells.Cell.TheVariants as a_cell
use Rattle.chord_word.specs.declared.cells.Word.{Word}
use Rattle.chord_space.specs.Desks.{view, program_of}
use Rattle.chord_match.specs.declared.claiming.Missed.TheVariants.{Lost, Spent}
use Rattle.chord_match.specs.Claiming.{Taking, WereClaimed, IsMissed}
use Rattle.chord_match.proofs.Claims.{next_is_below, same_lengths, claimed_all, nexts_long, member_ready, taking_more, missed_full, missed_one, taken_all, took_in_order, drawn_from_first}
use Rattle.chord_match.proofs.claiming.take_members.Goals as goal

pub loop-at-init : goal.loop-at-init
loop-at-init g c = (c.requires.desk, (refl, refl), c.requires.taking, refl)

pub bounds-items-at-in-loop-at : goal.bounds-items-at-in-loop-at
bounds-items-at-in-loop-at g c =
    let ms = c.args.members.now in let xs = c.args.nexts.now in let n = c.args.space.now.events in let p = program_of c.args.space.now in let o = c.args.object in let v = view c.loop-at.desk in let k = c.loop-at.at in let t = c.loop-at.invariant.2 in
    let same = c.items-items.ensures.numbers in let e3 = c.items.ensures.nexts in
    let low : k < length ms = (let e = ap length same in let l = c.loop-at-test.true in omega (arith, e, l)) in
    let lengths = nexts_long n p v o c.args.chord ms xs k t low in let e = ap length e3 in
    omega (arith, low, lengths, e)

pub claim-requires-clause-bounds : goal.claim-requires-clause-bounds
claim-requires-clause-bounds g c =
    let ms = c.args.members.now in let xs = c.args.nexts.now in let n = c.args.space.now.events in let p = program_of c.args.space.now in let o = c.args.object in let v = view c.loop-at.desk in let k = c.loop-at.at in let t = c.loop-at.invariant.2 in
    let same = c.items-items.ensures.numbers in let e3 = c.items.ensures.nexts in
    let low : k < length ms = (let e = ap length same in let l = c.loop-at-test.true in omega (arith, e, l)) in
    let ready = member_ready n p v o c.args.chord ms xs k t low in (
      subst (λ (z : List ℕ). slice_index_or z k 0 < n) (sym same) ready.below,
      next_is_below n (slice_index_or c.items.result.now k None) (subst (λ (z : List (Option ℕ)). (x : ℕ) → slice_index_or z k None ≡ Some x → x < n) (sym e3) ready.next_below),
    )

pub claim-requires-clause-seen : goal.claim-requires-clause-seen
claim-requires-clause-seen g c =
    let ms = c.args.members.now in let xs = c.args.nexts.now in let n = c.args.space.now.events in let p = program_of c.args.space.now in let o = c.args.object in let v = view c.loop-at.desk in let k = c.loop-at.at in let t = c.loop-at.invariant.2 in
    let same = c.items-items.ensures.numbers in let e3 = c.items.ensures.nexts in
    let low : k < length ms = (let e = ap length same in let l = c.loop-at-test.true in omega (arith, e, l)) in
    let ready = member_ready n p v o c.args.chord ms xs k t low in
    subst (λ (z : List ℕ × List (Option ℕ)). HasSeen v (slice_index_or z.0 k 0) (slice_index_or z.1 k None)) (λ i. (sym same i, sym e3 i)) ready.seen

pub loop-at-preserved : goal.loop-at-preserved
loop-at-preserved g c =
    let ms = c.args.members.now in let xs = c.args.nexts.now in let n = c.args.space.now.events in let p = program_of c.args.space.now in let o = c.args.object in let v = view c.loop-at.desk in let k = c.loop-at.at in let t = c.loop-at.invariant.2 in
    let same = c.items-items.ensures.numbers in let e3 = c.items.ensures.nexts in
    let low : k < length ms = (let e = ap length same in let l = c.loop-at-test.true in omega (arith, e, l)) in
    let made = c.in-Ok.ensures.claimed in
    let new = subst (λ (z : List ℕ × List (Option ℕ)). IsNewClaim v (slice_index_or z.0 k 0) (slice_index_or z.1 k None) made.0) (λ i. (same i, e3 i)) made.1 in
    let word : Word = record { cell = a_cell.Claimed; next = slice_index_or c.items.result.now k None } in
    let now : view c.claim.new.desk ≡ saw (claimed v made.0) (slice_index_or ms k 0) word = made.2 ∙ ap (λ (z : List ℕ). saw (claimed v made.0) (slice_index_or z k 0) word) same in
    let more = taking_more n p v o c.args.chord ms xs k t low c.requires.right.1 c.requires.right.0 made.0 new word in
    let next : suc k ≡ k + 1 = omega arith in (
      c.claim.ensures.desk.0 ∙ c.loop-at.invariant.0,
      (c.claim.ensures.desk.0 ∙ c.loop-at.invariant.1.0, c.claim.ensures.desk.1 ∙ c.loop-at.invariant.1.1),
      subst (λ (z : View). Taking n p z o c.args.chord ms xs (k + 1)) (sym now) more,
      subst (λ (q : ℕ). WereClaimed n p (view c.args.desk.now) o c.args.chord ms xs q (view c.claim.new.desk)) next (v, c.loop-at.invariant.3, record { taking = t; low = low; claim = made.0; new = new; word = word; written = refl; becomes = now }),
    )

pub give_back_first-requires-clause-missed : goal.give_back_first-requires-clause-missed
give_back_first-requires-clause-missed g c =
    let ms = c.args.members.now in let xs = c.args.nexts.now in let n = c.args.space.now.events in let p = program_of c.args.space.now in let o = c.args.object in let v = view c.loop-at.desk in let k = c.loop-at.at in let t = c.loop-at.invariant.2 in
    let same = c.items-items.ensures.numbers in let e3 = c.items.ensures.nexts in
    let low : k < length ms = (let e = ap length same in let l = c.loop-at-test.true in omega (arith, e, l)) in
    let ready = member_ready n p v o c.args.chord ms xs k t low in
    let r = c.in-Err.ensures.refused in
    let word : Word = record { cell = c.in-Err.field-0; next = r.1.0 } in
    let m = missed_one n v (view c.claim.new.desk) ms xs k c.in-Err.field-0 r.1.0 low ready.below (r.1.1 ∙ ap (λ (z : List ℕ). saw v (slice_index_or z k 0) word) same) r.0
    (λ first lent l. let z : false ≡ true = c.in-Err.ensures.alone first lent (subst (λ (z : List ℕ × List (Option ℕ)). LastSeen (slice_index_or z.0 k 0) (record { cell = a_cell.Pending; next = slice_index_or z.1 k None }) v.looked.seen) (λ i. (sym same i, sym e3 i)) (l k (omega arith) low)) in cc) in
    (o, c.args.chord, xs, view c.args.desk.now, v, Lost (slice_index_or ms k 0), c.requires.right.0, c.requires.right.1, c.loop-at.invariant.3, m)

pub returns-in-Err-clause-taken : goal.returns-in-Err-clause-taken
returns-in-Err-clause-taken g c =
    let ms = c.args.members.now in let xs = c.args.nexts.now in let n = c.args.space.now.events in let p = program_of c.args.space.now in let o = c.args.object in let v = view c.loop-at.desk in let k = c.loop-at.at in let t = c.loop-at.invariant.2 in
    let same = c.items-items.ensures.numbers in let e3 = c.items.ensures.nexts in
    let low : k < length ms = (let e = ap length same in let l = c.loop-at-test.true in omega (arith, e, l)) in
    let ready = member_ready n p v o c.args.chord ms xs k t low in
    let r = c.in-Err.ensures.refused in
    let word : Word = record { cell = c.in-Err.field-0; next = r.1.0 } in
    let m = missed_one n v (view c.claim.new.desk) ms xs k c.in-Err.field-0 r.1.0 low ready.below (r.1.1 ∙ ap (λ (z : List ℕ). saw v (slice_index_or z k 0) word) same) r.0
    (λ first lent l. let z : false ≡ true = c.in-Err.ensures.alone first lent (subst (λ (z : List ℕ × List (Option ℕ)). LastSeen (slice_index_or z.0 k 0) (record { cell = a_cell.Pending; next = slice_index_or z.1 k None }) v.looked.seen) (λ i. (sym same i, sym e3 i)) (l k (omega arith) low)) in cc) in
    subst (λ (z : List ℕ). IsMissed n (view c.args.desk.now) (view c.give_back_first.new.desk) ms xs 0 (Lost (slice_index_or z k 0))) (sym same)
    (c.give_back_first.ensures.missed o c.args.chord xs (view c.args.desk.now) v (Lost (slice_index_or ms k 0)) c.requires.right.0 c.requires.right.1 c.loop-at.invariant.3 m)

pub draw_firing-requires-clause-members : goal.draw_firing-requires-clause-members
draw_firing-requires-clause-members g c =
    let ms = c.args.members.now in let xs = c.args.nexts.now in let n = c.args.space.now.events in let p = program_of c.args.space.now in let o = c.args.object in let v = view c.loop-at.desk in let t = c.loop-at.invariant.2 in
    let full : c.loop-at.at ≡ length ms = (let e = ap length c.items-items.ensures.numbers in let l = c.loop-at-test.false in let most = t.most in omega (arith, e, l, most)) in
    let lengths = same_lengths n v o t.seen.methods ms xs t.seen.ready in
    let r = claimed_all v.claims o t.seen.methods ms lengths.0 (λ q l. t.claimed q (omega (arith, l, full))) in
    record { methods = t.seen.methods; values = r.0; found = t.seen.is_chord; claimed = r.1; exactly = t.many ∙ full }

pub returns-in-Ok-draw_firing-clause-taken : goal.returns-in-Ok-draw_firing-clause-taken
returns-in-Ok-draw_firing-clause-taken g c =
    let ms = c.args.members.now in let xs = c.args.nexts.now in let n = c.args.space.now.events in let p = program_of c.args.space.now in let o = c.args.object in let v = view c.loop-at.desk in let t = c.loop-at.invariant.2 in
    let full : c.loop-at.at ≡ length ms = (let e = ap length c.items-items.ensures.numbers in let l = c.loop-at-test.false in let most = t.most in omega (arith, e, l, most)) in
    let lengths = same_lengths n v o t.seen.methods ms xs t.seen.ready in
    let r = claimed_all v.claims o t.seen.methods ms lengths.0 (λ q l. t.claimed q (omega (arith, l, full))) in
    let d = c.in-Ok-draw_firing.ensures.drawn in (
      d.0,
      drawn_from_first n p (view c.args.desk.now) (view c.draw_firing.new.desk) o c.args.chord ms xs c.in-Ok-draw_firing.number c.loop-at.at v c.loop-at.invariant.3
          (taken_all n p v (view c.draw_firing.new.desk) o c.args.chord ms xs c.loop-at.at c.in-Ok-draw_firing.number t.seen.methods r.0 t full t.seen.is_chord r.1 d.1 (d.2 t.seen.methods r.0 t.seen.is_chord r.1)),
      took_in_order n p (view c.args.desk.now) (view c.draw_firing.new.desk) o c.args.chord ms xs c.in-Ok-draw_firing.number c.loop-at.at v full c.loop-at.invariant.3 (ap (λ (z : View). z.looked) (d.2 t.seen.methods r.0 t.seen.is_chord r.1).0),
    )

pub give_back_first-requires-in-Err-draw_firing-clause-missed : goal.give_back_first-requires-in-Err-draw_firing-clause-missed
give_back_first-requires-in-Err-draw_firing-clause-missed g c =
    let ms = c.args.members.now in let xs = c.args.nexts.now in let n = c.args.space.now.events in let p = program_of c.args.space.now in let o = c.args.object in let v = view c.loop-at.desk in let t = c.loop-at.invariant.2 in
    let full : c.loop-at.at ≡ length ms = (let e = ap length c.items-items.ensures.numbers in let l = c.loop-at-test.false in let most = t.most in omega (arith, e, l, most)) in
    let lengths = same_lengths n v o t.seen.methods ms xs t.seen.ready in
    let r = claimed_all v.claims o t.seen.methods ms lengths.0 (λ q l. t.claimed q (omega (arith, l, full))) in
    let told = c.in-Err-draw_firing.ensures.told in
    let all : c.loop-at.at ≡ length c.items-items.result.now = full ∙ sym (ap length c.items-items.ensures.numbers) in
    let m = missed_full n v (view c.draw_firing.new.desk) ms xs (length c.items-items.result.now) told.0 (ap length c.items-items.ensures.numbers) told.1 told.2 in
    let chain = subst (λ (q : ℕ). WereClaimed n p (view c.args.desk.now) o c.args.chord ms xs q v) all c.loop-at.invariant.3 in
    (o, c.args.chord, xs, view c.args.desk.now, v, Spent, c.requires.right.0, c.requires.right.1, chain, m)

pub returns-in-Err-draw_firing-clause-taken : goal.returns-in-Err-draw_firing-clause-taken
returns-in-Err-draw_firing-clause-taken g c =
    let ms = c.args.members.now in let xs = c.args.nexts.now in let n = c.args.space.now.events in let p = program_of c.args.space.now in let o = c.args.object in let v = view c.loop-at.desk in let t = c.loop-at.invariant.2 in
    let full : c.loop-at.at ≡ length ms = (let e = ap length c.items-items.ensures.numbers in let l = c.loop-at-test.false in let most = t.most in omega (arith, e, l, most)) in
    let lengths = same_lengths n v o t.seen.methods ms xs t.seen.ready in
    let r = claimed_all v.claims o t.seen.methods ms lengths.0 (λ q l. t.claimed q (omega (arith, l, full))) in
    let told = c.in-Err-draw_firing.ensures.told in
    let all : c.loop-at.at ≡ length c.items-items.result.now = full ∙ sym (ap length c.items-items.ensures.numbers) in
    let m = missed_full n v (view c.draw_firing.new.desk) ms xs (length c.items-items.result.now) told.0 (ap length c.items-items.ensures.numbers) told.1 told.2 in
    let chain = subst (λ (q : ℕ). WereClaimed n p (view c.args.desk.now) o c.args.chord ms xs q v) all c.loop-at.invariant.3 in
    c.give_back_first-in-Err-draw_firing.ensures.missed o c.args.chord xs (view c.args.desk.now) v Spent c.requires.right.0 c.requires.right.1 chain m
