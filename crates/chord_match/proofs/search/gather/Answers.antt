use Rattle.std.proofs.Common.{◌≡◌, ◌∷◌, ◌+◌, ℕ, List, Option, drop, length, slice_index_or, refl, sym, ap, ◌∙◌, subst, arith}
use Rattle.std.proofs.Math.ListN.{drop_of_length-le}
use Rattle.chord_space.specs.Desks.{view}
use Rattle.chord_match.specs.declared.search.Pick.{Pick}
use Rattle.chord_match.specs.Searching.{Picked}
use Rattle.chord_match.specs.Noting.{all_told}
use Rattle.chord_match.proofs.Lists.{has_at, from_place, one_longer}
use Rattle.chord_match.proofs.Knowing.{IsPartGathered, part_first, part_more, part_stuck, part_all}
use Rattle.chord_match.proofs.search.gather.Goals as goal

pub loop-method-init : goal.loop-method-init
loop-method-init g c = (
  c.requires.desk,
  (refl, refl),
  c.requires.room,
  λ v t. part_first c.args.space.now.events v (view c.args.desk.now) c.args.object c.args.own.now c.args.methods.now (all_told c.args.known.now) c.args.members.now c.args.nexts.now t,
)

pub pick_member-requires-clause-bounds : goal.pick_member-requires-clause-bounds
pick_member-requires-clause-bounds g c =
    let js = c.args.methods.now in let k = c.loop-method.method-index in (c.requires.bounds.0, c.requires.bounds.1, c.requires.methods (slice_index_or js k 0) (has_at js k c.loop-method-test.true))

-- a member is a message of the table
pub overflow_cast-i : goal.overflow_cast-i
overflow_cast-i g c =
    let js = c.args.methods.now in let k = c.loop-method.method-index in let s = c.requires.searching in let part = c.loop-method.invariant.3 s.0 s.1 in
    let picked = subst (λ (p : Pick). Picked c.args.space.now.events s.0 (view c.loop-method.desk) (view c.pick_member.new.desk) c.args.object c.args.own.now (slice_index_or js k 0) (all_told c.loop-method.known) (all_told c.pick_member.new.known) p) c.in-Take.is (c.pick_member.ensures.picked s.0 part.stands) in
    let low = picked.picked.1.below in let few = c.args.space.now.sized.4 in
    omega (arith, low, few)

pub loop-method-preserved : goal.loop-method-preserved
loop-method-preserved g c =
    let js = c.args.methods.now in let k = c.loop-method.method-index in let i = c.loop-method.invariant in
    let here : drop k js ≡ slice_index_or js k 0 ∷ drop (k + 1) js = from_place js k c.loop-method-test.true in
    let less = ap length here in let room = i.2 in
    let members = ap length c.push.ensures ∙ one_longer c.loop-method.members c.in-Take.i in
    let nexts = ap length c.push-in-Take.ensures ∙ one_longer c.loop-method.nexts c.in-Take.next in (
      c.pick_member.ensures.desk.0 ∙ i.0,
      (c.pick_member.ensures.desk.0 ∙ i.1.0, c.pick_member.ensures.desk.1 ∙ i.1.1),
      (omega (arith, less, room, members), omega (arith, less, room, nexts)),
      (λ v t. let part = i.3 v t in
          let picked = subst (λ (p : Pick). Picked c.args.space.now.events v (view c.loop-method.desk) (view c.pick_member.new.desk) c.args.object c.args.own.now (slice_index_or js k 0) (all_told c.loop-method.known) (all_told c.pick_member.new.known) p) c.in-Take.is (c.pick_member.ensures.picked v part.stands) in
          subst (λ (z : List ℕ × List (Option ℕ)). IsPartGathered c.args.space.now.events v (view c.args.desk.now) (view c.pick_member.new.desk) c.args.object c.args.own.now js (drop (k + 1) js) (all_told c.args.known.now) (all_told c.pick_member.new.known) c.args.members.now z.0 c.args.nexts.now z.1) (λ x. (sym c.push.ensures x, sym c.push-in-Take.ensures x))
          (part_more c.args.space.now.events v (view c.args.desk.now) (view c.loop-method.desk) (view c.pick_member.new.desk) c.args.object c.args.own.now js (slice_index_or js k 0) (drop k js) (drop (k + 1) js) here (all_told c.args.known.now) (all_told c.loop-method.known) (all_told c.pick_member.new.known) c.args.members.now c.loop-method.members c.args.nexts.now c.loop-method.nexts part c.in-Take.i c.in-Take.next picked)),
    )

pub returns-in-Stuck-clause-gathered : goal.returns-in-Stuck-clause-gathered
returns-in-Stuck-clause-gathered g c v t =
    let js = c.args.methods.now in let k = c.loop-method.method-index in let part = c.loop-method.invariant.3 v t in
    let here : drop k js ≡ slice_index_or js k 0 ∷ drop (k + 1) js = from_place js k c.loop-method-test.true in
    let picked = subst (λ (p : Pick). Picked c.args.space.now.events v (view c.loop-method.desk) (view c.pick_member.new.desk) c.args.object c.args.own.now (slice_index_or js k 0) (all_told c.loop-method.known) (all_told c.pick_member.new.known) p) c.in-Stuck.is (c.pick_member.ensures.picked v part.stands) in
    part_stuck c.args.space.now.events v (view c.args.desk.now) (view c.loop-method.desk) (view c.pick_member.new.desk) c.args.object c.args.own.now js (slice_index_or js k 0) (drop k js) (drop (k + 1) js) here (all_told c.args.known.now) (all_told c.loop-method.known) (all_told c.pick_member.new.known) c.args.members.now c.loop-method.members c.args.nexts.now c.loop-method.nexts part c.in-Stuck.busy picked

pub returns-clause-gathered : goal.returns-clause-gathered
returns-clause-gathered g c v t =
    let js = c.args.methods.now in
    part_all c.args.space.now.events v (view c.args.desk.now) (view c.loop-method.desk) c.args.object c.args.own.now js (drop c.loop-method.method-index js) (all_told c.args.known.now) (all_told c.loop-method.known) c.args.members.now c.loop-method.members c.args.nexts.now c.loop-method.nexts (drop_of_length-le js c.loop-method-test.false) (c.loop-method.invariant.3 v t)
