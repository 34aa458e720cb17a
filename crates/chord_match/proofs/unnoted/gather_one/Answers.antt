use Rattle.std.proofs.Common.{◌≡◌, ◌∷◌, ◌+◌, ◌<◌, ◌≤◌, ℕ, List, Option, drop, length, replicate, slice_index_or, refl, sym, ap, ◌∙◌, subst, arith, None}
use Rattle.std.proofs.Math.ListN.{drop_of_length-le}
use Rattle.chord_space.specs.Desks.{view, heads}
use Rattle.chord_bag.specs.declared.walk.Sought.{Sought}
use Rattle.chord_match.specs.declared.search.Pick.{Pick}
use Rattle.chord_match.specs.Searching.{PickedFirst}
use Rattle.chord_match.proofs.Finds.{all_none, none_bare}
use Rattle.chord_match.proofs.Lists.{has_at, from_place, one_longer}
use Rattle.chord_match.proofs.Knowing.{IsFirstGathered, part_first, part_all, first_more, first_stuck, first_bare}
use Rattle.chord_match.proofs.unnoted.gather_one.Goals as goal

-- a method of an object has its place among all
at_method : (wide heads : ℕ) (js : List ℕ) (k : ℕ) (known : List (Option Sought)) → heads ≡ wide → heads ≤ 16 → length known ≡ 16 → slice_index_or js k 0 < wide → slice_index_or js k 0 < length known
at_method wide heads js k known is few long low = omega (arith, is, few, long, low)

pub loop-method-init : goal.loop-method-init
loop-method-init g c = (
  c.requires.desk,
  (refl, refl),
  c.requires.room,
  λ v t. record {
    known = replicate 16 None;
    long = refl;
    left = λ q from l. all_none 16 (slice_index_or c.args.methods.now q 0);
    none = λ q. none_bare 16 q;
    part = part_first c.args.space.now.events v (view c.args.desk.now) c.args.object c.args.own.now c.args.methods.now (replicate 16 None) c.args.members.now c.args.nexts.now t;
  },
)

pub pick_first-requires-clause-bounds : goal.pick_first-requires-clause-bounds
pick_first-requires-clause-bounds g c =
    let js = c.args.methods.now in let k = c.loop-method.method-index in (c.requires.bounds.0, c.requires.bounds.1, c.requires.methods.0 (slice_index_or js k 0) (has_at js k c.loop-method-test.true))

-- a member is a message of the table
pub overflow_cast-i : goal.overflow_cast-i
overflow_cast-i g c =
    let js = c.args.methods.now in let k = c.loop-method.method-index in let s = c.requires.searching in let v = s.0 in let part = c.loop-method.invariant.3 s.0 s.1 in
    let first = subst (λ (p : Pick). PickedFirst c.args.space.now.events v (view c.loop-method.desk) (view c.pick_first.new.desk) c.args.object c.args.own.now (slice_index_or js k 0) part.known p) c.in-Take.is (c.pick_first.ensures.picked v part.known part.part.stands (part.left k (omega arith) c.loop-method-test.true) (at_method (heads c.args.space.now) c.args.space.now.heads js k part.known c.args.space.now.sized.5 c.args.space.now.sized.6 part.long (c.requires.methods.0 (slice_index_or js k 0) (has_at js k c.loop-method-test.true)))) in
    let low = first.picked.picked.1.below in let few = c.args.space.now.sized.4 in
    omega (arith, low, few)

pub loop-method-preserved : goal.loop-method-preserved
loop-method-preserved g c =
    let js = c.args.methods.now in let k = c.loop-method.method-index in let i = c.loop-method.invariant in
    let here : drop k js ≡ slice_index_or js k 0 ∷ drop (k + 1) js = from_place js k c.loop-method-test.true in
    let less = ap length here in let room = i.2 in
    let members = ap length c.push.ensures ∙ one_longer c.loop-method.members c.in-Take.i in
    let nexts = ap length c.push-in-Take.ensures ∙ one_longer c.loop-method.nexts c.in-Take.next in (
      c.pick_first.ensures.desk.0 ∙ i.0,
      (c.pick_first.ensures.desk.0 ∙ i.1.0, c.pick_first.ensures.desk.1 ∙ i.1.1),
      (omega (arith, less, room, members), omega (arith, less, room, nexts)),
      (λ v t. let part = i.3 v t in
          let first = subst (λ (p : Pick). PickedFirst c.args.space.now.events v (view c.loop-method.desk) (view c.pick_first.new.desk) c.args.object c.args.own.now (slice_index_or js k 0) part.known p) c.in-Take.is (c.pick_first.ensures.picked v part.known part.part.stands (part.left k (omega arith) c.loop-method-test.true) (at_method (heads c.args.space.now) c.args.space.now.heads js k part.known c.args.space.now.sized.5 c.args.space.now.sized.6 part.long (c.requires.methods.0 (slice_index_or js k 0) (has_at js k c.loop-method-test.true)))) in
          subst (λ (z : List ℕ × List (Option ℕ)). IsFirstGathered c.args.space.now.events v (view c.args.desk.now) (view c.pick_first.new.desk) c.args.object c.args.own.now js (k + 1) (replicate 16 None) c.args.members.now z.0 c.args.nexts.now z.1) (λ x. (sym c.push.ensures x, sym c.push-in-Take.ensures x))
          (first_more c.args.space.now.events v (view c.args.desk.now) (view c.loop-method.desk) (view c.pick_first.new.desk) c.args.object c.args.own.now js k c.loop-method-test.true (replicate 16 None) c.args.members.now c.loop-method.members c.args.nexts.now c.loop-method.nexts part c.requires.methods.1 c.in-Take.i c.in-Take.next first)),
    )

pub returns-in-Stuck-clause-gathered : goal.returns-in-Stuck-clause-gathered
returns-in-Stuck-clause-gathered g c v t =
    let js = c.args.methods.now in let k = c.loop-method.method-index in let part = c.loop-method.invariant.3 v t in
    let first = subst (λ (p : Pick). PickedFirst c.args.space.now.events v (view c.loop-method.desk) (view c.pick_first.new.desk) c.args.object c.args.own.now (slice_index_or js k 0) part.known p) c.in-Stuck.is (c.pick_first.ensures.picked v part.known part.part.stands (part.left k (omega arith) c.loop-method-test.true) (at_method (heads c.args.space.now) c.args.space.now.heads js k part.known c.args.space.now.sized.5 c.args.space.now.sized.6 part.long (c.requires.methods.0 (slice_index_or js k 0) (has_at js k c.loop-method-test.true)))) in
    (first.after, first_stuck c.args.space.now.events v (view c.args.desk.now) (view c.loop-method.desk) (view c.pick_first.new.desk) c.args.object c.args.own.now js k c.loop-method-test.true (replicate 16 None) c.args.members.now c.loop-method.members c.args.nexts.now c.loop-method.nexts part c.in-Stuck.busy first, first_bare c.args.space.now.events v (view c.args.desk.now) (view c.loop-method.desk) (view c.pick_first.new.desk) c.args.object c.args.own.now js k c.loop-method-test.true (replicate 16 None) c.args.members.now c.loop-method.members c.args.nexts.now c.loop-method.nexts part c.in-Stuck.busy first)

pub returns-clause-gathered : goal.returns-clause-gathered
returns-clause-gathered g c v t =
    let js = c.args.methods.now in let part = c.loop-method.invariant.3 v t in
    (part.known, part_all c.args.space.now.events v (view c.args.desk.now) (view c.loop-method.desk) c.args.object c.args.own.now js (drop c.loop-method.method-index js) (replicate 16 None) part.known c.args.members.now c.loop-method.members c.args.nexts.now c.loop-method.nexts (drop_of_length-le js c.loop-method-test.false) part.part, λ q e. absurd (part.none q e))
