use Rattle.std.proofs.Common.{◌≡◌, ◌+◌, ℕ, List, Option, Some, None, length, map, replicate, slice_get, refl, sym, ap, ◌∙◌, subst, arith}
use Rattle.chord_code.specs.Meaning.{methods_of}
use Rattle.chord_space.specs.Desks.{view}
use Rattle.chord_match.specs.declared.search.Step.{Step}
use Rattle.chord_match.specs.Searching.{Gathered, AreStuck}
use Rattle.chord_match.specs.Noting.{all_told}
use Rattle.chord_match.proofs.Chords.{chord_line_at, all_lines, are_kept, are_more, none_stuck, all_stuck, told_held, beside_more}
use Rattle.chord_match.proofs.Finds.{beside_none}
use Rattle.chord_match.proofs.Knowing.{all_gathered}
use Rattle.chord_match.proofs.search.through_several.Goals as goal

-- no chord before the first of them has the method
pub loop-at-init : goal.loop-at-init
loop-at-init g c = let most = c.requires.from.0 in (
  c.requires.desk,
  (refl, refl),
  (omega arith, most, c.requires.from.2),
  (λ v t. (t, none_stuck c.args.own.now (map methods_of c.args.lines.now) c.args.from (replicate 16 None) c.requires.from.1, beside_none c.args.own.now (map methods_of c.args.lines.now))),
)

pub loop-at-smaller : goal.loop-at-smaller
loop-at-smaller g c = let on = c.line_behind-at.ensures.place in let low = c.loop-at-test.true in omega (arith, on, low)

pub gather-requires-clause-methods : goal.gather-requires-clause-methods
gather-requires-clause-methods g c =
    let here : slice_get (map methods_of c.args.lines.now) c.loop-at.at ≡ Some c.items-methods.result.now = chord_line_at c.args.lines.now c.loop-at.at c.index-lines-at.result c.index-lines-at.is c.loop-at-test.true ∙ ap (λ (z : List ℕ). Some z) (ap methods_of c.index-lines-at.is ∙ sym c.items-methods.ensures.numbers) in
    (c.requires.lines.1 c.loop-at.at c.items-methods.result.now here).0

pub gather-requires-clause-room : goal.gather-requires-clause-room
gather-requires-clause-room g c =
    let here : slice_get (map methods_of c.args.lines.now) c.loop-at.at ≡ Some c.items-methods.result.now = chord_line_at c.args.lines.now c.loop-at.at c.index-lines-at.result c.index-lines-at.is c.loop-at-test.true ∙ ap (λ (z : List ℕ). Some z) (ap methods_of c.index-lines-at.is ∙ sym c.items-methods.ensures.numbers) in
    let few = (c.requires.lines.1 c.loop-at.at c.items-methods.result.now here).1 in let members = ap length c.clear.ensures in let nexts = ap length c.clear-in-loop-at.ensures in
    (omega (arith, few, members), omega (arith, few, nexts))

-- the search goes on from chord to chord
pub gather-requires-clause-searching : goal.gather-requires-clause-searching
gather-requires-clause-searching g c = let s = c.requires.searching in (s.0, (c.loop-at.invariant.3 s.0 s.1).0)

pub returns-in-All-clause-through : goal.returns-in-All-clause-through
returns-in-All-clause-through g c v t =
    let i = c.loop-at.invariant in let before = i.3 v t in let s = before.0 in
    let o = subst (λ (z : Step). Gathered c.args.space.now.events v (view c.loop-at.desk) (view c.gather.new.desk) c.args.object c.args.own.now c.items-methods.result.now (all_told c.loop-at.known) (all_told c.gather.new.known) c.clear.new.members c.gather.new.members c.clear-in-loop-at.new.self c.gather.new.nexts z) c.in-All.is (c.gather.ensures.gathered v s) in
    let here : slice_get (map methods_of c.args.lines.now) c.loop-at.at ≡ Some c.items-methods.result.now = chord_line_at c.args.lines.now c.loop-at.at c.index-lines-at.result c.index-lines-at.is c.loop-at-test.true ∙ ap (λ (z : List ℕ). Some z) (ap methods_of c.index-lines-at.is ∙ sym c.items-methods.ensures.numbers) in
    let all = all_gathered c.args.space.now.events v (view c.loop-at.desk) (view c.gather.new.desk) c.args.object c.args.own.now c.items-methods.result.now (all_told c.loop-at.known) (all_told c.gather.new.known) c.clear.new.members c.gather.new.members c.clear-in-loop-at.new.self c.gather.new.nexts c.clear.ensures c.clear-in-loop-at.ensures o in
    (all_told c.gather.new.known, record { stands = o.moves.stands; verdict = (c.items-methods.result.now, here, i.2.2 c.items-methods.result.now here, all.0, all.1); beside = beside_more c.args.own.now (map methods_of c.args.lines.now) c.loop-at.at c.items-methods.result.now (all_told c.loop-at.known) (all_told c.gather.new.known) here (i.2.2 c.items-methods.result.now here) before.2 o.learns })

pub line_behind-at-requires-clause-second : goal.line_behind-at-requires-clause-second
line_behind-at-requires-clause-second g c =
    let before = c.loop-at.invariant.2.0 in let second = c.requires.second in (second.0, (λ q js a b e. second.1 q js (omega (arith, a, before)) b e), second.2)

pub loop-at-preserved : goal.loop-at-preserved
loop-at-preserved g c =
    let here : slice_get (map methods_of c.args.lines.now) c.loop-at.at ≡ Some c.items-methods.result.now = chord_line_at c.args.lines.now c.loop-at.at c.index-lines-at.result c.index-lines-at.is c.loop-at-test.true ∙ ap (λ (z : List ℕ). Some z) (ap methods_of c.index-lines-at.is ∙ sym c.items-methods.ensures.numbers) in
    let i = c.loop-at.invariant in let own = c.args.own.now in let jss = map methods_of c.args.lines.now in
    let on = c.line_behind-at.ensures.place in let before = i.2.0 in let behind = on.0 in (
      c.gather.ensures.desk.0 ∙ i.0,
      (c.gather.ensures.desk.0 ∙ i.1.0, c.gather.ensures.desk.1 ∙ i.1.1),
      (omega (arith, before, behind), on.1, c.line_behind-at.ensures.here),
      (λ v t. let s = i.3 v t in
          let o = subst (λ (z : Step). Gathered c.args.space.now.events v (view c.loop-at.desk) (view c.gather.new.desk) c.args.object c.args.own.now c.items-methods.result.now (all_told c.loop-at.known) (all_told c.gather.new.known) c.clear.new.members c.gather.new.members c.clear-in-loop-at.new.self c.gather.new.nexts z) c.in-Stuck.is (c.gather.ensures.gathered v s.0) in
          let kept = are_kept own jss c.loop-at.at (all_told c.loop-at.known) (all_told c.gather.new.known) c.loop-at.busy o.moves.kept s.1 in
          let more = are_more own jss c.loop-at.at c.items-methods.result.now (all_told c.gather.new.known) c.loop-at.busy c.in-Stuck.more here (i.2.2 c.items-methods.result.now here) o.gathered kept in (
            o.moves.stands,
            subst (λ (z : Option ℕ). AreStuck own jss c.line_behind-at.result (all_told c.gather.new.known) z) (sym c.first-busy.ensures)
                (all_stuck own jss (c.loop-at.at + 1) c.line_behind-at.result (all_told c.gather.new.known) _ (omega (arith, behind)) c.line_behind-at.ensures.skipped more),
            beside_more own jss c.loop-at.at c.items-methods.result.now (all_told c.loop-at.known) (all_told c.gather.new.known) here (i.2.2 c.items-methods.result.now here) s.2 o.learns,
          )),
    )

-- the methods of the chords have their notes
pub held_up-requires : goal.held_up-requires
held_up-requires g c = record {
  lines = λ k js e j y.
      let low = (c.requires.lines.1 k js e).0 j y in let is = c.args.space.now.sized.5 in let few = c.args.space.now.sized.6 in omega (arith, low, is, few);
}

-- a message was in the way, so the chords are gone through once more
pub returns-in-Some-clause-through : goal.returns-in-Some-clause-through
returns-in-Some-clause-through g c v t =
    let s = c.loop-at.invariant.3 v t in let own = c.args.own.now in let lines = c.args.lines.now in let known = all_told c.loop-at.known in
    let all = all_lines own lines c.loop-at.at known c.loop-at.busy c.loop-at-test.false c.loop-at.invariant.2.1 s.1 in
    (known, record { stands = s.0; verdict = told_held own (map methods_of lines) known s.2 c.loop-at.busy c.held_up.result all c.held_up.ensures; beside = s.2 })

pub returns-in-None-clause-through : goal.returns-in-None-clause-through
returns-in-None-clause-through g c v t =
    let s = c.loop-at.invariant.3 v t in let own = c.args.own.now in let lines = c.args.lines.now in let known = all_told c.loop-at.known in
    let all = all_lines own lines c.loop-at.at known c.loop-at.busy c.loop-at-test.false c.loop-at.invariant.2.1 s.1 in
    (known, record { stands = s.0; verdict = subst (λ (b : Option ℕ). AreStuck own (map methods_of lines) (length (map methods_of lines)) known b) c.in-None.is all; beside = s.2 })
