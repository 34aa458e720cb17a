use Rattle.std.proofs.Common.{◌≡◌, ◌+◌, ℕ, List, Some, None, length, map, replicate, slice_get, sym, ap, ◌∙◌, arith}
use Rattle.std.proofs.lemmas.List.{length-map}
use Rattle.chord_code.specs.Headers.{LackHeader}
use Rattle.chord_code.specs.Meaning.{methods_of}
use Rattle.chord_space.specs.Desks.{view}
use Rattle.chord_match.proofs.Chords.{chord_line_at, one_without, beside_more}
use Rattle.chord_match.proofs.Finds.{beside_none}
use Rattle.chord_match.proofs.Knowing.{all_gathered}
use Rattle.chord_match.proofs.search.through.Goals as goal

pub gather_one-requires-clause-methods : goal.gather_one-requires-clause-methods
gather_one-requires-clause-methods g c =
    let js = c.items-methods.result.now in let at = c.line_with-at.result in let most = c.line_with-at.ensures.place.1 in let other = c.if-at-lines.false in
    let here : slice_get (map methods_of c.args.lines.now) at ≡ Some js = chord_line_at c.args.lines.now at c.index-lines-at.result c.index-lines-at.is (omega (arith, most, other)) ∙ ap (λ (z : List ℕ). Some z) (ap methods_of c.index-lines-at.is ∙ sym c.items-methods.ensures.numbers) in
    let right = c.requires.lines.1 at js here in (right.0, right.2)

pub returns-in-All-clause-through : goal.returns-in-All-clause-through
returns-in-All-clause-through g c v t =
    let js = c.items-methods.result.now in let at = c.line_with-at.result in let most = c.line_with-at.ensures.place.1 in let other = c.if-at-lines.false in
    let here : slice_get (map methods_of c.args.lines.now) at ≡ Some js = chord_line_at c.args.lines.now at c.index-lines-at.result c.index-lines-at.is (omega (arith, most, other)) ∙ ap (λ (z : List ℕ). Some z) (ap methods_of c.index-lines-at.is ∙ sym c.items-methods.ensures.numbers) in
    let got = c.in-All.ensures.gathered v t in
    let all = all_gathered c.args.space.now.events v (view c.args.desk.now) (view c.gather_one.new.desk) c.args.object c.args.own.now js (replicate 16 None) got.0 c.args.members.now c.gather_one.new.members c.args.nexts.now c.gather_one.new.nexts c.requires.empty.0 c.requires.empty.1 got.1 in
    (got.0, record { stands = got.1.moves.stands; verdict = (js, here, c.line_with-at.ensures.here js here, all.0, all.1); beside = beside_more c.args.own.now (map methods_of c.args.lines.now) at js (replicate 16 None) got.0 here (c.line_with-at.ensures.here js here) (beside_none c.args.own.now (map methods_of c.args.lines.now)) got.1.learns })

pub returns-in-Stuck-clause-through : goal.returns-in-Stuck-clause-through
returns-in-Stuck-clause-through g c v t =
    let js = c.items-methods.result.now in let at = c.line_with-at.result in let most = c.line_with-at.ensures.place.1 in let other = c.if-at-lines.false in
    let here : slice_get (map methods_of c.args.lines.now) at ≡ Some js = chord_line_at c.args.lines.now at c.index-lines-at.result c.index-lines-at.is (omega (arith, most, other)) ∙ ap (λ (z : List ℕ). Some z) (ap methods_of c.index-lines-at.is ∙ sym c.items-methods.ensures.numbers) in
    let got = c.in-Stuck.ensures.gathered v t in let jss = map methods_of c.args.lines.now in let own = c.args.own.now in
    let last = c.if-more-lines.false in let long = length-map c.args.lines.now methods_of in
    let off : LackHeader own.method jss (at + 1) (length jss) = λ q ks a b e. c.line_with-more.ensures.skipped q ks a (omega (arith, b, last, long)) e in
    (got.0, record { stands = got.1.moves.stands; verdict = one_without own jss at js got.0 c.in-Stuck.busy here (c.line_with-at.ensures.here js here) got.1.gathered c.line_with-at.ensures.skipped off got.2; beside = beside_more own jss at js (replicate 16 None) got.0 here (c.line_with-at.ensures.here js here) (beside_none own jss) got.1.learns })
