use Rattle.std.proofs.Common.{◌≡◌, ◌<◌, ℕ, List, Some, length, map, slice_get, inr, sym, ap, ◌∙◌, subst, arith}
use Rattle.std.proofs.lemmas.List.{length-map}
use Rattle.chord_code.specs.declared.parts.ChordLine.{ChordLine}
use Rattle.chord_code.specs.declared.parts.Parts.{Parts}
use Rattle.chord_code.specs.Laws.{ChordsAreRight}
use Rattle.chord_code.specs.Meaning.{methods_of, chord_lines, code_program}
use Rattle.chord_rule.specs.Made.{key}
use Rattle.chord_rule.specs.Kinds.{is_down}
use Rattle.chord_rule.specs.Tells.{IsLook}
use Rattle.chord_word.specs.declared.cells.Cell.{Cell}
use Rattle.chord_space.specs.Desks.{view, program_of, space_limits}
use Rattle.chord_space.specs.Widest.{widest}
use Rattle.chord_space.proofs.Widths.{chord_within}
use Rattle.chord_match.specs.declared.search.Verdict.{Verdict}
use Rattle.chord_match.specs.declared.search.Verdict.TheVariants as a_verdict
use Rattle.chord_match.proofs.Finds.{Tells, told_through, stands_read, down_rests, claimed_by_another}
use Rattle.chord_match.proofs.search.find.Given.{Over}
use Rattle.chord_match.proofs.search.find.Goals.{After-through}
use Rattle.chord_match.proofs.search.find.Goals as goal

pub through-requires-clause-lines : goal.through-requires-clause-lines
through-requires-clause-lines g c =
    let o = c.args.object in let p = program_of c.args.space.now in let lines = c.chords-lines.result.now in
    let right = subst (λ (z : Parts). ChordsAreRight (code_program z (space_limits c.args.space.now))) c.requires.code (c.chords_are_right.ensures (space_limits c.args.space.now)) in
    let same : map methods_of lines ≡ p.chords o.class = ap (map methods_of) (c.chords-lines.ensures.chords ∙ ap (λ (z : Parts). chord_lines z o.class) c.requires.code) in
    let few = right.few_chords o.class in let mapped = length-map lines methods_of in let long = ap length same in
    (omega (arith, few, mapped, long), (λ k js e. let here : slice_get (p.chords o.class) k ≡ Some js = ap (λ (z : List (List ℕ)). slice_get z k) (sym same) ∙ e in ((λ j y. subst (λ (z : Parts). j < widest z) c.requires.code (chord_within c.args.code.now c.chords-lines.ensures.valid o.class k j js (ap (λ (z : List ChordLine). slice_get (map methods_of z) k) (sym c.chords-lines.ensures.chords) ∙ e) y)), right.few_headers o.class k js here, right.different o.class k js here)))

pub through-requires-clause-searching : goal.through-requires-clause-searching
through-requires-clause-searching g c =
    let s = c.args.space.now in let u = view c.look_cell-word.new.desk in let word = c.look_cell-word.result in
    let look = subst (λ (z : Cell). IsLook s.events (view c.args.desk.now) u c.args.m (record { cell = z; next = word.next })) c.in-Pending.is c.look_cell-word.ensures.looked in
    (u, stands_read s.events (view c.args.desk.now) u c.args.object (record { message = c.args.m; method = c.args.method; next = word.next }) look c.requires.bounds.0 c.requires.duty)

pub rest-requires-clause-may : goal.rest-requires-clause-may
rest-requires-clause-may g c =
    down_rests (program_of c.args.space.now) (view c.args.desk.now) (view c.look_cell-word.new.desk) c.args.m (key c.args.object c.args.method) c.look_cell-word.result c.look_cell-word.ensures.looked.looked (ap is_down c.in-Consumed.is) c.requires.duty

pub rest-requires-in-Woken-clause-may : goal.rest-requires-in-Woken-clause-may
rest-requires-in-Woken-clause-may g c =
    down_rests (program_of c.args.space.now) (view c.args.desk.now) (view c.look_cell-word.new.desk) c.args.m (key c.args.object c.args.method) c.look_cell-word.result c.look_cell-word.ensures.looked.looked (ap is_down c.in-Woken.is) c.requires.duty

pub returns-in_default : goal.returns-in_default
returns-in_default g c =
    let word = c.look_cell-word.result in let d = c.requires.duty in let e = c.look_cell-word.ensures in
    record {
      desk = e.desk;
      finding = claimed_by_another (program_of c.args.space.now) c.args.space.now.events (view c.args.desk.now) (view c.look_cell-word.new.desk) c.args.m c.args.object c.args.method word.next word.cell c.requires.bounds.0 e.looked.looked (e.looked.armed (d.0, d.1, d.2)) (λ a. e.looked.alone a (inr (d.0, d.1, d.2))) c.in_default.not-Pending c.in_default.not-Consumed c.in_default.not-Woken;
    }

-- what the verdict says, since the message was read pending
module _ (g : Over) (c : After-through g) where
  abbrev Told : Verdict → Type 0
  Told t = Tells c.args.space.now.events (program_of c.args.space.now) (view c.args.desk.now) (view c.through.new.desk) c.args.object (record { message = c.args.m; method = c.args.method; next = c.look_cell-word.result.next }) c.through.new.members c.through.new.nexts t

  told : Told c.through.result
  told =
      let s = c.args.space.now in let o = c.args.object in let lines = c.chords-lines.result.now in
      let right = subst (λ (z : Parts). ChordsAreRight (code_program z (space_limits s))) c.requires.code (c.chords_are_right.ensures (space_limits s)) in
      let low : o.number < 65536 = (let a = c.requires.bounds.1 in let b = s.sized.4 in omega (arith, a, b)) in
      let few : c.args.method < 16 = (let a = c.requires.bounds.3 in let is = s.sized.5 in let b = s.sized.6 in omega (arith, a, is, b)) in
      let same = ap (map methods_of) (c.chords-lines.ensures.chords ∙ ap (λ (z : Parts). chord_lines z o.class) c.requires.code) in
      told_through s.events (program_of s) (view c.args.desk.now) (view c.look_cell-word.new.desk) (view c.through.new.desk) o c.args.m c.args.method c.look_cell-word.result (map methods_of lines) c.through.new.members c.through.new.nexts c.through.result
      right low few same c.look_cell-word.ensures.looked c.in-Pending.is c.requires.bounds.0 c.requires.duty c.through.ensures.through

pub rest-requires-2-clause-may : goal.rest-requires-2-clause-may
rest-requires-2-clause-may g c =
    let a = (goal.at.rest-requires-2-clause-may g c).After-through in (subst (Told g a) (c.in-Without-None.is ∙ ap a_verdict.Without c.in-Without-None.field-0-is) (told g a)).1

pub returns-in-Match-clause-finding : goal.returns-in-Match-clause-finding
returns-in-Match-clause-finding g c = let a = (goal.at.returns-in-Match-clause-finding g c).After-through in subst (Told g a) c.in-Match.is (told g a)

pub returns-in-Without-Some-clause-finding : goal.returns-in-Without-Some-clause-finding
returns-in-Without-Some-clause-finding g c =
    let a = (goal.at.returns-in-Without-Some-clause-finding g c).After-through in subst (Told g a) (c.in-Without-Some.is ∙ ap a_verdict.Without c.in-Without-Some.field-0-is) (told g a)

pub returns-clause-finding : goal.returns-clause-finding
returns-clause-finding g c =
    let a = (goal.at.returns-clause-finding g c).After-through in
    inr (view c.through.new.desk, (subst (Told g a) (c.in-Without-None.is ∙ ap a_verdict.Without c.in-Without-None.field-0-is) (told g a)).0, c.rest-2.ensures.desk.1)
