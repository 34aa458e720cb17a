use Rattle.std.proofs.Common.{sym, ◌∙◌, arith, map}
use Rattle.chord_code.specs.Meaning.{methods_of}
use Rattle.chord_code.proofs.Headers.{lack_more, methods_at}
use Rattle.chord_lists.proofs.CodeChords.{lines_few, chord_there}
use Rattle.chord_lists.proofs.code_play.CodePlayPlayable.chord_with.Goals as goal

pub overflow_cast-result : goal.overflow_cast-result
overflow_cast-result c =
    let most = lines_few c.args.self.now.code.now c.args.class c.chords-lines.result.now c.chords-lines.ensures.valid c.chords-lines.ensures.chords in
    omega (arith, c.loop-at-test.true, most)

pub returns-then-has-clause-chord : goal.returns-then-has-clause-chord
returns-then-has-clause-chord c =
    chord_there c.args.self.now.code.now c.args.self.now.limits.now c.args.class c.loop-at.at c.chords-lines.result.now c.index-lines-at-then-has.result c.items.result.now
    c.chords-lines.ensures.valid c.chords-lines.ensures.chords c.loop-at-test.true c.items.ensures.numbers c.items.ensures.few

pub loop-at-preserved : goal.loop-at-preserved
loop-at-preserved c =
    let lines = c.chords-lines.result.now in
    let there = methods_at lines c.loop-at.at c.index-lines-at.result c.loop-at-test.true in
    let before = c.loop-at.invariant in
    let from = before.0 in
    (omega (arith, from), lack_more c.args.method (map methods_of lines) c.args.from c.loop-at.at _ there (sym c.has.ensures ∙ c.if-has.false) before.1)
