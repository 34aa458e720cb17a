use Rattle.std.proofs.Common.{arith}
use Rattle.chord_lists.proofs.CodeChords.{lines_count, methods_there}
use Rattle.chord_lists.proofs.code_play.CodePlay.methods.Goals as goal

pub bounds-chords-chord : goal.bounds-chords-chord
bounds-chords-chord c =
    let count = lines_count c.args.self.now.code.now c.args.self.now.limits.now c.args.class c.chords.result.now c.chords.ensures.chords in
    omega (arith, count, c.requires)

pub returns : goal.returns
returns c =
    let lines = c.chords.result.now in
    let count = lines_count c.args.self.now.code.now c.args.self.now.limits.now c.args.class lines c.chords.ensures.chords in
    methods_there c.args.self.now.code.now c.args.self.now.limits.now c.args.class c.args.chord lines c.index-chords-chord.result c.items.result.now c.chords.ensures.chords
    (omega (arith, count, c.requires)) c.items.ensures.numbers
