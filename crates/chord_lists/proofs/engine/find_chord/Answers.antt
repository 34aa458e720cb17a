use Rattle.std.proofs.Common.{arith}
use Rattle.std.proofs.lemmas.Option.{slice_get_within}
use Rattle.chord_lists.specs.Bag.{numbers_of}
use Rattle.chord_lists.proofs.Lacking.{lack_past, lacks_one, all_lack}
use Rattle.chord_lists.proofs.engine.find_chord.Goals as goal

pub overflow_add-from : goal.overflow_add-from
overflow_add-from g c = let below = c.in-Some.ensures.chord.numbered in omega (arith, below)

pub loop-found-smaller : goal.loop-found-smaller
loop-found-smaller g c =
    let chords = (g.P.Playable.program c.args.program.now).chords c.args.object.class in
    let from = c.in-Some.ensures.from in
    let within = slice_get_within chords c.in-Some.found.chord c.in-Some.found.methods.now c.in-Some.ensures.chord.is in
    omega (arith, from, within)

pub loop-found-preserved : goal.loop-found-preserved
loop-found-preserved g c =
    let chords = (g.P.Playable.program c.args.program.now).chords c.args.object.class in
    let index = numbers_of c.args.bag.now in
    let before = lack_past chords c.args.object c.args.method index c.loop-found.from c.in-Some.found.chord c.in-Some.ensures.skipped c.loop-found.invariant in
    lacks_one chords c.args.object c.args.method index c.in-Some.found.chord c.in-Some.found.methods.now c.in-Some.ensures.chord.is (c.has_all.ensures.no c.if-has_all.false) before

pub returns-clause-none : goal.returns-clause-none
returns-clause-none g c =
    let chords = (g.P.Playable.program c.args.program.now).chords c.args.object.class in
    all_lack chords c.args.object c.args.method (numbers_of c.args.bag.now) c.loop-found.from c.in_default.ensures.none c.loop-found.invariant
