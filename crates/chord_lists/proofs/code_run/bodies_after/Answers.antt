use Rattle.std.proofs.Common.{◌<◌, sym, subst, arith, take, reverse, length}
use Rattle.chord_code.specs.Meaning.{code_program}
use Rattle.chord_lists.specs.CodeStands.{StandsAfter}
use Rattle.chord_lists.proofs.Going.{next_entry, begun_first}
use Rattle.chord_lists.proofs.code_run.bodies_after.Goals as goal

pub loop-i-init : goal.loop-i-init
loop-i-init c =
    let code = c.args.program.now.code.now in
    let limits = c.args.program.now.limits.now in
    subst (λ h. StandsAfter code limits c.in_ok-bodies.bodies h) (begun_first (code_program code limits) c.args.entries.now c.requires.some c.start.ensures.chords c.requires.run) c.in_ok-bodies.ensures.bodies

pub replay-requires-clause-later : goal.replay-requires-clause-later
replay-requires-clause-later c =
    let lt : c.loop-i.i < length c.args.entries.now = omega (arith, c.loop-i-test.true) in
    let n = next_entry (code_program c.args.program.now.code.now c.args.program.now.limits.now) c.args.entries.now c.loop-i.i c.index-entries-i.result lt c.index-entries-i.is c.requires.run c.requires.within.within in
    omega (arith, n.number, c.loop-i.auto.i)

pub replay-requires-clause-room : goal.replay-requires-clause-room
replay-requires-clause-room c =
    let lt : c.loop-i.i < length c.args.entries.now = omega (arith, c.loop-i-test.true) in
    let n = next_entry (code_program c.args.program.now.code.now c.args.program.now.limits.now) c.args.entries.now c.loop-i.i c.index-entries-i.result lt c.index-entries-i.is c.requires.run c.requires.within.within in
    omega (arith, n.number, lt, c.requires.within.few)

pub replay-requires-clause-may : goal.replay-requires-clause-may
replay-requires-clause-may c =
    let lt : c.loop-i.i < length c.args.entries.now = omega (arith, c.loop-i-test.true) in
    let n = next_entry (code_program c.args.program.now.code.now c.args.program.now.limits.now) c.args.entries.now c.loop-i.i c.index-entries-i.result lt c.index-entries-i.is c.requires.run c.requires.within.within in
    (reverse (take c.loop-i.i c.args.entries.now), n.played, c.loop-i.invariant, n.follows, n.within)

pub loop-i-preserved : goal.loop-i-preserved
loop-i-preserved c =
    let code = c.args.program.now.code.now in
    let limits = c.args.program.now.limits.now in
    let lt : c.loop-i.i < length c.args.entries.now = omega (arith, c.loop-i-test.true) in
    let n = next_entry (code_program code limits) c.args.entries.now c.loop-i.i c.index-entries-i.result lt c.index-entries-i.is c.requires.run c.requires.within.within in
    subst (λ h. StandsAfter code limits c.replay.new.bodies h) (sym n.more)
    (c.in_ok-replay.ensures.replayed (reverse (take c.loop-i.i c.args.entries.now)) n.played c.loop-i.invariant n.follows n.within)
