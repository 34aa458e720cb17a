use Rattle.std.proofs.Common.{rules, ◌≡◌, ◌==◌, ◌+◌, false, length, ◌∙◌, arith}
use Rattle.chord_journal.proofs.Merging.{out_of_place}
use Rattle.chord_journal.proofs.merged.leave_holes.Goals as goal

pub loop-entries-preserved : goal.loop-entries-preserved
loop-entries-preserved c =
    let (same, behind, room) = c.loop-entries.invariant in
    let other : (c.hole.result.number == 0 + length c.loop-entries.entries.items) ≡ false = grind (arith, c.hole.ensures, behind, c.requires.range) in
    let next = out_of_place 0 c.loop-entries.entries.items c.hole.result other in
    (rw c.push_reserved.ensures.items (next ∙ same), search (rules), search (rules))
