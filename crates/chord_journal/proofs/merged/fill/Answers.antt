use Rattle.chord_journal.proofs.Merging.{hole_filled}
use Rattle.chord_journal.proofs.merged.fill.Goals as goal

pub returns-clause-moved : goal.returns-clause-moved
returns-clause-moved c =
    rw c.replace.ensures.after (hole_filled c.args.entries.now.items c.args.rest.now.items c.take_next.new.rest.items c.args.place c.take_next.result c.requires.hole c.requires.next c.take_next.ensures)
