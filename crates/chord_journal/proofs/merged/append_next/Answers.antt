use Rattle.chord_journal.proofs.Merging.{appended_to_placed}
use Rattle.chord_journal.proofs.merged.append_next.Goals as goal

pub returns-clause-moved : goal.returns-clause-moved
returns-clause-moved c =
    rw c.push_reserved.ensures.items (appended_to_placed c.args.entries.now.items c.args.rest.now.items c.take_next.new.rest.items c.take_next.result c.requires.next c.take_next.ensures)
