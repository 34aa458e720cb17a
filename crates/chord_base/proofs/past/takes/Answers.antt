use Rattle.chord_base.proofs.Entries.{has_any}
use Rattle.chord_base.proofs.past.takes.Goals as goal

pub returns-in-Fired : goal.returns-in-Fired
returns-in-Fired c = cc (has_any c.args.number c.items.result.now)
