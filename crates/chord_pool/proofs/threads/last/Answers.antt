use Rattle.chord_pool.proofs.Handing.{taken_hired}
use Rattle.chord_pool.proofs.threads.last.Goals as goal

pub returns-clause-hired : goal.returns-clause-hired
returns-clause-hired c = taken_hired c.args.run.now.space.now c.args.players.now.items c.pop.new.self.items c.pop.result c.pop.ensures.items c.requires.hired
