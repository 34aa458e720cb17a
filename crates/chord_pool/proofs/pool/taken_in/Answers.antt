use Rattle.chord_pool.proofs.pool.taken_in.Goals as goal

pub take_all-requires : goal.take_all-requires
take_all-requires c = record { back = c.requires.back c.if-main.false }
