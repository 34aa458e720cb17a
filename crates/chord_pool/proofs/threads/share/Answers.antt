use denote.Exit.{yes}
use denote.Param.Send.{sendable, param_send, arg_send}
use Rattle.std.proofs.Crossing.{crosses}
use Rattle.chord_pool.proofs.Crossing.{player_sent, others_go}
use Rattle.chord_pool.proofs.threads.share.Goals as goal

pub returns-clause-main : goal.returns-clause-main
returns-clause-main g c = (c.join-back.ensures.second.0, c.join-back.ensures.second.1)

pub returns-clause-told : goal.returns-clause-told
returns-clause-told g c = c.join-back.ensures.second.2

pub returns-clause-others : goal.returns-clause-others
returns-clause-others g c = (c.join-back.ensures.first.0, c.join-back.ensures.first.1)

pub returns-clause-off : goal.returns-clause-off
returns-clause-off g c = (c.join-back.ensures.second.3, c.join-back.ensures.first.2)

pub join-back-requires-send-F : goal.join-back-requires-send-F
join-back-requires-send-F g c κs within = param_send 1 _ (arg_send _ yes _ (others_go _ _ _ _ _ _ _ _ _ _ _ _ _ c.type_bounds.sync-G c.type_bounds.sync-R))

pub join-back-requires-send-A : goal.join-back-requires-send-A
join-back-requires-send-A g c κs within = search (player_sent, sendable, crosses) depth 60 fits 20000
