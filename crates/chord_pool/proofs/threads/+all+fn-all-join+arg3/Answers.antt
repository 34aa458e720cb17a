use denote.Param.Send.{sendable, param_send, param_sync, arg_send}
use Rattle.std.proofs.Crossing.{crosses}
use denote.Exit.{no}
use denote.Param.{param}
use Rattle.chord_pool.proofs.threads.+all+fn-all-join+arg3.Lts-all as lts
use Rattle.chord_pool.proofs.Crossing.{player_sent, one_goes}
use Rattle.std.proofs.Common.{List, ◌∷◌, ◌++◌, [], ◌∙◌, length, length-append, ap, sym, subst, arith}
use Rattle.chord_pool.specs.declared.player.Player.{Player}
use Rattle.chord_pool.specs.Players.{HaveAllPlayed, HaveAllLeftOff}
use Rattle.chord_pool.proofs.Handing.{played_more}
use Rattle.chord_pool.proofs.Rounds.{left_off_more, left_off_none}
use Rattle.chord_pool.proofs.threads.+all+fn-all-join+arg3.Goals as goal

pub back-requires : goal.back-requires
back-requires g t c = let others = c.join-one.ensures.second in record { room = omega (arith, others.1, others.2, c.in-Some.ensures.room) }

pub returns-clause-played : goal.returns-clause-played
returns-clause-played g t c =
    let s = c.args.run.now.space.now in
    subst (HaveAllPlayed s) (sym c.back.ensures.items) (played_more s c.join-one.result.1.items c.join-one.result.0 c.join-one.ensures.second.0 c.join-one.ensures.first.0)

pub returns-in_default-clause-off : goal.returns-in_default-clause-off
returns-in_default-clause-off g t c = left_off_none g.G.Gate.knows c.args.run.now.space.now _ _ c.in_default.ensures.empty.0 c.in_default.ensures.empty.1

pub returns-clause-off : goal.returns-clause-off
returns-clause-off g t c =
    let s = c.args.run.now.space.now in
    subst (λ (l : List Player). HaveAllLeftOff g.G.Gate.knows s l c.back.result.items) (sym c.in-Some.ensures.items)
    (subst (HaveAllLeftOff g.G.Gate.knows s (c.last.new.players.items ++ c.in-Some.one ∷ [])) (sym c.back.ensures.items)
    (left_off_more g.G.Gate.knows s c.last.new.players.items c.join-one.result.1.items c.in-Some.one c.join-one.result.0 c.join-one.ensures.second.3 c.join-one.ensures.first.1))

pub returns-clause-count : goal.returns-clause-count
returns-clause-count g t c =
    ap length c.back.ensures.items ∙ length-append c.join-one.result.1.items (c.join-one.result.0 ∷ []) ∙ (let others = c.join-one.ensures.second.1 in let all = ap length c.in-Some.ensures.items in let ends = length-append c.last.new.players.items (c.in-Some.one ∷ []) in omega (arith, others, all, ends))

pub returns-clause-room : goal.returns-clause-room
returns-clause-room g t c = let others = c.join-one.ensures.second.2 in let room = c.back.ensures.room in let same = c.in-Some.ensures.room in omega (arith, others, room, same)

pub join-one-requires-send-F : goal.join-one-requires-send-F
join-one-requires-send-F g t c κs within = param_send 1 (lts.arg-1-1 g.row.R g.row.G g.R.laws g.G.laws g.R.Threads-dict g.R.Wait-dict g.G.Gate-dict κs) (arg_send _ no _ (one_goes (param 1 g.row.G) (param 0 g.row.R) _ _ _ _ _ _ _ _ _ _ _ (search param_sync) (search param_sync)))

pub join-one-requires-send-A : goal.join-one-requires-send-A
join-one-requires-send-A g t c κs within = search (player_sent, sendable, crosses) depth 60 fits 20000
