use Rattle.std.proofs.Common.{◌≡◌, None, IsSomeAnd, arith, Global, Vec, vec_capacity}
use Rattle.chord_base.specs.declared.value.Value.{Value}
use Rattle.chord_task.specs.Standing.{IsReadyFor, IsReserved}
use Rattle.chord_task.proofs.Tasks.{on_ok_follows}
use Rattle.chord_task.proofs.task.Task.take_room.Goals as goal

pub returns-clause-ready : goal.returns-clause-ready
returns-clause-ready c =
    let some = c.in_ok-reserve_spare.ensures.some in
    let list = c.in_ok-reserve_values.ensures.some in
    let below = c.in_ok-reserve_one-2.ensures.room in
    on_ok_follows (IsReadyFor c.reserve_top.new.top) (IsReserved c.args.code.now (record { past = c.args.self.now.past; top = c.reserve_top.new.top; below = c.reserve_one-2.new.list; spare = c.reserve_spare.new.spare; ended = c.reserve_spare.new.ended; values = c.reserve_values.new.values; limits = c.args.self.now.limits; enclosed = c.args.self.now.enclosed })) c.reserve_top.result
    (λ r. record { below = omega (arith, below); frames = some.0; spare = some.1; room = some.2; values = list; top = r }) c.reserve_top.ensures.ready

pub returns-clause-lean : goal.returns-clause-lean
returns-clause-lean c =
    on_ok_follows (IsReadyFor c.reserve_top.new.top) (c.args.self.now.values ≡ None → IsSomeAnd c.reserve_values.new.values (λ (list : Vec Value Global). vec_capacity list ≡ 64)) c.reserve_top.result
    (λ _. c.in_ok-reserve_values.ensures.lean) c.reserve_top.ensures.ready
