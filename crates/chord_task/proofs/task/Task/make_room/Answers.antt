use Rattle.std.proofs.Common.{◌≡◌, None, IsSomeAnd, Global, Vec, vec_capacity}
use Rattle.chord_base.specs.declared.value.Value.{Value}
use Rattle.chord_task.specs.Turning.{text_of_ask}
use Rattle.chord_task.proofs.Tasks.{on_ok_follows}
use Rattle.chord_task.proofs.task.Task.make_room.Goals as goal

pub returns-clause-lean : goal.returns-clause-lean
returns-clause-lean c =
    on_ok_follows (c.copy_text.new.second ≡ text_of_ask c.args.asked.now) (c.args.self.now.values ≡ None → IsSomeAnd c.take_room.new.self.values (λ (list : Vec Value Global). vec_capacity list ≡ 64)) c.copy_text.result
    (λ _. c.in_ok-take_room.ensures.lean) c.copy_text.ensures.second
